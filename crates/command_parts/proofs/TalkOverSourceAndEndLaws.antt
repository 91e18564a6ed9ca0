-- A conversation over what a source gives and a sink takes, and what its end says by its status.
use Rattle.std.proofs.Common.{◌≡◌, ◌≢◌, ◌⊎◌, ℕ, ◌≤◌, List, ◌++◌, Option, Some, None, IfSome, IsTrue, refl, sym, ◌∙◌}
use Rattle.std.proofs.Common.{ap}
use Rattle.std.proofs.Common.{subst, inl, inr, arith, codes, append-nil, ◌+◌, ◌*◌, ◌-◌, ◌<◌, false, [], ◌∷◌, length}
use Rattle.std.proofs.Common.{append_assoc, Result, Ok, Err, IfOk, IfErr, OnOk, OnErr, IsErr, drop, length-drop}
use Rattle.std.specs.Io.KnownBytes.{prepend_known, IsAtEnd}
use Rattle.law_model.specs.Common.{one_more, Appends}
use Rattle.command_parts.specs.declared.stop_and_status.Refusal.{Refusal}
use Rattle.command_parts.specs.declared.stop_and_status.Refusal.TheVariants.{Line, Limit}
use Rattle.command_parts.specs.Talk.{Talk, TalkEnd, Said, IsTalk, faulty, long, said}
use Rattle.command_parts.specs.Task.{refused_status}
use Rattle.command_parts.specs.Ends.{Lent, Kept, Quiet, FailedOnce, Takes, IsTold, Comes, by_piece, at_end, HasTalked}
use Rattle.command_parts.specs.Ends.{TalkEnds, IsTalkDone, IsTalkUnread, IsTalkCut, IsTalkEnded, IsTalkShort}
use Rattle.command_parts.specs.Ends.{talk_done, talk_unread, talk_cut, talk_refused, talk_short, talk_long, lent}
use Rattle.command_parts.specs.Status.{is_status, Rises}
use Rattle.std.proofs.lemmas.List.{nil_from_length}
use Rattle.std.proofs.lemmas.Result.{on_ok_weaker, on_err_weaker}
use Rattle.std.proofs.lemmas.Bool.Decides.{nat_tests}
use Rattle.octet_io.proofs.AppendedTextAndPrefixLaws.{Appends-none, Appends-then}
use Rattle.text_lines.specs.Cut.{Lacks}
use Rattle.command_parts.specs.declared.stop_and_status.Ran.{Ran}
use Rattle.command_parts.specs.declared.stop_and_status.Stop.{Stop}
use Rattle.command_parts.specs.declared.stop_and_status.Stop.TheVariants.{Read, TooLong, Refused, Write, Memory}
use Rattle.command_parts.specs.declared.conversation.Listener.{Listener}
use Rattle.command_parts.specs.Dialogue.{Dialogue, Heard, nothing_heard, is_long, waits_at, waits_by, stands_at}
use Rattle.command_parts.specs.Dialogue.{course_of, TalkCourse, said_by, closed, closed_by, talk_of}
use Rattle.command_parts.specs.Gives.{StopsTalk, GivesTalk}
use Rattle.command_parts.specs.Conversation.{IsWritten, IsCutShort, Listens, Stands, HasHeardLines, StopsSaid}
use Rattle.command_parts.proofs.TalkCourseOverOctetsLaws.{course_rest}
use Rattle.command_parts.proofs.ListenerLineAndSaidTextLaws.{not_ok, on_err, said_none}
use Rattle.command_parts.proofs.SourceTextAndStopLaws.{prepended, prepended_none}

-- ---- What the end of a conversation says, fact by fact.
-- a refusal has one of two statuses
pub refused-within : (why : Refusal) → (5 ≤ refused_status why) × (refused_status why ≤ 6)
refused-within Line = (omega arith, omega arith)
refused-within Limit = (omega arith, omega arith)

-- ---- the source
pub comes-quiet : {S : Type 0} (source : Lent S) (talk : Talk) (before : List ℕ) (is : Said) →
    Comes source talk before is → Quiet source
comes-quiet source talk before is (by_piece piece few taken same) = taken.quiet
comes-quiet source talk before is (at_end given quiet same) = quiet

-- the text that a source tells, of which these octets were taken
text-taken : (old new : Option (List ℕ)) (octets text : List ℕ) → old ≡ prepend_known octets new → old ≡ Some text →
    (rest : List ℕ) × (text ≡ octets ++ rest)
text-taken old None octets text given is = absurd (let e : None ≡ Some text = sym given ∙ is in cc)
text-taken old (Some rest) octets text given is =
    let e : Some (octets ++ rest) ≡ Some text = sym given ∙ is in
    let same : text ≡ octets ++ rest = cc in
    (rest, same)

text-whole : (old new : Option (List ℕ)) (text own : List ℕ) → old ≡ prepend_known text new → IsAtEnd new →
    old ≡ Some own → own ≡ text
text-whole old None text own given end is = absurd (let e : None ≡ Some own = sym given ∙ is in cc)
text-whole old (Some rest) text own given end is =
    let e : Some (text ++ rest) ≡ Some own = sym given ∙ is in
    let f : own ≡ text ++ rest = cc in
    f ∙ ap (λ (r : List ℕ). text ++ r) end ∙ append-nil text

if-known : {X : Type 0} (P : X → Type 0) (o : Option X) → ((x : X) → o ≡ Some x → P x) → IfSome o P
if-known P None f = tt
if-known P (Some x) f = f x refl

-- what ended a conversation ends it at the end of the input
ended-whole : {S : Type 0} (source : Lent S) (talk : Talk) (earlier : List ℕ) (is : Said) (end : TalkEnd)
    (text : List ℕ) → IsTalk talk → HasTalked source talk earlier is → is.end ≡ Some end →
    source.octets source.old ≡ Some text → (talk.in_all text).end ≡ None → ⊥
ended-whole source talk earlier is end text makes talked ended known good =
    by (talked.comes)
  where
    by : Comes source talk talked.before is → ⊥
    by (by_piece piece few taken same) =
        let octets = talked.before ++ piece in
        let (rest, whole) = text-taken _ _ octets text taken.given known in
        let stopped : (talk.so_far octets).end ≡ Some end = ap (λ (s : Said). s.end) (sym same) ∙ ended in
        let stays : talk.so_far text ≡ talk.so_far octets =
        ap talk.so_far whole ∙ makes.stays octets rest end stopped in
        let later : (talk.so_far text).end ≡ Some end = ap (λ (s : Said). s.end) stays ∙ stopped in
        let last : (talk.in_all text).end ≡ Some end =
        ap (λ (s : Said). s.end) (makes.stops text end later) ∙ later in
        (let bad : None ≡ Some end = sym good ∙ last in cc)
    by (at_end given quiet same) =
        let own : text ≡ talked.before = text-whole _ _ talked.before text given.given given.end known in
        let last : (talk.in_all text).end ≡ Some end =
        ap (λ (t : List ℕ). (talk.in_all t).end) own ∙ ap (λ (s : Said). s.end) (sym same) ∙ ended in
        (let bad : None ≡ Some end = sym good ∙ last in cc)

-- ---- by the status
module _ {S K E : Type 0} (source : Lent S) (out : Lent K) (notes : Lent E) (talk : Talk) (s : ℕ) where
  pub known : TalkEnds source out notes talk s → IsTrue (is_status s)
  known (talk_done is it told) = rw is refl
  known (talk_unread is it told) = rw is refl
  known (talk_cut is it told) = rw is refl
  known (talk_refused Line note is it told) = rw is refl
  known (talk_refused Limit note is it told) = rw is refl
  known (talk_short is it told) = rw is refl
  known (talk_long is it told) = rw is refl

  -- the least and the greatest status of an end
  abbrev pub range : TalkEnds source out notes talk s → ℕ × ℕ
  range (talk_done is it told) = (0, 0)
  range (talk_unread is it told) = (3, 3)
  range (talk_cut is it told) = (4, 4)
  range (talk_refused why note is it told) = (5, 6)
  range (talk_short is it told) = (7, 7)
  range (talk_long is it told) = (8, 8)

  pub within : (ends : TalkEnds source out notes talk s) → ((range ends).0 ≤ s) × (s ≤ (range ends).1)
  within (talk_done is it told) = (omega (arith, is), omega (arith, is))
  within (talk_unread is it told) = (omega (arith, is), omega (arith, is))
  within (talk_cut is it told) = (omega (arith, is), omega (arith, is))
  within (talk_refused why note is it told) =
      let own = refused-within why in (omega (arith, is, own.0), omega (arith, is, own.1))
  within (talk_short is it told) = (omega (arith, is), omega (arith, is))
  within (talk_long is it told) = (omega (arith, is), omega (arith, is))

  pub never-two : TalkEnds source out notes talk s → s ≡ 2 → ⊥
  never-two (talk_done is it told) at = omega (arith, is, at)
  never-two (talk_unread is it told) at = omega (arith, is, at)
  never-two (talk_cut is it told) at = omega (arith, is, at)
  never-two (talk_refused why note is it told) at = let own = refused-within why in omega (arith, is, own.0, at)
  never-two (talk_short is it told) at = omega (arith, is, at)
  never-two (talk_long is it told) at = omega (arith, is, at)

  pub is-done : TalkEnds source out notes talk s → s ≡ 0 → IsTalkDone source out talk × Kept notes
  is-done (talk_done is it told) at = (it, told)
  is-done ends at = absurd (let is = within ends in omega (arith, is.0, is.1, at))

  pub is-unread : TalkEnds source out notes talk s → s ≡ 3 → IsTalkUnread source out talk
      × IsTold notes (codes "fault: read failed\n")
  is-unread (talk_unread is it told) at = (it, told)
  is-unread ends at = absurd (let is = within ends in omega (arith, is.0, is.1, at))

  pub is-cut : TalkEnds source out notes talk s → s ≡ 4 → IsTalkCut source out talk
      × IsTold notes (codes "fault: write failed\n")
  is-cut (talk_cut is it told) at = (it, told)
  is-cut ends at = absurd (let is = within ends in omega (arith, is.0, is.1, at))

  pub is-refused : TalkEnds source out notes talk s → (s ≡ 5) ⊎ (s ≡ 6) →
      (why : Refusal) × (note : List ℕ) × (s ≡ refused_status why)
      × IsTalkEnded source out talk (faulty why note) × IsTold notes note
  is-refused (talk_refused why note is it told) either = (why, note, is, it, told)
  is-refused ends either = absurd (let is = within ends in
      elim either [ inl at ↦ omega (arith, is.0, is.1, at) | inr at ↦ omega (arith, is.0, is.1, at) ])

  pub is-short : TalkEnds source out notes talk s → s ≡ 7 → IsTalkShort source out
      × IsTold notes (codes "fault: no memory\n")
  is-short (talk_short is it told) at = (it, told)
  is-short ends at = absurd (let is = within ends in omega (arith, is.0, is.1, at))

  pub is-long : TalkEnds source out notes talk s → s ≡ 8 →
      IsTalkEnded source out talk long × IsTold notes (codes "fault: too long\n")
  is-long (talk_long is it told) at = (it, told)
  is-long ends at = absurd (let is = within ends in omega (arith, is.0, is.1, at))

  -- ---- faults
  pub read-quiet : TalkEnds source out notes talk s → s ≢ 3 → Quiet source
  read-quiet (talk_done is it told) three = it.read_quiet
  read-quiet (talk_unread is it told) three = absurd (three is)
  read-quiet (talk_cut is it told) three = comes-quiet source talk _ _ it.talked.comes
  read-quiet (talk_refused why note is it told) three = comes-quiet source talk _ _ it.talked.comes
  read-quiet (talk_short is it told) three = it.quiet
  read-quiet (talk_long is it told) three = comes-quiet source talk _ _ it.talked.comes

  pub write-quiet : TalkEnds source out notes talk s → s ≢ 4 → Quiet out
  write-quiet (talk_done is it told) four = it.written.quiet
  write-quiet (talk_unread is it told) four = it.written.quiet
  write-quiet (talk_cut is it told) four = absurd (four is)
  write-quiet (talk_refused why note is it told) four = it.written.quiet
  write-quiet (talk_short is it told) four = it.nothing.quiet
  write-quiet (talk_long is it told) four = it.written.quiet

  pub cut-once : TalkEnds source out notes talk s → s ≡ 4 → FailedOnce out
  cut-once ends at = let it = (is-cut ends at).0 in it.part.counted ∙ ap one_more it.first.quiet

  -- ---- the text that the source tells
  pub all-said : TalkEnds source out notes talk s → s ≡ 0 → IfSome (source.octets source.old)
      (λ text. ((talk.in_all text).end ≡ None) × Takes out (talk.in_all text).text)
  all-said ends at =
      let it = (is-done ends at).0 in
      if-known _ (source.octets source.old) (λ own known. subst
      (λ (text : List ℕ). ((talk.in_all text).end ≡ None) × Takes out (talk.in_all text).text)
      (sym (text-whole _ _ it.text own it.given.given it.given.end known)) (it.whole, it.written))

  pub complete : TalkEnds source out notes talk s → IsTalk talk → IfSome (source.octets source.old)
      (λ text. (talk.in_all text).end ≡ None → (s ≡ 0) ⊎ ((s ≡ 7)
      ⊎ (Rises (source.faults source.old) (source.faults source.new)
      ⊎ Rises (out.faults out.old) (out.faults out.new))))
  complete (talk_done is it told) makes = if-known _ (source.octets source.old) (λ text known good. inl is)
  complete (talk_unread is it told) makes =
      if-known _ (source.octets source.old)
      (λ text known good. let one = it.failed in inr (inr (inl (omega (arith, one)))))
  complete (talk_cut is it told) makes =
      if-known _ (source.octets source.old)
      (λ text known good. let one = cut-once (talk_cut is it told) is in inr (inr (inr (omega (arith, one)))))
  complete (talk_refused why note is it told) makes =
      if-known _ (source.octets source.old)
      (λ text known good. absurd (ended-whole source talk it.earlier _ (faulty why note) text makes it.talked refl
      known good))
  complete (talk_short is it told) makes = if-known _ (source.octets source.old) (λ text known good. inr (inl is))
  complete (talk_long is it told) makes =
      if-known _ (source.octets source.old)
      (λ text known good. absurd (ended-whole source talk it.earlier _ long text makes it.talked refl known good))

-- ---- A conversation over what a source gives and a sink takes, piece by piece.
-- ---- what waits for its LF
short_by : (heard : Heard) (octet : ℕ) (rest : List ℕ) → length (octet ∷ rest) ≤ 262144 → length heard.lines < 67108864 →
    is_long heard (octet ∷ rest) ≡ false
short_by heard octet rest short few = grind (arith, nat_tests)

pub waits_on : (heard : Heard) (rest : List ℕ) → length rest ≤ 262144 →
    (0 ≡ length rest) ⊎ (length heard.lines < 67108864) → waits_at heard rest ≡ stands_at heard rest None
waits_on heard [] short few = refl
waits_on heard (octet ∷ rest) short (inl none) = absurd (omega arith)
waits_on heard (octet ∷ rest) short (inr few) = ap (waits_by heard (octet ∷ rest)) (short_by heard octet rest short few)

-- where nothing more has come
pub nothing_more : (rest piece octets : List ℕ) → length piece ≡ 0 → octets ≡ rest ++ piece → octets ≡ rest
nothing_more rest piece octets none is =
    is ∙ ap (λ (t : List ℕ). rest ++ t) (nil_from_length piece none) ∙ append-nil rest

-- ---- one step of the loop
-- a line was heard, or more octets wait
pub nearer : (old new len later end at : ℕ) → old ≤ new → new ≤ 67108864 → later + at ≡ end → len < end → later ≤ 262145 →
    (at ≡ 0) ⊎ (old < new) →
    (67108864 - new) * 262146 + (262145 - later) < (67108864 - old) * 262146 + (262145 - len)
nearer old new len later end at rises few is more room (inl none) = omega (arith, rises, few, is, more, room, none)
nearer old new len later end at rises few is more room (inr one) = omega (arith, rises, few, is, more, room, one)

module _ {S K T : Type 0} (left : S → Option (List ℕ)) (faults : S → ℕ) (written : K → Option (List ℕ))
    (breaks : K → ℕ) (Hears : T → Heard → Type 0) (dialogue : Dialogue) (s0 : S) (o0 : K) where
  -- it goes on: all octets so far were heard but a rest without an LF, and all that was said is written
  pub record IsGoing (s : S) (o : K) (listener : Listener T) (rest all : List ℕ) (heard : Heard) : Type 0 where
    pub given : left s0 ≡ prepend_known all (left s)
    pub quiet : faults s ≡ faults s0
    pub goes_on : (more : List ℕ) → course_of (all ++ more) (nothing_heard dialogue) ≡ course_of (rest ++ more) heard
    pub waits : waits_at heard rest ≡ stands_at heard rest None
    pub lacks : Lacks 10 rest
    pub listens : Listens Hears listener heard
    pub writes : Appends written breaks o0 o heard.said

  pub going_none : (listener : Listener T) (rest : List ℕ) → rest ≡ [] → Listens Hears listener (nothing_heard dialogue) →
      IsGoing s0 o0 listener rest [] (nothing_heard dialogue)
  going_none listener rest none listens = record {
    given = prepended_none (left s0);
    quiet = refl;
    goes_on = λ more. ap (λ (t : List ℕ). course_of (t ++ more) (nothing_heard dialogue)) (sym none);
    waits = (let P : List ℕ → Type 0 = λ (t : List ℕ).
        waits_at (nothing_heard dialogue) t ≡ stands_at (nothing_heard dialogue) t None in subst P (sym none) refl);
    lacks = (let P : List ℕ → Type 0 = λ (t : List ℕ). Lacks 10 t in subst P (sym none) (λ i d within. absurd (omega arith)));
    listens = listens;
    writes = Appends-none written breaks o0;
  }

  -- where it stands
  course_now : (all rest : List ℕ) (heard : Heard) →
      ((more : List ℕ) → course_of (all ++ more) (nothing_heard dialogue) ≡ course_of (rest ++ more) heard) →
      Lacks 10 rest → waits_at heard rest ≡ stands_at heard rest None →
      course_of all (nothing_heard dialogue) ≡ stands_at heard rest None
  course_now all rest heard goes_on lacks waits =
      ap (λ (t : List ℕ). course_of t (nothing_heard dialogue)) (sym (append-nil all)) ∙ goes_on []
      ∙ ap (λ (t : List ℕ). course_of t heard) (append-nil rest) ∙ course_rest rest heard lacks ∙ waits

  abbrev own : Talk
  own = talk_of dialogue

  module _ (s : S) (o : K) (listener : Listener T) (rest all : List ℕ) (heard : Heard)
      (going : IsGoing s o listener rest all heard) where
    now : course_of all (nothing_heard dialogue) ≡ stands_at heard rest None
    now = course_now all rest heard going.goes_on going.lacks going.waits

    pub stands_now : (waiting : List ℕ) → waiting ≡ [] →
        Stands Hears written breaks o heard.said listener o waiting heard
    stands_now waiting none =
        record { listens = going.listens; said = said_none written breaks o heard.said waiting none }

    -- a call of the source failed
    pub talk_unread_now : (new : S) → left new ≡ left s → faults new ≡ one_more (faults s) →
        IsTalkUnread (lent left faults s0 new) (lent written breaks o0 o) own
    talk_unread_now new same counted = record {
      taken = all;
      given = going.given ∙ ap (prepend_known all) (sym same);
      failed = counted ∙ ap one_more going.quiet;
      went_on = ap (λ (c : TalkCourse). c.end) now;
      written = (let P : List ℕ → Type 0 = λ (t : List ℕ). Appends written breaks o0 o t in
          subst P (sym (ap (λ (c : TalkCourse). c.heard.said) now)) going.writes);
    }

    -- a piece came, or nothing more
    pub talked_piece : (new : S) (piece : List ℕ) → left s ≡ prepend_known piece (left new) → faults new ≡ faults s →
        length piece ≤ 262145 →
        HasTalked (lent left faults s0 new) own heard.said (said_by (course_of (rest ++ piece) heard))
    talked_piece new piece given quiet few = record {
      before = all;
      went_on = ap (λ (c : TalkCourse). c.end) now;
      is_earlier = ap (λ (c : TalkCourse). c.heard.said) now;
      comes = by_piece piece few
          (record {
            given = going.given ∙ ap (prepend_known all) given ∙ prepended all piece (left new);
            quiet = quiet ∙ going.quiet;
          })
          (ap said_by (sym (going.goes_on piece)));
    }

    pub talked_end : (new : S) (piece : List ℕ) → piece ≡ [] → left s ≡ prepend_known piece (left new) →
        IsAtEnd (left new) → faults new ≡ faults s →
        HasTalked (lent left faults s0 new) own heard.said (closed heard rest)
    talked_end new piece none given end quiet = record {
      before = all;
      went_on = ap (λ (c : TalkCourse). c.end) now;
      is_earlier = ap (λ (c : TalkCourse). c.heard.said) now;
      comes = at_end
          (record {
            given = going.given ∙ ap (prepend_known all)
                (given ∙ ap (λ (t : List ℕ). prepend_known t (left new)) none ∙ sym (prepended_none (left new)));
            end = end;
          })
          (quiet ∙ going.quiet) (ap closed_by (sym now));
    }

    pub talk_done_now : (new : S) (last : K) (piece : List ℕ) → piece ≡ [] → left s ≡ prepend_known piece (left new) →
        IsAtEnd (left new) → faults new ≡ faults s → (closed heard rest).end ≡ None →
        IsWritten written breaks o heard.said last (closed heard rest).text →
        IsTalkDone (lent left faults s0 new) (lent written breaks o0 last) own
    talk_done_now new last piece none given end quiet whole writes = record {
      text = all;
      given = record {
        given = going.given ∙ ap (prepend_known all)
            (given ∙ ap (λ (t : List ℕ). prepend_known t (left new)) none ∙ sym (prepended_none (left new)));
        end = end;
      };
      read_quiet = quiet ∙ going.quiet;
      went_on = ap (λ (c : TalkCourse). c.end) now;
      whole = ap (λ (c : TalkCourse). (closed_by c).end) now ∙ whole;
      written = (let P : List ℕ → Type 0 = λ (t : List ℕ). Appends written breaks o0 last t in
          subst P (sym (ap (λ (c : TalkCourse). (closed_by c).text) now ∙ writes.is))
          (Appends-then written breaks o0 o last heard.said writes.later going.writes writes.appends));
    }

    -- it ended, as far as it was written
    pub talk_cut_now : (source : Lent S) (last : K) (is : Said) → HasTalked source own heard.said is →
        IsCutShort written breaks o heard.said last is.text →
        IsTalkCut source (lent written breaks o0 last) own
    talk_cut_now source last is talked cut = record {
      earlier = heard.said;
      later = cut.later;
      end = is.end;
      talked = (subst (HasTalked source own heard.said) (ap (λ (t : List ℕ). said t is.end) cut.is) talked);
      middle = o;
      first = going.writes;
      part = cut.part;
    }

    talk_ended_now : (source : Lent S) (last : K) (is : Said) (end : TalkEnd) → HasTalked source own heard.said is →
        is.end ≡ Some end → IsWritten written breaks o heard.said last is.text →
        IsTalkEnded source (lent written breaks o0 last) own end
    talk_ended_now source last is end talked ends writes = record {
      earlier = heard.said;
      text = is.text;
      talked = (let P : Said → Type 0 = λ (is : Said). HasTalked source own heard.said is in
          subst P (ap (λ (e : Option TalkEnd). said is.text e) ends) talked);
      written = (let P : List ℕ → Type 0 = λ (t : List ℕ). Appends written breaks o0 last t in
          subst P (sym writes.is) (Appends-then written breaks o0 o last _ _ going.writes writes.appends));
    }

    pub talk_stops_now : (source : Lent S) (last : K) (is : Said) (stop : Stop) → HasTalked source own heard.said is →
        StopsSaid written breaks o heard.said last is stop → StopsTalk source (lent written breaks o0 last) own stop
    talk_stops_now source last is Read talked stops = absurd stops
    talk_stops_now source last is TooLong talked stops =
        talk_ended_now source last is long talked stops.0 stops.1
    talk_stops_now source last is (Refused it) talked stops =
        talk_ended_now source last is (faulty it.why it.note.items) talked stops.0 stops.1
    talk_stops_now source last is Write talked stops = absurd stops
    talk_stops_now source last is Memory talked stops = record {
      quiet = comes-quiet source own _ _ talked.comes;
      nothing = (let P : List ℕ → Type 0 = λ (t : List ℕ). Appends written breaks o0 o t in
          Appends-then written breaks o0 o last [] [] (subst P stops.0 going.writes) stops.1);
    }

    -- ---- what is given
    closing : {X : Type 0} (new : S) (last : K) (piece : List ℕ) (result : Result (Ran X) Stop) → piece ≡ [] →
        left s ≡ prepend_known piece (left new) → IsAtEnd (left new) → faults new ≡ faults s →
        IfOk result (λ (own : Ran X). OnOk own.written (((closed heard rest).end ≡ None)
        × IsWritten written breaks o heard.said last (closed heard rest).text)) →
        IfOk result (λ (own : Ran X). OnErr own.written
        (IsCutShort written breaks o heard.said last (closed heard rest).text)) →
        IfErr result (StopsSaid written breaks o heard.said last (closed heard rest)) →
        GivesTalk (lent left faults s0 new) (lent written breaks o0 last) own (λ _. Unit {0}) result
    closing new last piece (Ok ran) none given end quiet whole cut stops = record {
      ran = record {
        all = on_ok_weaker ran.written (λ it. talk_done_now new last _ none given end quiet it.0 it.1) whole;
        part = on_err_weaker ran.written
            (λ it. talk_cut_now (lent left faults s0 new) last (closed heard rest)
            (talked_end new piece none given end quiet) it) cut;
        made = tt;
      };
      stopped = tt;
    }
    closing new last piece (Err stop) none given end quiet whole cut stops = record {
      ran = tt;
      stopped = talk_stops_now (lent left faults s0 new) last (closed heard rest) stop
          (talked_end new piece none given end quiet) stops;
    }

    -- the input has come to its end
    pub gives_closed : {X : Type 0} (new : S) (last : K) (piece octets : List ℕ) (result : Result (Ran X) Stop) →
        length piece ≡ 0 → octets ≡ rest ++ piece →
        left s ≡ prepend_known piece (left new) → IsAtEnd (left new) → faults new ≡ faults s →
        IfOk result (λ (own : Ran X). OnOk own.written (((closed heard octets).end ≡ None)
        × IsWritten written breaks o heard.said last (closed heard octets).text)) →
        IfOk result (λ (own : Ran X). OnErr own.written
        (IsCutShort written breaks o heard.said last (closed heard octets).text)) →
        IfErr result (StopsSaid written breaks o heard.said last (closed heard octets)) →
        GivesTalk (lent left faults s0 new) (lent written breaks o0 last) own (λ _. Unit {0}) result
    gives_closed new last piece octets result none is given end quiet whole cut stops =
        let same : octets ≡ rest = nothing_more rest piece octets none is in
        closing new last piece result (nil_from_length piece none) given end quiet (rw same at whole) (rw same at cut)
        (rw same at stops)

    -- a piece stopped it
    stopping : {X : Type 0} (new : S) (last : K) (piece : List ℕ) (result : Result (Ran X) Stop) →
        length piece ≤ 262145 → left s ≡ prepend_known piece (left new) → faults new ≡ faults s →
        IfOk result (λ (own : Ran X). IsErr own.written
        × IsCutShort written breaks o heard.said last (said_by (course_of (rest ++ piece) heard)).text) →
        IfErr result (StopsSaid written breaks o heard.said last (said_by (course_of (rest ++ piece) heard))) →
        GivesTalk (lent left faults s0 new) (lent written breaks o0 last) own (λ _. Unit {0}) result
    stopping new last piece (Ok ran) few given quiet cut stops = record {
      ran = record {
        all = not_ok ran.written _ cut.0;
        part = on_err ran.written _
            (talk_cut_now (lent left faults s0 new) last (said_by (course_of (rest ++ piece) heard))
            (talked_piece new piece given quiet few) cut.1);
        made = tt;
      };
      stopped = tt;
    }
    stopping new last piece (Err stop) few given quiet cut stops = record {
      ran = tt;
      stopped = talk_stops_now (lent left faults s0 new) last (said_by (course_of (rest ++ piece) heard)) stop
          (talked_piece new piece given quiet few) stops;
    }

    pub gives_stopped : {X : Type 0} (new : S) (last : K) (piece octets : List ℕ) (result : Result (Ran X) Stop) →
        length piece ≤ 262145 → octets ≡ rest ++ piece →
        left s ≡ prepend_known piece (left new) → faults new ≡ faults s →
        IfOk result (λ (own : Ran X). IsErr own.written
        × IsCutShort written breaks o heard.said last (said_by (course_of octets heard)).text) →
        IfErr result (StopsSaid written breaks o heard.said last (said_by (course_of octets heard))) →
        GivesTalk (lent left faults s0 new) (lent written breaks o0 last) own (λ _. Unit {0}) result
    gives_stopped new last piece octets result few is given quiet cut stops =
        stopping new last piece result few given quiet (rw is at cut) (rw is at stops)

    -- ---- the lines of a piece were heard
    module _ (new : S) (last out : K) (next : Listener T) (piece octets later waiting : List ℕ) (n : ℕ)
        (is : octets ≡ rest ++ piece) (given : left s ≡ prepend_known piece (left new)) (quiet : faults new ≡ faults s)
        (heard_to : HasHeardLines Hears written breaks o heard.said next out waiting heard octets (drop n octets))
        (lacks : Lacks 10 (drop n octets)) (short : length octets ≤ n + 262144)
        (few : (n ≡ length octets) ⊎ (next.lines < 67108864)) where
      few_lines : (0 ≡ length (drop n octets)) ⊎ (length heard_to.now.lines < 67108864)
      few_lines = elim few [
        | inl all ↦ inl (omega (arith, all, length-drop n octets))
        | inr low ↦ inr (let count = heard_to.stands.listens.lines in omega (arith, count, low))
      ]

      waits_later : waits_at heard_to.now (drop n octets) ≡ stands_at heard_to.now (drop n octets) None
      waits_later = waits_on heard_to.now (drop n octets) (omega (arith, short, length-drop n octets)) few_lines

      -- a put of what was said failed
      pub gives_cut : length piece ≤ 262145 → IsCutShort written breaks o heard.said last heard_to.now.said →
          IsTalkCut (lent left faults s0 new) (lent written breaks o0 last) own
      gives_cut fits cut =
          let at_ : course_of octets heard ≡ stands_at heard_to.now (drop n octets) None =
          ap (λ (t : List ℕ). course_of t heard) (sym (append-nil octets)) ∙ heard_to.goes_on []
          ∙ ap (λ (t : List ℕ). course_of t heard_to.now) (append-nil (drop n octets))
          ∙ course_rest (drop n octets) heard_to.now lacks ∙ waits_later in
          let P : List ℕ → Type 0 = λ (t : List ℕ). IsCutShort written breaks o heard.said last t in
          talk_cut_now (lent left faults s0 new) last _ (talked_piece new piece given quiet fits)
          (subst P (sym (ap (λ (t : List ℕ). (course_of t heard).heard.said) (sym is)
          ∙ ap (λ (c : TalkCourse). c.heard.said) at_)) cut)

      -- and it goes on
      pub goes_on_now : later ≡ drop n octets → IsWritten written breaks o heard.said last heard_to.now.said →
          IsGoing new last next later (all ++ piece) heard_to.now
      goes_on_now same writes =
          subst (λ (t : List ℕ). IsGoing new last next t (all ++ piece) heard_to.now) (sym same) (record {
            given = going.given ∙ ap (prepend_known all) given ∙ prepended all piece (left new);
            quiet = quiet ∙ going.quiet;
            goes_on = λ more.
                ap (λ (t : List ℕ). course_of t (nothing_heard dialogue)) (append_assoc all piece more)
                ∙ going.goes_on (piece ++ more)
                ∙ ap (λ (t : List ℕ). course_of t heard)
                (sym (append_assoc rest piece more) ∙ ap (λ (t : List ℕ). t ++ more) (sym is))
                ∙ heard_to.goes_on more;
            waits = waits_later;
            lacks = lacks;
            listens = heard_to.stands.listens;
            writes = (let Q : List ℕ → Type 0 = λ (t : List ℕ). Appends written breaks o0 last t in
                subst Q (sym writes.is) (Appends-then _ breaks o0 o last _ _ going.writes writes.appends));
          })
