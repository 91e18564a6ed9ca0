-- What a listener has heard of octets, what was said is written or waits, and why it stopped.
use Rattle.std.proofs.Common.{◌≡◌, ℕ, Bool, true, false, List, [], ◌∷◌, ◌++◌, refl, ap, sym, ◌∙◌, subst, append_assoc}
use Rattle.std.proofs.Common.{append-nil, Option, Some, Ok, Err, ◌≢◌, ◌+◌, ◌-◌, ◌<◌, ◌≤◌, ◌==◌, cond, length, arith}
use Rattle.std.proofs.Common.{length-append, length-take, length-drop, take, zero-add, take-append-drop, None, Result}
use Rattle.std.proofs.Common.{OnOk, OnErr, IsErr, slice_index, drop}
use Rattle.std.specs.Str.Lines.{strip_carriage_return}
use Rattle.law_model.specs.Common.{Appends, AppendsPart}
use Rattle.octet_io.proofs.AppendedTextAndPrefixLaws.{Appends-none, AppendsPart-then, AppendsPart-longer}
use Rattle.text_got.specs.TextSoFar.{Holds}
use Rattle.text_got.proofs.WaitingTextInBlockLaws.{Holds-then}
use Rattle.text_lines.specs.Cut.{Lacks}
use Rattle.command_parts.specs.declared.stop_and_status.Stop.{Stop}
use Rattle.command_parts.specs.declared.stop_and_status.Stop.TheVariants.{Read, TooLong, Refused, Write, Memory}
use Rattle.command_parts.specs.Talk.{Said}
use Rattle.command_parts.specs.Dialogue.{Heard, heard_more, Reply, reply_to, is_long, comes_to, goes_on, course}
use Rattle.command_parts.specs.Dialogue.{course_of, TalkCourse, said_by, parts_of, told_end, last_reply, parting}
use Rattle.command_parts.specs.Dialogue.{parting_with, closed}
use Rattle.command_parts.specs.Replies.{StopsReply, CanReply, HasReplied}
use Rattle.command_parts.specs.Conversation.{IsSaid, IsWritten, IsCutShort, StopsHearing, StopsSaying, StopsSaid}
use Rattle.command_parts.specs.Conversation.{Listens, Stands, HasHeard, HasHeardLines}
use Rattle.command_parts.proofs.TalkCourseOverOctetsLaws.{course_line, course_grows, course_heard, course_rest}
use Rattle.command_parts.proofs.TalkCourseOverOctetsLaws.{parting_grows, waits_long}
use Rattle.std.proofs.lemmas.List.{nil_from_length, drop-take, drop_at}
use Rattle.std.proofs.lemmas.List.Edits.{take-paste}
use Rattle.std.proofs.lemmas.List.Elements.{All-take}
use lib.Seq.{paste}
use Rattle.command_parts.specs.declared.conversation.Listener.{Listener}

-- ---- What was said is written, or waits, as more is said; and why it stopped.
nothing_both : (a b : List ℕ) → a ++ b ≡ [] → (a ≡ []) × (b ≡ [])
nothing_both [] b is = (refl, is)
nothing_both (x ∷ a) b is = absurd cc

module _ {K : Type 0} (written : K → Option (List ℕ)) (faults : K → ℕ) where
  -- nothing was said yet since a moment when nothing waited
  pub said_none : (first : K) (earlier waiting : List ℕ) → waiting ≡ [] →
      IsSaid written faults first earlier first waiting earlier
  said_none first earlier waiting none = record {
    later = [];
    is = sym (append-nil earlier);
    holds = record { put = []; appends = Appends-none written faults first; all = none };
  }

  -- more is said
  pub said_more : (first old new : K) (earlier waited waits text next : List ℕ) →
      IsSaid written faults first earlier old waited text →
      Holds written faults old new waits (waited ++ next) →
      IsSaid written faults first earlier new waits (text ++ next)
  said_more first old new earlier waited waits text next before more = record {
    later = before.later ++ next;
    is = ap (λ (t : List ℕ). t ++ next) before.is ∙ append_assoc earlier before.later next;
    holds = Holds-then written faults first old new waited waits before.later next before.holds more;
  }

  pub said_same : (first old new : K) (earlier waited waits text : List ℕ) →
      IsSaid written faults first earlier old waited text →
      Holds written faults old new waits waited →
      IsSaid written faults first earlier new waits text
  said_same first old new earlier waited waits text before more =
      let Q : List ℕ → Type 0 = λ (t : List ℕ). IsSaid written faults first earlier new waits t in
      subst Q (append-nil text) (said_more first old new earlier waited waits text [] before
      (subst (Holds written faults old new waits) (sym (append-nil waited)) more))

  -- a write failed before more was said
  pub said_cut : (first old new : K) (earlier waited text next : List ℕ) →
      IsSaid written faults first earlier old waited text →
      AppendsPart written faults old new (waited ++ next) →
      IsCutShort written faults first earlier new (text ++ next)
  said_cut first old new earlier waited text next before part =
      let P : List ℕ → Type 0 = λ (t : List ℕ). AppendsPart written faults first new t in
      record {
        later = before.later ++ next;
        is = ap (λ (t : List ℕ). t ++ next) before.is ∙ append_assoc earlier before.later next;
        part = subst P (sym (append_assoc before.holds.put waited next) ∙ ap (λ (t : List ℕ). t ++ next)
            before.holds.all) (AppendsPart-then written faults first old new _ _ before.holds.appends part);
      }

  -- what waits is put
  pub said_put : (first old new : K) (earlier waited text : List ℕ) →
      IsSaid written faults first earlier old waited text → Appends written faults old new waited →
      IsWritten written faults first earlier new text
  said_put first old new earlier waited text before puts =
      let all : IsSaid written faults first earlier new [] text =
      said_same _ _ new _ _ [] _ before (record { put = waited; appends = puts; all = append-nil waited }) in
      let P : List ℕ → Type 0 = λ (t : List ℕ). Appends written faults first new t in
      record {
        later = all.later;
        is = all.is;
        appends = subst P (sym (append-nil all.holds.put) ∙ all.holds.all) all.holds.appends;
      }

  pub said_put_part : (first old new : K) (earlier waited text : List ℕ) →
      IsSaid written faults first earlier old waited text → AppendsPart written faults old new waited →
      IsCutShort written faults first earlier new text
  said_put_part first old new earlier waited text before part =
      let P : List ℕ → Type 0 = λ (t : List ℕ). AppendsPart written faults old new t in
      let Q : List ℕ → Type 0 = λ (t : List ℕ). IsCutShort written faults first earlier new t in
      subst Q (append-nil text) (said_cut _ old new _ _ _ [] before (subst P (sym (append-nil waited)) part))

  -- a longer text is cut short too
  pub cut_longer : (first now : K) (earlier text more : List ℕ) →
      IsCutShort written faults first earlier now text → IsCutShort written faults first earlier now (text ++ more)
  cut_longer first now earlier text more cut = record {
    later = cut.later ++ more;
    is = ap (λ (t : List ℕ). t ++ more) cut.is ∙ append_assoc earlier cut.later more;
    part = AppendsPart-longer written faults first now cut.later more cut.part;
  }

  -- nothing had been said
  said_nothing : (first old new : K) (earlier waited text : List ℕ) →
      IsSaid written faults first earlier old waited text → text ≡ [] → new ≡ old →
      (earlier ≡ []) × Appends written faults first new []
  said_nothing first old new earlier waited text before none same =
      let none_of = nothing_both earlier before.later (sym before.is ∙ none) in
      let none_put = nothing_both before.holds.put waited (before.holds.all ∙ none_of.1) in
      let P : List ℕ → Type 0 = λ (t : List ℕ). Appends written faults first old t in
      let Q : K → Type 0 = λ (now : K). Appends written faults first now [] in
      (none_of.0, subst Q (sym same) (subst P none_put.0 before.holds.appends))

  -- ---- why it stopped
  pub stops_reply : (first old new : K) (earlier waited waits : List ℕ) (heard : Heard) (reply : Reply) (stop : Stop) →
      IsSaid written faults first earlier old waited heard.said →
      StopsReply written faults old new waited waits heard reply stop →
      StopsHearing written faults first earlier new waits heard reply stop
  stops_reply first old new earlier waited waits heard reply Read before stops = stops
  stops_reply first old new earlier waited waits heard reply TooLong before stops = stops
  stops_reply first old new earlier waited waits heard reply (Refused it) before stops =
      (stops.0, said_same first old new earlier waited waits heard.said before stops.1)
  stops_reply first old new earlier waited waits heard reply Write before stops =
      (stops.0, stops.1, said_cut first old new earlier waited heard.said stops.0 before stops.2)
  stops_reply first old new earlier waited waits heard reply Memory before stops =
      said_nothing first old new earlier waited heard.said before stops.0 stops.1

  -- what was said before stopping is put
  pub stops_put : (first old new : K) (earlier waited : List ℕ) (is : Said) (stop : Stop) →
      StopsSaying written faults first earlier old waited is stop → (stop ≡ Write → ⊥) → (stop ≡ Memory → ⊥) →
      Appends written faults old new waited → StopsSaid written faults first earlier new is stop
  stops_put first old new earlier waited is Read stops write memory puts = stops
  stops_put first old new earlier waited is TooLong stops write memory puts =
      (stops.0, said_put first old new earlier waited is.text stops.1 puts)
  stops_put first old new earlier waited is (Refused it) stops write memory puts =
      (stops.0, said_put first old new earlier waited is.text stops.1 puts)
  stops_put first old new earlier waited is Write stops write memory puts = absurd (write refl)
  stops_put first old new earlier waited is Memory stops write memory puts = absurd (memory refl)

  pub stops_cut : (first old new : K) (earlier waited : List ℕ) (is : Said) (stop : Stop) →
      StopsSaying written faults first earlier old waited is stop → (stop ≡ Write → ⊥) → (stop ≡ Memory → ⊥) →
      AppendsPart written faults old new waited → IsCutShort written faults first earlier new is.text
  stops_cut first old new earlier waited is Read stops write memory part = absurd stops
  stops_cut first old new earlier waited is TooLong stops write memory part =
      said_put_part first old new earlier waited is.text stops.1 part
  stops_cut first old new earlier waited is (Refused it) stops write memory part =
      said_put_part first old new earlier waited is.text stops.1 part
  stops_cut first old new earlier waited is Write stops write memory part = absurd (write refl)
  stops_cut first old new earlier waited is Memory stops write memory part = absurd (memory refl)

  -- ---- at a line among octets
  -- one that is too long
  pub stops_long : (first now : K) (earlier waiting line more : List ℕ) (heard : Heard) →
      Lacks 10 line → is_long heard line ≡ true → IsSaid written faults first earlier now waiting heard.said →
      StopsSaying written faults first earlier now waiting (said_by (course_of (line ++ 10 ∷ more) heard)) TooLong
  stops_long first now earlier waiting line more heard lacks over before =
      let P : TalkCourse → Type 0 = λ (c : TalkCourse). StopsSaying written faults first earlier now waiting (said_by c) TooLong in
      subst P (sym (course_line line more heard lacks
      ∙ ap (λ (b : Bool). comes_to heard line b (course (parts_of more))) over)) (refl, before)

  -- one that isn't replied to
  pub stops_line : (first now : K) (earlier waiting line more : List ℕ) (heard : Heard) (stop : Stop) →
      Lacks 10 line → is_long heard line ≡ false →
      StopsHearing written faults first earlier now waiting heard (reply_to heard (strip_carriage_return line)) stop →
      StopsSaying written faults first earlier now waiting (said_by (course_of (line ++ 10 ∷ more) heard)) stop
  stops_line first now earlier waiting line more heard stop lacks short stops =
      let P : TalkCourse → Type 0 = λ (c : TalkCourse). StopsSaying written faults first earlier now waiting (said_by c) stop in
      subst P (sym (course_line line more heard lacks
      ∙ ap (λ (b : Bool). comes_to heard line b (course (parts_of more))) short))
      (by stop (reply_to heard (strip_carriage_return line)) stops)
    where
      by : (stop : Stop) (reply : Reply) → StopsHearing written faults first earlier now waiting heard reply stop →
          StopsSaying written faults first earlier now waiting
          (said_by (goes_on heard (strip_carriage_return line) reply (course (parts_of more)))) stop
      by Read reply stops = absurd stops
      by TooLong reply stops = absurd stops
      by (Refused it) (Ok text) stops = absurd (let e = stops.0 in cc)
      by (Refused it) (Err told) stops =
          (let e : told ≡ (it.why, it.note.items) = cc in ap (λ t. Some (told_end t)) e, stops.1)
      by Write (Ok text) stops =
          let same : text ≡ stops.0 = cc in
          let next = heard_more heard (strip_carriage_return line) text in
          let (rest, is) = course_grows more next in
          let P : List ℕ → Type 0 = λ (t : List ℕ). IsCutShort written faults first earlier now t in
          subst P (ap (λ (t : List ℕ). (heard.said ++ t) ++ rest) (sym same) ∙ sym is)
          (cut_longer first now earlier (heard.said ++ stops.0) rest stops.2)
      by Write (Err told) stops = absurd (let e = stops.1 in cc)
      by Memory reply stops = stops

-- ---- What one who listens has heard, line by line and at the end.
-- ---- octets
-- a line without its CR
by_return : (b : Bool) (line : List ℕ) → Lacks 10 line → Lacks 10 (cond b (take (length line - 1) line) line)
by_return true line lacks = All-take (λ c. c ≢ 10) (length line - 1) line lacks
by_return false line lacks = lacks

pub strip_lacks : (line : List ℕ) → Lacks 10 line → Lacks 10 (strip_carriage_return line)
strip_lacks line lacks = by_return (slice_index line (length line - 1) == 13) line lacks

short_return : (b : Bool) (line : List ℕ) → length (cond b (take (length line - 1) line) line) ≤ length line
short_return true line = omega (arith, length-take (length line - 1) line)
short_return false line = omega arith

pub strip_short : (line : List ℕ) → length (strip_carriage_return line) ≤ length line
strip_short line = short_return (slice_index line (length line - 1) == 13) line

pub shorter : (rest line later : List ℕ) → rest ≡ line ++ 10 ∷ later → length later < length rest
shorter rest line later cut =
    let size = ap (λ (t : List ℕ). length t) cut in omega (arith, size, length-append line (10 ∷ later))

-- what is left behind a line is left of all octets
pub suffix_more : (octets rest line later : List ℕ) → rest ≡ drop (length octets - length rest) octets →
    length rest ≤ length octets → rest ≡ line ++ 10 ∷ later → later ≡ drop (length octets - length later) octets
suffix_more octets rest line later suffix within cut =
    let k = length octets - length rest in
    let front = take k octets ++ (line ++ 10 ∷ []) in
    let whole : octets ≡ front ++ later =
    sym (take-append-drop k octets)
    ∙ ap (λ (t : List ℕ). take k octets ++ t) (sym suffix ∙ cut ∙ sym (append_assoc line (10 ∷ []) later))
    ∙ sym (append_assoc (take k octets) (line ++ 10 ∷ []) later) in
    let size = ap (λ (t : List ℕ). length t) whole in
    let long : length front ≡ length octets - length later = omega (arith, size, length-append front later) in
    sym (ap (drop (length octets - length later)) whole ∙ drop_at front later (length octets - length later) long)

-- ---- a buffer
-- octets that were moved to its front
pub moved_down : (octets now : List ℕ) (at end : ℕ) → at ≤ end → end ≤ length octets →
    now ≡ paste octets 0 (drop at octets) (end - at) → take (end - at) now ≡ drop at (take end octets)
moved_down octets now at end order within is =
    let room : end - at ≤ length (drop at octets) = omega (arith, length-drop at octets) in
    let whole : at + (end - at) ≡ end = omega arith in
    ap (take (end - at)) is
    ∙ ap (λ (k : ℕ). take k (paste octets 0 (drop at octets) (end - at))) (sym (zero-add (end - at)))
    ∙ take-paste octets 0 (drop at octets) (end - at) (omega arith) room
    ∙ sym (drop-take at (end - at) octets) ∙ ap (λ (k : ℕ). drop at (take k octets)) whole

-- ---- one who listens
module _ {T K : Type 0} (Hears : T → Heard → Type 0) (written : K → Option (List ℕ)) (faults : K → ℕ) where
  -- the next line may be replied to
  pub can_reply : (listener : Listener T) (heard : Heard) (line stripped : List ℕ) → Listens Hears listener heard →
      Lacks 10 line → (length line ≤ 262144) × (listener.lines < 67108864) → stripped ≡ strip_carriage_return line →
      CanReply Hears listener.talker stripped
  can_reply listener heard line stripped listens lacks fits same = record {
    heard = heard;
    hears = listens.hears;
    few = (let count = listens.lines in omega (arith, count, fits.1));
    lacks = (let P : List ℕ → Type 0 = λ (t : List ℕ). Lacks 10 t in subst P (sym same) (strip_lacks line lacks));
    short = (let size = ap (λ (t : List ℕ). length t) same in omega (arith, size, strip_short line, fits.0));
  }

  -- a line was replied to
  pub heard_line : (first old new : K) (earlier waited waits line : List ℕ) (listener next : Listener T) (heard : Heard) →
      Stands Hears written faults first earlier listener old waited heard →
      ((replied : HasReplied written faults old new waited waits (reply_to heard line)) → next.lines ≡ listener.lines + 1 →
      ((text : List ℕ) → reply_to heard line ≡ Ok text → Hears next.talker (heard_more heard line text)) →
      HasHeard Hears written faults first earlier next new waits heard line)
  heard_line first old new earlier waited waits line listener next heard stands replied count hears = record {
    text = replied.text;
    is = replied.is;
    stands = record {
      listens = record {
        hears = hears replied.text replied.is;
        lines = (let was = stands.listens.lines in
            omega (arith, count, was, length-append heard.lines (line ∷ [])));
      };
      said = said_more written faults first old new _ waited waits _ replied.text stands.said replied.holds;
    };
  }

  -- the end was replied to
  pub ended_whole : (old new : K) (waited waits : List ℕ) (heard : Heard) (reply : Reply) →
      HasReplied written faults old new waited waits reply → (parting heard reply).end ≡ None
  ended_whole old new waited waits heard (Ok text) replied = refl
  ended_whole old new waited waits heard (Err told) replied = absurd (let e = replied.is in cc)

  pub ended_said : (first old new : K) (earlier waited waits : List ℕ) (heard : Heard) (reply : Reply) →
      IsSaid written faults first earlier old waited heard.said →
      HasReplied written faults old new waited waits reply →
      IsSaid written faults first earlier new waits (parting heard reply).text
  ended_said first old new earlier waited waits heard (Ok text) before replied =
      let same : replied.text ≡ text = (let e = replied.is in cc) in
      let P : List ℕ → Type 0 = λ (t : List ℕ). IsSaid written faults first earlier new waits (heard.said ++ t) in
      subst P same (said_more written faults first old new _ waited waits _ replied.text before replied.holds)
  ended_said first old new earlier waited waits heard (Err told) before replied =
      absurd (let e = replied.is in cc)

  pub ended_stops : (first new : K) (earlier waits : List ℕ) (heard : Heard) (reply : Reply) (stop : Stop) →
      StopsHearing written faults first earlier new waits heard reply stop →
      StopsSaying written faults first earlier new waits (parting heard reply) stop
  ended_stops first new earlier waits heard reply Read stops = stops
  ended_stops first new earlier waits heard reply TooLong stops = absurd stops
  ended_stops first new earlier waits heard (Ok text) (Refused it) stops = absurd (let e = stops.0 in cc)
  ended_stops first new earlier waits heard (Err told) (Refused it) stops =
      (let e : told ≡ (it.why, it.note.items) = (let f = stops.0 in cc) in ap (λ t. Some (told_end t)) e, stops.1)
  ended_stops first new earlier waits heard (Ok text) Write stops =
      let same : stops.0 ≡ text = (let e = stops.1 in cc) in
      subst (λ (t : List ℕ). IsCutShort written faults first earlier new (heard.said ++ t)) same stops.2
  ended_stops first new earlier waits heard (Err told) Write stops = absurd (let e = stops.1 in cc)
  ended_stops first new earlier waits heard reply Memory stops = stops

  -- ---- the last line, which lacks its LF
  closed_line : (heard : Heard) (rest : List ℕ) → 0 < length rest →
      closed heard rest ≡ parting_with heard rest (reply_to heard rest)
  closed_line heard [] some = absurd (omega arith)
  closed_line heard (octet ∷ rest) some = refl

  pub closed_heard : (heard : Heard) (rest text : List ℕ) → 0 < length rest → reply_to heard rest ≡ Ok text →
      closed heard rest ≡ parting (heard_more heard rest text) (last_reply (heard_more heard rest text))
  closed_heard heard rest text some is = closed_line heard rest some ∙ ap (parting_with heard rest) is

  pub closed_none : (heard : Heard) (rest : List ℕ) → length rest ≡ 0 → closed heard rest ≡ parting heard (last_reply heard)
  closed_none heard rest none = ap (closed heard) (nil_from_length rest none)

  with_stops : (first new : K) (earlier waits rest : List ℕ) (heard : Heard) (reply : Reply) (stop : Stop) →
      StopsHearing written faults first earlier new waits heard reply stop →
      StopsSaying written faults first earlier new waits (parting_with heard rest reply) stop
  with_stops first new earlier waits rest heard reply Read stops = stops
  with_stops first new earlier waits rest heard reply TooLong stops = absurd stops
  with_stops first new earlier waits rest heard (Ok text) (Refused it) stops = absurd (let e = stops.0 in cc)
  with_stops first new earlier waits rest heard (Err told) (Refused it) stops =
      (let e : told ≡ (it.why, it.note.items) = (let f = stops.0 in cc) in ap (λ t. Some (told_end t)) e, stops.1)
  with_stops first new earlier waits rest heard (Ok text) Write stops =
      let same : stops.0 ≡ text = (let e = stops.1 in cc) in
      let next = heard_more heard rest text in
      let (more, is) = parting_grows next (last_reply next) in
      let P : List ℕ → Type 0 = λ (t : List ℕ). IsCutShort written faults first earlier new t in
      subst P (ap (λ (t : List ℕ). (heard.said ++ t) ++ more) same ∙ sym is)
      (cut_longer written faults first new earlier (heard.said ++ stops.0) more stops.2)
  with_stops first new earlier waits rest heard (Err told) Write stops = absurd (let e = stops.1 in cc)
  with_stops first new earlier waits rest heard reply Memory stops = stops

  pub closed_stops : (first new : K) (earlier waits rest : List ℕ) (heard : Heard) (stop : Stop) → 0 < length rest →
      StopsHearing written faults first earlier new waits heard (reply_to heard rest) stop →
      StopsSaying written faults first earlier new waits (closed heard rest) stop
  closed_stops first new earlier waits rest heard stop some stops =
      let P : Said → Type 0 = λ (is : Said). StopsSaying written faults first earlier new waits is stop in
      subst P (sym (closed_line heard rest some))
      (with_stops first new earlier waits rest heard (reply_to heard rest) stop stops)

  -- ---- lines among octets
  module _ (first : K) (earlier : List ℕ) (heard : Heard) (octets rest : List ℕ) (old : K) (waited : List ℕ)
      (listener : Listener T) (so_far : HasHeardLines Hears written faults first earlier listener old waited heard octets rest)
    where
      at_rest : course_of octets heard ≡ course_of rest so_far.now
      at_rest =
          ap (λ (t : List ℕ). course_of t heard) (sym (append-nil octets)) ∙ so_far.goes_on []
          ∙ ap (λ (t : List ℕ). course_of t so_far.now) (append-nil rest)

      pub heard_next : (new : K) (waits line later stripped : List ℕ) (next : Listener T) → rest ≡ line ++ 10 ∷ later →
          Lacks 10 line → is_long so_far.now line ≡ false → stripped ≡ strip_carriage_return line →
          HasHeard Hears written faults first earlier next new waits so_far.now stripped →
          HasHeardLines Hears written faults first earlier next new waits heard octets later
      heard_next new waits line later stripped next cut lacks short same has = record {
        now = heard_more so_far.now stripped has.text;
        goes_on = λ more.
            so_far.goes_on more
            ∙ ap (λ (t : List ℕ). course_of t so_far.now)
            (ap (λ (t : List ℕ). t ++ more) cut ∙ append_assoc line (10 ∷ later) more)
            ∙ course_heard line (later ++ more) has.text so_far.now lacks short
            (ap (reply_to so_far.now) (sym same) ∙ has.is)
            ∙ ap (λ (t : List ℕ). course_of (later ++ more) (heard_more so_far.now t has.text)) (sym same);
        stands = has.stands;
      }

      pub line_stops : (new : K) (waits line later stripped : List ℕ) (stop : Stop) → rest ≡ line ++ 10 ∷ later →
          Lacks 10 line → is_long so_far.now line ≡ false → stripped ≡ strip_carriage_return line →
          StopsHearing written faults first earlier new waits so_far.now (reply_to so_far.now stripped) stop →
          StopsSaying written faults first earlier new waits (said_by (course_of octets heard)) stop
      line_stops new waits line later stripped stop cut lacks short same stops =
          let P : TalkCourse → Type 0 = λ (c : TalkCourse). StopsSaying written faults first earlier new waits (said_by c) stop in
          let Q : List ℕ → Type 0 =
          λ (t : List ℕ). StopsHearing written faults first earlier new waits so_far.now (reply_to so_far.now t) stop in
          subst P (sym (at_rest ∙ ap (λ (t : List ℕ). course_of t so_far.now) cut))
          (stops_line written faults first new earlier waits line later so_far.now stop lacks short (subst Q same stops))

      pub line_long : (line later : List ℕ) → rest ≡ line ++ 10 ∷ later → Lacks 10 line → is_long so_far.now line ≡ true →
          StopsSaying written faults first earlier old waited (said_by (course_of octets heard)) TooLong
      line_long line later cut lacks over =
          let P : TalkCourse → Type 0 =
          λ (c : TalkCourse). StopsSaying written faults first earlier old waited (said_by c) TooLong in
          subst P (sym (at_rest ∙ ap (λ (t : List ℕ). course_of t so_far.now) cut))
          (stops_long written faults first old earlier waited line later so_far.now lacks over so_far.stands.said)

      pub rest_long : 0 < length rest → Lacks 10 rest → is_long so_far.now rest ≡ true →
          StopsSaying written faults first earlier old waited (said_by (course_of octets heard)) TooLong
      rest_long some lacks over =
          subst (λ (c : TalkCourse). StopsSaying written faults first earlier old waited (said_by c) TooLong)
          (sym (at_rest ∙ course_rest rest so_far.now lacks ∙ waits_long so_far.now rest some over))
          (refl, so_far.stands.said)

-- ---- what was made
pub not_ok : {A E : Type 0} (r : Result A E) (P : Type 0) → IsErr r → OnOk r P
not_ok (Ok x) P is = absurd (let bad : false ≡ true = is in cc)
not_ok (Err e) P is = tt

pub on_err : {A E : Type 0} (r : Result A E) (P : Type 0) → P → OnErr r P
on_err (Ok x) P holds = tt
on_err (Err e) P holds = holds
