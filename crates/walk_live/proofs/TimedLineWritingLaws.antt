-- Texts told one behind the other are written or wait (Holds): timed lines of frames.
use Rattle.std.proofs.Common.{◌≡◌, ℕ, Bool, true, false, List, [], ◌∷◌, ◌++◌, Option, sym, ◌∙◌, ap, append-nil}
use Rattle.std.proofs.Common.{append_assoc, ap₂, codes, decimal, subst, Result, Ok, Err, OnOk}
use Rattle.hex.specs.Hex.{encode_lower}
use Rattle.std.proofs.lemmas.Grind.{flat_map-append}
use Rattle.law_model.specs.Common.{AppendsPart, Start, after}
use Rattle.octet_io.proofs.AppendedTextAndPrefixLaws.{AppendsPart-longer, AppendsPart-then}
use Rattle.text_got.specs.TextSoFar.{Holds, Seen, WritesOrWaits, faults_of, known_of, seen, told_of}
use Rattle.text_got.proofs.WaitingTextInBlockLaws.{Holds-then, Holds-waits}
use Rattle.walk_live.specs.TimedWriting.{HasTimed, IsTimedSince, got_words, worded_text, worded_texts}
use Rattle.text_got.proofs.ToldTextGrowthLaws.{told-more, told-stopped}
use Rattle.walk_live.specs.declared.timed_lines.TimedLines.{TimedLines}

-- ---- Texts that are told one behind the other: each is written, or waits in a block.
module _ {K : Type 0} (written : K → Option (List ℕ)) (faults : K → ℕ) where
  -- nothing more is told
  pub holds-none : (sink : K) (waits more : List ℕ) → more ≡ [] → Holds written faults sink sink waits (waits ++ more)
  holds-none sink waits more none =
      Holds-waits written faults sink waits (waits ++ more) (sym (ap (λ l. waits ++ l) none ∙ append-nil waits))

  -- a text, and then the next one
  pub holds-more : (start old new : K) (first waiting after text next : List ℕ) →
      Holds written faults start old waiting (first ++ text) → Holds written faults old new after (waiting ++ next) →
      Holds written faults start new after (first ++ (text ++ next))
  holds-more start old new first waiting after text next before then =
      subst (Holds written faults start new after) (append_assoc first text next)
      (Holds-then written faults start old new waiting after (first ++ text) next before then)

  -- a text, and then a part of the next one
  pub part-then : (start old new : K) (waiting text next : List ℕ) →
      Holds written faults start old waiting text → AppendsPart written faults old new (waiting ++ next) →
      AppendsPart written faults start new (text ++ next)
  part-then start old new waiting text next before stops =
      subst (AppendsPart written faults start new)
      (sym (append_assoc before.put waiting next) ∙ ap (λ l. l ++ next) before.all)
      (AppendsPart-then written faults start old new before.put (waiting ++ next) before.appends stops)

  pub part-more : (start old new : K) (first waiting text next : List ℕ) →
      Holds written faults start old waiting (first ++ text) → AppendsPart written faults old new (waiting ++ next) →
      AppendsPart written faults start new (first ++ (text ++ next))
  part-more start old new first waiting text next before stops =
      subst (AppendsPart written faults start new) (append_assoc first text next)
      (part-then start old new waiting (first ++ text) next before stops)

  -- a part of a text is one of a longer text
  pub part-longer : (old new : K) (first text more : List ℕ) → AppendsPart written faults old new (first ++ text) →
      AppendsPart written faults old new (first ++ (text ++ more))
  part-longer old new first text more stops =
      subst (AppendsPart written faults old new) (append_assoc first text more)
      (AppendsPart-longer written faults old new (first ++ text) more stops)

  -- of what is told since a start a write of more has failed
  pub told-part : (failed : Bool) (start : Seen) (old new : K) (waiting text next : List ℕ) → failed ≡ false →
      AppendsPart written faults old new (waiting ++ next) →
      WritesOrWaits failed start (seen (written old) (faults old)) waiting text →
      AppendsPart known_of faults_of start (seen (written new) (faults new)) (text ++ next)
  told-part true start old new waiting text next is stops told = absurd cc
  told-part false start old new waiting text next is stops told =
      subst (AppendsPart known_of faults_of start (seen (written new) (faults new)))
      (sym (append_assoc told.put waiting next) ∙ ap (λ l. l ++ next) told.all)
      (AppendsPart-then known_of faults_of start (seen (written old) (faults old)) (seen (written new) (faults new))
      told.put (waiting ++ next) told.appends
      (record {
        part = stops.part;
        rest = stops.rest;
        prefix = stops.prefix;
        cut = stops.cut;
        appended = stops.appended;
        counted = stops.counted;
      }))

-- one frame more
pub timed-more : (words : List ℕ) (ticks : ℕ) (waited : List ℕ) (frames : List (List ℕ)) (frame : List ℕ) →
    (waited ++ worded_texts words ticks frames) ++ worded_text words ticks frame
    ≡ waited ++ worded_texts words ticks (frames ++ frame ∷ [])
timed-more words ticks waited frames frame =
    append_assoc waited (worded_texts words ticks frames) (worded_text words ticks frame)
    ∙ ap (λ l. waited ++ l) (sym (flat_map-append (worded_text words ticks) frames (frame ∷ [])
    ∙ ap (λ l. worded_texts words ticks frames ++ l) (append-nil (worded_text words ticks frame))))

-- the parts of a line
pub got-parts : (words : List ℕ) (ticks : ℕ) (frame head rest : List ℕ) → head ≡ words ++ decimal ticks ++ codes " " →
    rest ≡ encode_lower frame ++ codes "\n" → head ++ rest ≡ worded_text words ticks frame
got-parts words ticks frame head rest first last =
    ap₂ ◌++◌ first last
    ∙ sym (append_assoc (words ++ decimal ticks ++ codes " ") (encode_lower frame) (codes "\n"))

-- what is so whatever was answered
pub on-ok : {X E P : Type 0} (result : Result X E) → P → OnOk result P
on-ok (Ok x) p = p
on-ok (Err e) p = tt

-- ---- The lines of frames that come out, one after another.
-- by the same references, with the same ticks
pub record IsSame {K : Type 0} (was now : TimedLines K) : Type 0 where
  pub out : now.out.ghost_name ≡ was.out.ghost_name
  pub block : now.block.ghost_name ≡ was.block.ghost_name
  pub whose : now.whose ≡ was.whose
  pub ticks : now.ticks ≡ was.ticks

-- more is told of each text
abbrev pub TellsMore : {K : Type 0} → (K → Option (List ℕ)) → (K → ℕ) → TimedLines K → TimedLines K → List ℕ → Type 0
TellsMore written faults was now next = (first : Seen) (text : List ℕ) →
    WritesOrWaits was.failed first (seen (written was.out.now) (faults was.out.now)) was.block.now text →
    WritesOrWaits now.failed first (seen (written now.out.now) (faults now.out.now)) now.block.now (text ++ next)

module _ {K : Type 0} (written : K → Option (List ℕ)) (faults : K → ℕ) where
  since-more : (was now : TimedLines K) (out before : ℕ) (octets words text all next : List ℕ) → IsSame was now →
      TellsMore written faults was now next → text ++ next ≡ all →
      IsTimedSince written faults was out before octets words text →
      IsTimedSince written faults now out before octets words all
  since-more was now out before [] words text all next same more is timed = absurd timed
  since-more was now out before (block ∷ []) words text all next same more is timed = absurd timed
  since-more was now out before (block ∷ (ticks ∷ octets)) words text all next same more is timed = record {
    out = same.out ∙ timed.out;
    block = same.block ∙ timed.block;
    words = ap got_words same.whose ∙ timed.words;
    ticks = same.ticks ∙ timed.ticks;
    text = subst (WritesOrWaits now.failed (seen (told_of octets) before) (seen (written now.out.now) (faults now.out.now))
        now.block.now) is (more (seen (told_of octets) before) text timed.text);
  }

  -- the first words are those of its lines
  since-words : (was : TimedLines K) (out before : ℕ) (octets words text : List ℕ) →
      IsTimedSince written faults was out before octets words text → got_words was.whose ≡ words
  since-words was out before [] words text timed = absurd timed
  since-words was out before (block ∷ []) words text timed = absurd timed
  since-words was out before (block ∷ (ticks ∷ octets)) words text timed = timed.words

  pub has-more : (was now : TimedLines K) (start : Start) (frames : List (List ℕ)) (frame : List ℕ) →
      IsSame was now → TellsMore written faults was now (worded_text (got_words was.whose) was.ticks frame) →
      HasTimed written faults was start frames → HasTimed written faults now start (frames ++ frame ∷ [])
  has-more was now start [] frame same more has = absurd has
  has-more was now start (waited ∷ []) frame same more has = absurd has
  has-more was now start (waited ∷ (words ∷ frames)) frame same more has =
      let own = since-words was start.name start.faults start.octets words
      (waited ++ worded_texts words was.ticks frames) has in
      since-more was now start.name start.faults start.octets words (waited ++ worded_texts words was.ticks frames)
      (waited ++ worded_texts words now.ticks (frames ++ frame ∷ [])) (worded_text words was.ticks frame) same
      (subst (λ w. TellsMore written faults was now (worded_text w was.ticks frame)) own more)
      (timed-more words was.ticks waited frames frame
      ∙ ap (λ n. waited ++ worded_texts words n (frames ++ frame ∷ [])) (sym same.ticks)) has

  -- after a write that failed
  pub more-stopped : (was : TimedLines K) (next : List ℕ) → was.failed ≡ true → TellsMore written faults was was next
  more-stopped was next is first text told =
      told-stopped was.failed first (seen (written was.out.now) (faults was.out.now)) was.block.now was.block.now text
      next is told

  pub more-told : (failed : Bool) (old new : K) (waiting after next : List ℕ) → failed ≡ false →
      Holds written faults old new after (waiting ++ next) → (first : Seen) (text : List ℕ) →
      WritesOrWaits failed first (seen (written old) (faults old)) waiting text →
      WritesOrWaits failed first (seen (written new) (faults new)) after (text ++ next)
  more-told failed old new waiting after next is holds first text told =
      told-more written faults failed first old new waiting after text next is holds told

  pub more-failed : (failed : Bool) (old new : K) (waiting next : List ℕ) → failed ≡ false →
      AppendsPart written faults old new (waiting ++ next) → (first : Seen) (text : List ℕ) →
      WritesOrWaits failed first (seen (written old) (faults old)) waiting text →
      AppendsPart known_of faults_of first (seen (written new) (faults new)) (text ++ next)
  more-failed failed old new waiting next is stops first text told =
      told-part written faults failed first old new waiting text next is stops told
