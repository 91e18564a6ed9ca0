-- The reports of a pair: the rows and frames of each round, how a report ends, and the headline.
use Rattle.std.proofs.Common.{◌≡◌, ℕ, ◌<◌, ◌≤◌, nat_le, List, Option, Some, None, sym, ap, subst, arith, inl, inr, ◌+◌}
use Rattle.std.proofs.Common.{◌-◌, Bool, true, false, not, [], ◌++◌, drop, length, ◌∙◌, append_assoc, append-nil}
use Rattle.std.proofs.Common.{Result, Ok, Err, OnOk, OnErr}
use Rattle.std.proofs.lemmas.Bool.{cases_Bool, leb-false}
use Rattle.law_model.specs.Common.{Start, LineCounts, Plan, Counts, pop_lines, Leg, Appends}
use Rattle.law_pair.specs.Common.{counts_on, take_said, take_one, IsPair, PairCounts, pair_begin, pair_drained}
use Rattle.law_pair.specs.Common.{IsPairWalked, IsWay, way_of}
use Rattle.law_pair.specs.declared.pair_events.Way.{Way}
use Rattle.law_pair.specs.declared.pair_events.Way.TheVariants.{There, Back}
use Rattle.law_pair.specs.declared.pair_events.PairEvent.TheVariants.{Take}
use Rattle.walk_engine.specs.Common.{GivesRows}
use Rattle.pair_engine.specs.PairAfterEvent.{Paired, after, leg_on, plan_of, with_counts, GivesWay, SameRows, MoreRows}
use Rattle.pair_engine.proofs.PairEventAndRoundLaws.{take-rise}
use Rattle.pair_engine.proofs.TakenRowAndHeardPacketLaws.{gives-none}
use Rattle.pair_walk.specs.Rounds.{FewRows}
use Rattle.std.proofs.lemmas.Grind.{flat_map-append}
use Rattle.walk_engine.proofs.OpenedWayLaws.{none-delivered, drop-none}
use Rattle.law_model.specs.declared.item_refusals.Refusal.{Refusal}
use Rattle.law_model.specs.declared.session_totals.Totals.{Totals}
use Rattle.octet_io.proofs.AppendedTextAndPrefixLaws.{AppendsPart-longer}
use Rattle.text_report.specs.ReportLines.{got_text, got_texts, refused_texts, total_text}
use Rattle.law_walk.specs.Common.{delivered_of, refusals_among, refusals_of, totals_among, totals_of, numbered}
use Rattle.law_walk.specs.Common.{report_of, final_report}
use Rattle.law_walk.proofs.DeliveredFrameCountLaws.{frames-grow}
use Rattle.law_walk.specs.DeliveredFrames.{delivered_since}
use Rattle.text_got.specs.declared.got_text.GotLines.{GotLines}
use Rattle.text_got.specs.TextSoFar.{AppendsSome, GivesUp, HasText, has_failed, name_of, start_at}
use Rattle.law_pair.proofs.PairMeasureAndDrainLaws.{pair-begins}
use Rattle.law_pair.proofs.PairWayAndPacketLaws.{there-report, back-report, way-sound}
use Rattle.text_pairs.specs.ReportsOfWays.{way_text}
use Rattle.command_parts.specs.Common.{Lent, WritesPart, writes_both}
use Rattle.law_model.specs.declared.script_types.Script.{Script}
use Rattle.law_headline.proofs.ReportedFramesLaws.{is_headline}
use Rattle.text_pairs.specs.declared.script_pair.ScriptPair.{ScriptPair}
use Rattle.text_pairs.specs.PairOfText.{pair_of}
use Rattle.text_pairs.proofs.PairScriptReaderLaws.{valid_pair}
use Rattle.pair_walk.specs.Headline.{IsWayHeadline, IsPairHeadline}

-- ---- What a round of a pair leaves, row by row.
-- ---- rows never pass the ticks
few-said : (total : ℕ) (s : Counts) (lines : List LineCounts) (waiting : Option ℕ) → s.rows < total →
    (take_said s lines waiting).counts.rows ≤ total
few-said total s lines None low = omega (arith, low)
few-said total s lines (Some line) low = omega (arith, low)

few-one : (plan : Plan) (s : Counts) → s.rows ≤ plan.ticks → (take_one plan s).counts.rows ≤ plan.ticks
few-one plan s low =
    elim (cases_Bool (nat_le plan.ticks s.rows)) [
      | inl e ↦ rw e low
      | inr e ↦ rw e (few-said plan.ticks s (pop_lines s.rows 0 plan.paths s.lines).lines
          (pop_lines s.rows 0 plan.paths s.lines).waiting (leb-false plan.ticks s.rows e))
    ]

pub few-same : (a b : Paired) → b ≡ with_counts a b.counts → SameRows a b → FewRows a → FewRows b
few-same a b e same few =
    let there_low = few.there in
    let there_same = same.there in
    let back_low = few.back in
    let back_same = same.back in
    subst FewRows (sym e)
    (record { there = omega (arith, there_low, there_same); back = omega (arith, back_low, back_same) })

pub few-take : (a b : Paired) (way : Way) → b ≡ after a (Take way) → FewRows a → FewRows b
few-take a b There e few =
    subst FewRows (sym e) (record { there = few-one (plan_of a).there a.counts.there few.there; back = few.back })
few-take a b Back e few =
    subst FewRows (sym e) (record { there = few.there; back = few-one (plan_of a).back a.counts.back few.back })

-- ---- rows never fall, and a row of one way is none of the other
pub more-take : (a b : Paired) (own : Way) → b ≡ after a (Take own) → MoreRows a b
more-take a b own e =
    subst (λ (p : Paired). MoreRows a p) (sym e)
    (record { there = take-rise (plan_of a) a.counts own There; back = take-rise (plan_of a) a.counts own Back })

pub same-more : (a b c : Paired) → SameRows a b → MoreRows b c → MoreRows a c
same-more a b c same more =
    let there_same = same.there in
    let there_more = more.there in
    let back_same = same.back in
    let back_more = more.back in
    record { there = omega (arith, there_same, there_more); back = omega (arith, back_same, back_more) }

pub more-then : (a b c : Paired) → MoreRows a b → MoreRows b c → MoreRows a c
more-then a b c one two =
    let there_one = one.there in
    let there_two = two.there in
    let back_one = one.back in
    let back_two = two.back in
    record { there = omega (arith, there_one, there_two); back = omega (arith, back_one, back_two) }

-- ---- what is given
pub leg-same : (a b : Paired) (way : Way) → b ≡ with_counts a b.counts → leg_on b way ≡ leg_on a way
leg-same a b There e = ap (λ (p : Paired). leg_on p There) e
leg-same a b Back e = ap (λ (p : Paired). leg_on p Back) e

module _ {Out : Type 0} (stands_for : Out → Start → List (List ℕ) → Type 0) (way : Way) where
  -- where no row of a way is taken, a place is as it was
  pub gives-still : (out : Out) (a b : Paired) → (counts_on b.counts way).rows ≡ (counts_on a.counts way).rows →
      GivesWay stands_for out out a b way
  gives-still out a b same =
      subst (λ n. GivesRows stands_for out out (leg_on a way) (counts_on a.counts way).rows n) (sym same)
      (gives-none stands_for out (leg_on a way) (counts_on a.counts way).rows)

  -- the rows of one event, before and after which no row of the way is taken
  pub gives-row : (was now : Out) (a b c d : Paired) → b ≡ with_counts a b.counts →
      (counts_on b.counts way).rows ≡ (counts_on a.counts way).rows →
      (counts_on d.counts way).rows ≡ (counts_on c.counts way).rows →
      GivesWay stands_for was now b c way → GivesWay stands_for was now a d way
  gives-row was now a b c d e before later gives =
      subst (λ n. GivesRows stands_for was now (leg_on a way) (counts_on a.counts way).rows n) (sym later)
      (subst (λ n. GivesRows stands_for was now (leg_on a way) n (counts_on c.counts way).rows) before
      (subst (λ (leg : Leg). GivesRows stands_for was now leg (counts_on b.counts way).rows
      (counts_on c.counts way).rows) (leg-same a b way e) gives))

-- ---- How a pair's reports end: all of them is written, or a part.
-- ---- a text that is given up
pub given_up-longer : {K : Type 0} (failed : Bool) (written : K → Option (List ℕ)) (faults : K → ℕ) (old new : K)
    (text more : List ℕ)
    → GivesUp failed written faults old new text → GivesUp failed written faults old new (text ++ more)
given_up-longer true written faults old new text more stops = AppendsPart-longer written faults old new text more stops
given_up-longer false written faults old new text more some = record {
  part = some.part;
  rest = some.rest ++ more;
  prefix = sym (append_assoc some.part some.rest more) ∙ ap (λ octets. octets ++ more) some.prefix;
  appended = some.appended;
  quiet = some.quiet;
}

pub appends-all : {K : Type 0} (written : K → Option (List ℕ)) (faults : K → ℕ) (old new : K) (text : List ℕ) →
    Appends written faults old new text → AppendsSome written faults old new text
appends-all written faults old new text all =
    record { part = text; rest = []; prefix = append-nil text; appended = all.appended; quiet = all.quiet }

-- ---- the frames of a leg
pub since-begin : (leg : Leg) (rows : ℕ) → delivered_since leg 0 rows ≡ delivered_of leg rows
since-begin leg rows = ap (λ (frames : List (List ℕ)). drop (length frames) (delivered_of leg rows))
    (none-delivered leg) ∙ drop-none (delivered_of leg rows)

pub since : (leg : Leg) (a b : ℕ) → a ≤ b → delivered_of leg a ++ delivered_since leg a b ≡ delivered_of leg b
since leg a b low =
    let e : a + (b - a) ≡ b = omega (arith, low) in
    ap (λ n. delivered_of leg a ++ delivered_since leg a n) (sym e) ∙ sym (frames-grow leg a (b - a))
    ∙ ap (delivered_of leg) e

-- the lines of the frames of some first rows are a front of its report
report-given_up : {K : Type 0} (failed : Bool) (written : K → Option (List ℕ)) (faults : K → ℕ) (old new : K)
    (leg : Leg) (rows : ℕ) → rows ≤ leg.config.ticks →
    GivesUp failed written faults old new (got_texts (delivered_of leg rows)) →
    GivesUp failed written faults old new (final_report leg)
report-given_up failed written faults old new leg rows low part =
    let total = leg.config.ticks in
    let a : List ℕ = got_texts (delivered_of leg rows) in
    let all : List ℕ = got_texts (delivered_of leg total) in
    let items = numbered 0 leg.items in
    let refused : List ℕ = refused_texts (refusals_among leg items) in
    let P : List ℕ → Type 0 = λ text. GivesUp failed written faults old new text in
    let more : a ++ got_texts (delivered_since leg rows total) ≡ all =
    sym (flat_map-append got_text (delivered_of leg rows) (delivered_since leg rows total))
    ∙ ap got_texts (since leg rows total low) in
    given_up-longer failed written faults old new (all ++ refused) (total_text (totals_among leg total total items))
    (given_up-longer failed written faults old new all refused
    (subst P more
    (given_up-longer failed written faults old new a (got_texts (delivered_since leg rows total)) part)))

-- ---- a pair before its first event
begun-rows : (a : Paired) (way : Way) → a.counts ≡ pair_begin (plan_of a) → (counts_on a.counts way).rows ≡ 0
begun-rows a There begun = ap (λ (s : PairCounts). s.there.rows) begun
begun-rows a Back begun = ap (λ (s : PairCounts). s.back.rows) begun

pub begun-few : (a : Paired) → a.counts ≡ pair_begin (plan_of a) → FewRows a
begun-few a begun =
    let there = begun-rows a There begun in
    let back = begun-rows a Back begun in
    record { there = omega (arith, there); back = omega (arith, back) }

begun-walked : (a : Paired) → a.counts ≡ pair_begin (plan_of a) → IsPairWalked a.there a.back a.counts
begun-walked a begun = subst (IsPairWalked a.there a.back) (sym begun) (pair-begins (plan_of a))

-- ---- a pair after its rounds
few-way : (b : Paired) (way : Way) → FewRows b → (counts_on b.counts way).rows ≤ (leg_on b way).config.ticks
few-way b There few = few.there
few-way b Back few = few.back

pub ended-there : (a b : Paired) → a.counts ≡ pair_begin (plan_of a) → IsPair a.there a.back →
    b ≡ with_counts a (pair_drained a.there a.back a.counts) →
    report_of (leg_on b There) (counts_on b.counts There) ≡ way_text a.there a.back
ended-there a b begun fits drained =
    ap (λ (p : Paired). report_of (leg_on p There) (counts_on p.counts There)) drained
    ∙ there-report a.there a.back a.counts fits (begun-walked a begun)

pub ended-back : (a b : Paired) → a.counts ≡ pair_begin (plan_of a) → IsPair a.there a.back →
    b ≡ with_counts a (pair_drained a.there a.back a.counts) →
    report_of (leg_on b Back) (counts_on b.counts Back) ≡ way_text a.back a.there
ended-back a b begun fits drained =
    ap (λ (p : Paired). report_of (leg_on p Back) (counts_on p.counts Back)) drained
    ∙ back-report a.there a.back a.counts fits (begun-walked a begun)

-- ---- the lines of a way, since its place was made
abbrev lines_of : {K : Type 0} → (K → Option (List ℕ)) → (K → ℕ) → GotLines K → Start → List (List ℕ) → Type 0
lines_of written faults got start frames = HasText written faults got start (got_texts frames)

abbrev frames_of : Paired → Way → List (List ℕ)
frames_of pair way = delivered_of (leg_on pair way) (counts_on pair.counts way).rows

module _ {K : Type 0} (written : K → Option (List ℕ)) (faults : K → ℕ) (out : K) (was got : GotLines K) (a b : Paired)
    (way : Way) (begun : a.counts ≡ pair_begin (plan_of a)) (same : b ≡ with_counts a b.counts)
    (fresh : HasText written faults was (start_at written faults out (name_of was)) [])
    (gives : GivesWay (lines_of written faults) was got a b way) where
  since-start : HasText written faults got (start_at written faults out (name_of was)) (got_texts (frames_of b way))
  since-start =
      let leg : Leg = leg_on a way in
      let rows : ℕ = (counts_on b.counts way).rows in
      let P : List (List ℕ) → Type 0 = λ frames.
      HasText written faults got (start_at written faults out (name_of was)) (got_texts frames) in
      let from_none = subst (λ n. GivesRows (lines_of written faults) was got leg n rows) (begun-rows a way begun)
      gives in
      subst (λ (l : Leg). P (delivered_of l rows)) (sym (leg-same a b way same))
      (subst P (since-begin leg rows) (from_none (start_at written faults out (name_of was)) [] fresh))

  pub same-name : name_of got ≡ name_of was
  same-name = since-start.0

  pub way-lines : HasText written faults got (start_at written faults out (name_of got)) (got_texts (frames_of b way))
  way-lines =
      let N : ℕ → Type 0 = λ n. HasText written faults got (start_at written faults out n)
      (got_texts (frames_of b way)) in
      subst N (sym same-name) since-start

  -- they are given up
  pub way-given_up : (failed : Bool) (new : K) → FewRows b → has_failed got ≡ failed →
      ((at : K) (text : List ℕ) → HasText written faults got (start_at written faults at (name_of got)) text →
      GivesUp (has_failed got) written faults at new text) →
      GivesUp failed written faults out new (final_report (leg_on a way))
  way-given_up failed new few is gives_up =
      let P : Bool → Type 0 = λ f. GivesUp f written faults out new (got_texts (frames_of b way)) in
      subst (λ (l : Leg). GivesUp failed written faults out new (final_report l)) (leg-same a b way same)
      (report-given_up failed written faults out new (leg_on b way) (counts_on b.counts way).rows
      (few-way b way few) (subst P is (gives_up out (got_texts (frames_of b way)) way-lines)))

-- what follows the lines of frames, up to the end of a report
pub rest-lines : {K : Type 0} (written : K → Option (List ℕ)) (faults : K → ℕ) (first : K) (was got : GotLines K)
    (leg : Leg) (s : Counts) (refusals : List (ℕ × Refusal)) (totals : Totals) → refusals ≡ refusals_of leg s →
    totals ≡ totals_of leg s →
    ((start : Start) (before : List ℕ) → HasText written faults was start before →
    HasText written faults got start (before ++ refused_texts refusals ++ total_text totals)) →
    HasText written faults was (start_at written faults first (name_of was)) (got_texts (delivered_of leg s.rows)) →
    (name_of got ≡ name_of was) × HasText written faults got (start_at written faults first (name_of got))
    (report_of leg s)
rest-lines written faults first was got leg s refusals totals refused told writes has =
    let start : Start = start_at written faults first (name_of was) in
    let frames : List ℕ = got_texts (delivered_of leg s.rows) in
    let all = writes start frames has in
    let own = subst (λ (t : Totals). HasText written faults got start (frames ++ refused_texts (refusals_of leg s)
    ++ total_text t)) told
    (subst (λ (r : List (ℕ × Refusal)). HasText written faults got start (frames ++ refused_texts r
    ++ total_text totals)) refused all) in
    (all.0, subst (λ n. HasText written faults got (start_at written faults first n) (report_of leg s)) (sym all.0) own)

-- ---- what a result says
pub on-ok : {T E P : Type 0} (r : Result T E) → P → OnOk r P
on-ok (Ok x) p = p
on-ok (Err e) p = tt

pub at-ok : {T E P : Type 0} (r : Result T E) (x : T) → r ≡ Ok x → OnOk r P → P
at-ok (Ok y) x is p = p
at-ok (Err e) x is p = absurd cc

pub at-err : {T E P : Type 0} (r : Result T E) (e : E) → r ≡ Err e → OnErr r P → P
at-err (Ok y) e is p = absurd cc
at-err (Err f) e is p = p

-- ---- both ways
pub stops-both : {K E : Type 0} (out : Lent K) (notes : Lent E) (failed : Bool) (text told : List ℕ) →
    GivesUp failed out.octets out.faults out.old out.new text →
    GivesUp (not failed) notes.octets notes.faults notes.old notes.new told →
    WritesPart out notes (writes_both text told)
stops-both out notes true text told a b = inl (a, b)
stops-both out notes false text told a b = inr (a, b)

-- ---- The headline of a text of two scripts. What a pair writes of it is here to be cited by the command.
way_headline : (script other : Script) → IsWay script → IsWayHeadline script other (way_text script other)
way_headline script other is =
    let all = script.config.ticks in
    is_headline (way_of script other) all all (numbered 0 script.items) (way-sound script other is) (omega arith)

pub pair_headline : (text : List ℕ) (pair : ScriptPair) → length text ≤ 67108864 → pair_of text ≡ Ok pair →
    IsPairHeadline text (way_text pair.there pair.back) (way_text pair.back pair.there)
pair_headline text pair short said =
    let fits = valid_pair text pair said in
    (pair, said, way_headline pair.there pair.back fits.there_way, way_headline pair.back pair.there fits.back_way)
