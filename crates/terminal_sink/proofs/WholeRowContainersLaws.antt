-- Rows that are whole or lost, by their packets and the containers of their lines.
use Rattle.std.proofs.Common.{◌≡◌, ℕ, ◌-◌, ◌/◌, ◌<◌, ◌≤◌, nat_lt, true, false, List, [], ◌∷◌, ◌++◌, Option, Some, refl}
use Rattle.std.proofs.Common.{sym, ◌∙◌, ap, subst, arith, if◌then◌else◌, append-nil, Bool, map, length, slice_get}
use Rattle.std.proofs.Common.{None, ap₂, is_some, option_map}
use Rattle.std.proofs.lemmas.Bool.Decides.{nat_tests}
use Rattle.law_model.specs.Common.{Cell, row_at, carriers_at, StreamRow, Segments, segments_of, longest_frame}
use Rattle.law_model.specs.Common.{Container, verdict, octets_from, container_in, container_on, with_first}
use Rattle.law_model.specs.Common.{containers_at, carried_row}
use Rattle.law_model.specs.rows.GroupRows.{row_by}
use Rattle.law_model.specs.declared.script_types.Options.{Options}
use Rattle.terminal_sink.specs.marked_delineator.Marks.{Marked as Receiver, StandsIn}
use Rattle.law_loss.specs.AddedFrames.{added, whole_row, lost_row}
use Rattle.law_loss.proofs.SegmentsOfAddedRowsLaws.{segments_of-push, added-whole, added-lost}
use Rattle.terminal_sink.specs.sink_core.TakenAndGiven.{AreCarriers}
use Rattle.terminal_sink.specs.sink_core.RowsInReceiver.{Receives, Grows, Gives}
use Rattle.std.proofs.lemmas.Option.{slice_get-map}
use Rattle.law_model.proofs.ListLaws.{slice_get-inside}
use Rattle.member_rows.specs.vcat_interleave.MemberPayloads.{payload_or, payloads_of}

-- ---- One row more, whole or not.
pub receives-whole : (was now : Receiver) (come : List StreamRow) (octets : List ℕ) → Grows was now octets →
    Receives was come → Receives now (come ++ whole_row octets ∷ [])
receives-whole was now come octets grows has =
    subst (λ (come : Segments). StandsIn now longest_frame come.last.first come.last.octets)
    (sym (segments_of-push come (whole_row octets)))
    (grows (segments_of come).last.first (segments_of come).last.octets has)

pub receives-lost : (now : Receiver) (come : List StreamRow) (octets : List ℕ) → StandsIn now longest_frame false [] →
    Receives now (come ++ lost_row octets ∷ [])
receives-lost now come octets stands =
    subst (λ (come : Segments). StandsIn now longest_frame come.last.first come.last.octets)
    (sym (segments_of-push come (lost_row octets))) stands

pub gives-whole : {A : Type 0} (stands : A → List (List ℕ) → Type 0) (was : Receiver) (come : List StreamRow)
    (octets : List ℕ) (before after : A) → Gives stands was octets before after → Receives was come →
    (frames : List (List ℕ)) → stands before frames → stands after (frames ++ added longest_frame come (whole_row octets))
gives-whole stands was come octets before after gives has frames given =
    subst (λ more. stands after (frames ++ more)) (sym (added-whole longest_frame come octets))
    (gives (segments_of come).last.first (segments_of come).last.octets has frames given)

pub gives-lost : {A : Type 0} (stands : A → List (List ℕ) → Type 0) (come : List StreamRow) (octets : List ℕ) (out : A)
    (frames : List (List ℕ)) → stands out frames →
    stands out (frames ++ added longest_frame come (lost_row octets))
gives-lost stands come octets out frames given =
    subst (stands out) (sym (append-nil frames) ∙ ap (λ l. frames ++ l) (sym (added-lost longest_frame come octets))) given

-- ---- rows before the first that a packet governs, and after it
pub row-early : (options : Options) (size : ℕ) (cells : List (List Cell)) (t : ℕ) → t < 24 →
    row_at options size cells t ≡ Some []
row-early options size cells t early = let e : nat_lt t 24 ≡ true = grind (arith, nat_tests, early) in rw e refl

pub row-late : (options : Options) (size : ℕ) (cells : List (List Cell)) (t : ℕ) (lines : Option (List ℕ)) → 24 ≤ t →
    AreCarriers options cells t lines → row_at options size cells t ≡ row_by lines size cells t
row-late options size cells t lines late are =
    let e : nat_lt t 24 ≡ false = grind (arith, nat_tests, late) in
    ap (λ early. if early then Some [] else row_by (carriers_at options cells ((t - 24) / 16)) size cells t) e
    ∙ ap (λ lines. row_by lines size cells t) (sym (are late))

-- ---- Rows that are whole by their packets and the containers of their lines.
-- the container of each line whose number t is whole stands at the place of its line
abbrev pub Hold : List Container → List (List Cell) → ℕ → Type 0
Hold places cells t = (m : ℕ) (own : List Cell) (found : Container) → slice_get cells m ≡ Some own →
    verdict own t ≡ Some (Some found) → slice_get places m ≡ Some found

-- the octets that containers at these places carry for the lines of a list, where the row is whole
abbrev pub octets_if : Bool → ℕ → List Container → List ℕ → Option (List ℕ)
octets_if whole size places lines = if whole then Some (octets_from 0 size (payloads_of places lines)) else None

-- ---- line by line
pub with-whole : (first : Container) (rest : Option (List Container)) →
    is_some (with_first (Some first) rest) ≡ is_some rest
with-whole first None = refl
with-whole first (Some rest) = refl

-- what is said of a line of the group
pub container_on-told : (cells : List (List Cell)) (line t : ℕ) (told : Option Container) → line < length cells →
    ((own : List Cell) → slice_get cells line ≡ Some own → verdict own t ≡ Some told) →
    container_on (slice_get cells line) t ≡ told
container_on-told cells line t told inside said =
    let (own, here) = slice_get-inside cells line inside in
    rw here (ap container_in (said own here))

pub whole-step : (cells : List (List Cell)) (t line : ℕ) (lines : List ℕ) (found : Container) →
    container_on (slice_get cells line) t ≡ Some found →
    is_some (containers_at cells t (line ∷ lines)) ≡ is_some (containers_at cells t lines)
whole-step cells t line lines found is = rw is (with-whole found (containers_at cells t lines))

pub bad-step : (cells : List (List Cell)) (t line : ℕ) (lines : List ℕ) → container_on (slice_get cells line) t ≡ None →
    is_some (containers_at cells t (line ∷ lines)) ≡ false
bad-step cells t line lines is = rw is refl

-- ---- the octets
both-whole : (first : Option Container) (rest : Option (List Container)) (all : List Container) →
    with_first first rest ≡ Some all →
    (x : Container) × (xs : List Container) × (first ≡ Some x) × (rest ≡ Some xs) × (all ≡ x ∷ xs)
both-whole None rest all e = absurd cc
both-whole (Some first) None all e = absurd cc
both-whole (Some first) (Some rest) all e = (first, rest, refl, refl, cc)

in-whole : (told : Option (Option Container)) (found : Container) → container_in told ≡ Some found →
    told ≡ Some (Some found)
in-whole None found e = absurd cc
in-whole (Some told) found e = ap Some e

on-whole : (here : Option (List Cell)) (t : ℕ) (found : Container) → container_on here t ≡ Some found →
    (own : List Cell) × (here ≡ Some own) × (verdict own t ≡ Some (Some found))
on-whole None t found e = absurd cc
on-whole (Some own) t found e = (own, refl, in-whole (verdict own t) found e)

payloads-whole : (cells : List (List Cell)) (places : List Container) (t : ℕ) (lines : List ℕ) (all : List Container) →
    Hold places cells t → containers_at cells t lines ≡ Some all →
    map (λ container. container.payload) all ≡ payloads_of places lines
payloads-whole cells places t [] all hold is = let e : all ≡ [] = cc in ap (map (λ container. container.payload)) e
payloads-whole cells places t (line ∷ lines) all hold is =
    let (x, xs, first, rest, e) = both-whole (container_on (slice_get cells line) t)
    (containers_at cells t lines) all is in
    let (own, here, said) = on-whole (slice_get cells line) t x first in
    ap (map (λ container. container.payload)) e
    ∙ ap₂ (λ p ps. p ∷ ps) (sym (ap payload_or (hold line own x here said)))
    (payloads-whole cells places t lines xs hold rest)

carried-whole : (size : ℕ) (cells : List (List Cell)) (places : List Container) (t : ℕ) (lines : List ℕ)
    (given : Option (List Container)) → Hold places cells t → containers_at cells t lines ≡ given →
    option_map (λ containers. carried_row containers size) given ≡ octets_if (is_some given) size places lines
carried-whole size cells places t lines None hold is = refl
carried-whole size cells places t lines (Some all) hold is =
    ap Some (ap (octets_from 0 size) (payloads-whole cells places t lines all hold is))

-- a row that some lines carry
row-by : (size : ℕ) (cells : List (List Cell)) (places : List Container) (t : ℕ) (lines : List ℕ) (whole : Bool) →
    Hold places cells t → whole ≡ is_some (containers_at cells t lines) →
    row_by (Some lines) size cells t ≡ octets_if whole size places lines
row-by size cells places t lines whole hold is =
    carried-whole size cells places t lines (containers_at cells t lines) hold refl
    ∙ ap (λ whole. octets_if whole size places lines) (sym is)

pub row-known : (options : Options) (size : ℕ) (cells : List (List Cell)) (places : List Container) (t : ℕ)
    (lines : List ℕ) (whole : Bool) → 24 ≤ t → AreCarriers options cells t (Some lines) → Hold places cells t →
    whole ≡ is_some (containers_at cells t lines) → row_at options size cells t ≡ octets_if whole size places lines
row-known options size cells places t lines whole late are hold is =
    row-late options size cells t (Some lines) late are ∙ row-by size cells places t lines whole hold is

-- ---- containers at the places of their lines
abbrev pub told_or : Option Container → Container
told_or None = record { h4 = 0; payload = [] }
told_or (Some container) = container

pub hold-some : (cells : List (List Cell)) (t : ℕ) →
    Hold (map (λ own. told_or (container_in (verdict own t))) cells) cells t
hold-some cells t = λ m own found here said.
    slice_get-map (λ own. told_or (container_in (verdict own t))) cells m
    ∙ ap (option_map (λ own. told_or (container_in (verdict own t)))) here
    ∙ ap (λ told. Some (told_or (container_in told))) said
