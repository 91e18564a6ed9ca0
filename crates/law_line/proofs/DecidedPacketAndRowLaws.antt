-- Which numbers are decided, and that decided packets and rows are read and change no more.
use Rattle.std.proofs.Common.{◌≡◌, ℕ, List, [], ◌∷◌, ◌++◌, length, slice_get, Option, Some, None, refl, sym, ◌∙◌, ap}
use Rattle.std.proofs.Common.{arith, take_all, ◌⊎◌, zero, suc, ◌+◌, ◌*◌, ◌/◌, ◌<◌, ◌≤◌, true, false, if◌then◌else◌}
use Rattle.std.proofs.Common.{inl, inr, map, take, drop, subst, ◌-◌, nat_lt, Bool, ap₂, IsSome, option_map, ltb-false}
use Rattle.law_model.proofs.ListLaws.{none-beyond, take-next, slice_get-drop, slice_get-inside, is-some}
use Rattle.law_model.proofs.ListLaws.{map-same_range}
use Rattle.std.proofs.lemmas.Option.{slice_get_past}
use Rattle.law_model.specs.Common.{Container, Cell, End, LineLock, unlocked, locked, over, Reading, read_at, read_on}
use Rattle.law_model.specs.Common.{reading_of, verdict_over, verdict_or, verdict, signs_of, HasNoEnd, is_good}
use Rattle.law_model.specs.Common.{is_readable, cells, expected, upper_of, with_last, uppers, read_packet}
use Rattle.law_model.specs.Common.{read_packets, carriers_of, carriers_at, container_in, container_on, with_first}
use Rattle.law_model.specs.Common.{containers_at, carried_row, return_of, sent_nibbles, read_of}
use Rattle.law_model.specs.members.CellVerdicts.{begun}
use Rattle.law_line.specs.Wording.{dec_of, AreWhole, AreDecided, EndDecides}
use Rattle.law_line.proofs.CellSightAndLockLaws.{LockStands, stands-of, is_whole_at, whole_at_is}
use Rattle.law_line.proofs.ReadingVerdictLaws.{read_on-append, over-stays, are_numbered, verdict-stays}
use Rattle.std.proofs.lemmas.Bool.{cases_eq, cases_Bool}
use Rattle.std.proofs.lemmas.List.{map-append}
use Rattle.law_model.specs.declared.window_types.Carried.{Carried}
use Rattle.law_model.specs.members.Damage.{carried}
use Rattle.law_line.specs.Numbering.{AreReadable, line_cells, AreRead}
use Rattle.law_line.specs.StableVerdicts.{OctetsStay}
use Rattle.law_line.proofs.ContainerLockAndSlipLaws.{readable-good, good-readable}
use Rattle.std.specs.List.{range_with_len}
use Rattle.law_model.specs.declared.control_packet.Packet.{Packet}
use Rattle.law_model.specs.rows.GroupRows.{packet_in, row_by}
use Rattle.std.specs.Result.{result_ok}
use Rattle.law_line.specs.StableRows.{IsLonger, AreDecidedAt, PacketsStay, GoverningStay, CarriersStay, RowsStay}
use Rattle.law_line.specs.StableRows.{ReturnsStay}

-- ---- Which numbers are decided, and what End decides.
-- a line that has not ended decides no more than its verdicts
pub open-lock : (lock : LineLock) (signs : List (Option ℕ)) → LockStands lock signs → verdict_over lock ≡ None
open-lock unlocked signs is = refl
open-lock (begun octet) signs is = refl
open-lock (locked mfi1) signs is = refl
open-lock over signs is = absurd is

or-none : (here : Option (Option Container)) → verdict_or here None ≡ here
or-none None = refl
or-none (Some told) = refl

pub verdict-open : (cells : List Cell) (t : ℕ) → HasNoEnd cells →
    verdict cells t ≡ slice_get (reading_of cells).verdicts t
verdict-open cells t more =
    rw (open-lock (reading_of cells).lock (signs_of cells) (stands-of cells more))
    (or-none (slice_get (reading_of cells).verdicts t))

pub are_whole : AreWhole
are_whole cells t container more = (
  λ is. is_whole_at cells more t container (sym (verdict-open cells t more) ∙ is),
  λ is. verdict-open cells t more ∙ whole_at_is cells more t container is,
)

pub are_decided : AreDecided
are_decided cells t more =
    let all : dec_of cells (length cells) ≡ length (reading_of cells).verdicts =
    ap (λ l. length ((reading_of l).verdicts)) (take_all (length cells) cells (omega arith)) in (
      λ none. let beyond = none-beyond (reading_of cells).verdicts t (sym (verdict-open cells t more) ∙ none) in
          omega arith,
      λ beyond. verdict-open cells t more ∙ slice_get_past (reading_of cells).verdicts t (omega arith),
    )

end-lock : (lock : LineLock) (verdicts : List (Option Container)) →
    read_at lock verdicts End ≡ record { lock = over; verdicts = verdicts }
end-lock unlocked verdicts = refl
end-lock (begun octet) verdicts = refl
end-lock (locked mfi1) verdicts = refl
end-lock over verdicts = refl

pub end-reading : (cells more : List Cell) →
    reading_of (cells ++ End ∷ more) ≡ record { lock = over; verdicts = (reading_of cells).verdicts }
unfolding read_on
end-reading cells more =
    let start : Reading = record { lock = unlocked; verdicts = [] } in
    let reading : Reading = reading_of cells in
    read_on-append start cells (End ∷ more) ∙ ap (λ r. read_on r more) (end-lock reading.lock reading.verdicts)
    ∙ over-stays more reading.verdicts

pub end_decides : EndDecides
end_decides cells more t no_end = rw (end-reading cells more, verdict-open cells t no_end) refl

-- ---- The octets of packets.
module _ (told : List Cell) (containers : List Container) where
  uppers-good : (from count : ℕ) →
      ((t : ℕ) → from ≤ t → t < from + count → (c : Container) × (slice_get containers t ≡ Some c) ×
      (verdict told t ≡ Some (Some c))) →
      uppers told from count ≡ Some (map (λ c. c.h4 / 16) (take count (drop from containers)))
  unfolding uppers
  uppers-good from zero all = refl
  uppers-good from (suc count) all =
      let (c, here, is) = all (from + count) (omega arith) (omega arith) in
      let before = uppers-good from count (λ t low high. all t low (omega arith)) in
      let part = drop from containers in
      rw (before, is) (ap Some (sym (map-append (λ c. c.h4 / 16) (take count part) (c ∷ []))
      ∙ ap (map (λ c. c.h4 / 16)) (sym (take-next part count c (slice_get-drop containers from count ∙ here)))))

  with-none : (o : Option (List ℕ)) → with_last o None ≡ None
  with-none None = refl
  with-none (Some xs) = refl

  uppers-bad : (from count t : ℕ) → from ≤ t → t < from + count → verdict told t ≡ Some None →
      uppers told from count ≡ None
  unfolding uppers
  uppers-bad from zero t low high is = absurd (omega arith)
  uppers-bad from (suc count) t low high is =
      elim (cases_eq t (from + count)) [
        | inl last ↦ ap (λ v. with_last (uppers told from count) (upper_of v)) (ap (verdict told) (sym last) ∙ is)
            ∙ with-none (uppers told from count)
        | inr other ↦ ap (λ o. with_last o (upper_of (verdict told (from + count))))
            (uppers-bad from count t low (omega arith) is)
      ]

-- all are good, or one is not
search-bad : (carries : ℕ → Carried) (from count : ℕ) →
    ((t : ℕ) → from ≤ t → t < from + count → is_good carries t ≡ true) ⊎
    ((t : ℕ) × (from ≤ t) × (t < from + count) × (is_good carries t ≡ false))
search-bad carries from zero = inl (λ t low high. absurd (omega arith))
search-bad carries from (suc count) =
    elim (search-bad carries from count) [
      | inl all ↦
          elim (cases_Bool (is_good carries (from + count))) [
            | inl good ↦ inl (λ t low high. elim (cases_eq t (from + count)) [
              | inl last ↦ subst (λ t. is_good carries t ≡ true) (sym last) good
              | inr other ↦ all t low
                  (omega arith)
            ])
            | inr bad ↦ inr (from + count, omega arith, omega arith, bad)
          ]
      | inr some ↦ inr (some.0, some.1, (let high = some.2 in omega arith), some.3)
    ]

pub are_readable : AreReadable
are_readable windows containers delay i k line inside decided =
    let carries = carried windows in
    let told : List Cell = cells carries delay (length containers) containers i in
    let from : ℕ = 16 * k + 8 in
    let is : (t : ℕ) → from ≤ t → t < 16 * k + 24 → verdict told t ≡ Some (expected carries containers t) =
    λ t low high. let some = is-some (verdict told t) (decided t low high) in
    some.1 ∙ ap Some (are_numbered windows containers delay i t some.0 line (omega arith) some.1) in
    elim (search-bad carries from 16) [
      | inl all ↦
          let readable : is_readable carries k ≡ true =
          good-readable carries k (λ t low high. all t low (omega arith)) in
          rw readable (uppers-good told containers from 16 (λ t low high.
          let (c, here) = slice_get-inside containers t (omega arith) in (
            c,
            here,
            is t low (omega arith)
                ∙ ap Some (ap (λ b. if b then slice_get containers t else None) (all t low high) ∙ here),
          )))
      | inr some ↦
          let (t, low, high, bad) = some in
          let unreadable : is_readable carries k ≡ false = elim (cases_Bool (is_readable carries k)) [
            | inl readable ↦ absurd (let e : false ≡ true = sym bad
                ∙ readable-good carries k readable t low (omega arith) in cc)
            | inr e ↦ e
          ] in
          rw unreadable (uppers-bad told containers from 16 t low high
          (is t low (omega arith) ∙ ap (λ b. Some (if b then slice_get containers t else None)) bad))
    ]

pub octets_stay : OctetsStay
unfolding uppers
octets_stay cells more from zero decided = refl
octets_stay cells more from (suc count) decided =
    let t : ℕ = from + count in
    let some = is-some (verdict cells t) (decided t (omega arith) (omega arith)) in
    let same : verdict (cells ++ more) t ≡ verdict cells t = verdict-stays cells more t some.0 some.1 ∙ sym some.1 in
    ap (λ o. with_last o (upper_of (verdict (cells ++ more) t)))
    (octets_stay cells more from count (λ t low high. decided t low (omega arith)))
    ∙ ap (λ v. with_last (uppers cells from count) (upper_of v)) same

-- ---- Packets and rows that are decided: which packets are read, and that more cells change nothing.
-- ---- a number below one that is decided is decided
earlier-by : (verdicts : List (Option Container)) (lock : LineLock) (s t : ℕ) (here there : Option (Option Container)) →
    slice_get verdicts s ≡ here → slice_get verdicts t ≡ there → s ≤ t →
    IsSome (verdict_or there (verdict_over lock)) → IsSome (verdict_or here (verdict_over lock))
earlier-by verdicts lock s t (Some told) there is at_t below decided = refl
earlier-by verdicts lock s t None (Some told) is at_t below decided =
    let beyond = none-beyond verdicts s is in
    absurd (let e : Some told ≡ None = sym at_t ∙ slice_get_past verdicts t (omega arith) in cc)
earlier-by verdicts lock s t None None is at_t below decided = decided

pub earlier : (own : List Cell) (s t : ℕ) → s ≤ t → IsSome (verdict own t) → IsSome (verdict own s)
earlier own s t below decided =
    earlier-by (reading_of own).verdicts (reading_of own).lock s t (slice_get (reading_of own).verdicts s)
    (slice_get (reading_of own).verdicts t) refl refl below decided

-- ---- packets
pub packets_stay : PacketsStay
packets_stay own more k decided =
    ap packet_in (octets_stay own more (16 * k + 8) 16
    (λ t low high. earlier own t (16 * k + 23) (omega arith) decided))

packet-if : (readable : Bool) (nibbles : List ℕ) →
    packet_in (if readable then Some nibbles else None) ≡ (if readable then result_ok (read_of nibbles) else None)
packet-if true nibbles = refl
packet-if false nibbles = refl

pub are_read : AreRead
are_read windows containers delay i k line inside decided =
    ap packet_in (are_readable windows containers delay i k line inside
    (λ t low high. earlier (line_cells windows containers delay i) t (16 * k + 23) (omega arith) decided))
    ∙ packet-if (is_readable (carried windows) k) (sent_nibbles containers k)

pub read-stays : (cells longer : List (List Cell)) (k : ℕ) → IsLonger cells longer → AreDecidedAt cells (16 * k + 23) →
    read_packets longer k ≡ read_packets cells k
read-stays [] [] k are decided = refl
read-stays [] (x ∷ longer) k are decided = absurd (let size = are.size in omega arith)
read-stays (own ∷ cells) [] k are decided = absurd (let size = are.size in omega arith)
read-stays (own ∷ cells) (x ∷ longer) k are decided =
    let (more, here) = are.each 0 own refl in
    let first : x ≡ own ++ more = cc in
    ap₂ (λ packet packets. packet ∷ packets)
    (ap (λ own. read_packet own k) first ∙ packets_stay own more k (decided 0 own refl))
    (read-stays cells longer k (record { size = (let size = are.size in omega arith); each = λ m. are.each (suc m) })
    (λ m. decided (suc m)))

pub nones-stay : (cells longer : List (List Cell)) → length longer ≡ length cells →
    map (λ own. let none : Option Packet = None in none) longer ≡ map (λ own. let none : Option Packet = None in none)
    cells
nones-stay [] [] size = refl
nones-stay [] (x ∷ longer) size = absurd (omega arith)
nones-stay (own ∷ cells) [] size = absurd (omega arith)
nones-stay (own ∷ cells) (x ∷ longer) size = ap (λ packets. None ∷ packets) (nones-stay cells longer (omega arith))

decided-before : (cells : List (List Cell)) (s t : ℕ) → s ≤ t → AreDecidedAt cells t → AreDecidedAt cells s
decided-before cells s t below decided m own here = earlier own s t below (decided m own here)

pub governing_stay : GoverningStay
governing_stay cells longer t are decided =
    elim (cases_Bool (nat_lt t 24)) [
      | inl early ↦ rw early (nones-stay cells longer are.size)
      | inr late ↦
          let high = ltb-false t 24 late in
          rw late (read-stays cells longer ((t - 24) / 16) are
          (decided-before cells (16 * ((t - 24) / 16) + 23) t (omega arith) decided))
    ]

-- ---- carriers
rows-to-stay : (cells longer : List (List Cell)) (k : ℕ) → IsLonger cells longer → AreDecidedAt cells (16 * k + 23) →
    map (read_packets longer) (range_with_len 0 (k + 1)) ≡ map (read_packets cells) (range_with_len 0 (k + 1))
rows-to-stay cells longer k are decided =
    map-same_range (read_packets longer) (read_packets cells) 0 (k + 1)
    (λ j low. read-stays cells longer j are (decided-before cells (16 * j + 23) (16 * k + 23) (omega arith) decided))

pub carriers_stay : CarriersStay
carriers_stay options cells longer k are decided =
    ap (λ rows. carriers_of options rows k) (rows-to-stay cells longer k are decided)

-- ---- rows
container-stays : (cells longer : List (List Cell)) (line t : ℕ) (own : Option (List Cell)) →
    slice_get cells line ≡ own → IsLonger cells longer → AreDecidedAt cells t →
    container_on (slice_get longer line) t ≡ container_on own t
container-stays cells longer line t None is are decided =
    let beyond = none-beyond cells line is in
    rw (slice_get_past longer line (let size = are.size in omega arith)) refl
container-stays cells longer line t (Some own) is are decided =
    let (more, here) = are.each line own is in
    let (told, said) = is-some (verdict own t) (decided line own is) in
    rw here (ap container_in (verdict-stays own more t told said ∙ sym said))

containers-stay : (cells longer : List (List Cell)) (t : ℕ) (lines : List ℕ) → IsLonger cells longer →
    AreDecidedAt cells t → containers_at longer t lines ≡ containers_at cells t lines
containers-stay cells longer t [] are decided = refl
containers-stay cells longer t (line ∷ lines) are decided =
    ap₂ with_first (container-stays cells longer line t (slice_get cells line) refl are decided)
    (containers-stay cells longer t lines are decided)

row-stays : (lines : Option (List ℕ)) (size : ℕ) (cells longer : List (List Cell)) (t : ℕ) → IsLonger cells longer →
    AreDecidedAt cells t → row_by lines size longer t ≡ row_by lines size cells t
row-stays None size cells longer t are decided = refl
row-stays (Some lines) size cells longer t are decided =
    ap (λ containers. option_map (λ given. carried_row given size) containers)
    (containers-stay cells longer t lines are decided)

pub rows_stay : RowsStay
rows_stay options size cells longer t are decided =
    elim (cases_Bool (nat_lt t 24)) [
      | inl early ↦ rw early refl
      | inr late ↦
          let high = ltb-false t 24 late in
          let k : ℕ = (t - 24) / 16 in
          ap (λ row. if nat_lt t 24 then Some [] else row)
          (ap (λ lines. row_by lines size longer t)
          (carriers_stay options cells longer k are (decided-before cells (16 * k + 23) t (omega arith) decided))
          ∙ row-stays (carriers_at options cells k) size cells longer t are decided)
    ]

-- ---- return packets
pub returns_stay : ReturnsStay
returns_stay options cells longer k are decided =
    ap (λ rows. return_of options rows k) (rows-to-stay cells longer k are decided)
