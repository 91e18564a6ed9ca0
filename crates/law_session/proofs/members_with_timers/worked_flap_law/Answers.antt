-- A worked session, computed.
use Rattle.std.proofs.Common.{◌≡◌, ℕ, ◌+◌, ◌<◌, ◌≤◌, nat_le, nat_lt, ◌&&◌, not, true, false, if◌then◌else◌, inl, refl}
use Rattle.std.proofs.Common.{Some, is_none, subst, arith}
use Rattle.std.specs.List.{list_all, range_with_len}
use Rattle.std.proofs.lemmas.Bool.{le-ltb, not-true}
use Rattle.law_model.specs.members.Damage.{carried}
use Rattle.law_model.specs.Common.{are_whole, keep, none_kept, admit, turned, take_out, exchange, after, said_before}
use Rattle.law_model.specs.Common.{carried_by, carried_in, cells_before, is_read, is_up, last_read}
use Rattle.law_model.specs.declared.window_types.Carried.TheVariants.{Whole}
use Rattle.law_model.specs.declared.lcas_states.Command.TheVariants.{Remove as remove}
use Rattle.law_model.specs.source.Source.{carried as carried_out}
use Rattle.law_session.specs.LineInUse.{HasLimits}
use Rattle.law_session.specs.WorkedFlaps.{dearest}
use Rattle.law_session.proofs.UpLineAndReadablePacketLaws.{range-each}
use Rattle.law_session.proofs.members_with_timers.worked_flap_law.Goals as goal

-- a number of packets of the line from one on can't be read
abbrev pub AreMissed : ℕ → ℕ → Type 0
AreMissed from count = list_all (λ k. not (is_read dearest 1 k)) (range_with_len from count) ≡ true

each-missed : (from count : ℕ) → AreMissed from count → (k : ℕ) → from ≤ k → k < from + count →
    is_read dearest 1 k ≡ false
each-missed from count e k low high =
    not-true (is_read dearest 1 k) (range-each (λ k. not (is_read dearest 1 k)) count from e k low high)

missed-packets : AreMissed 30 4
unfolding carried are_whole
missed-packets = refl

all-missed : AreMissed 30 30
unfolding carried are_whole
all-missed = refl

beyond-whole : (n : ℕ) → 945 ≤ n → carried_by dearest 1 n ≡ Whole
unfolding carried
beyond-whole n low =
    let late : nat_lt n 945 ≡ false = le-ltb n 945 low in
    elim (nat_le 488 n) as (λ b. (if b && nat_lt n 945 then carried_in (record { first = 488; «end» = 945; slip = 0 }) n
    else Whole) ≡ Whole) [ true ↦ rw late refl | false ↦ refl ]

no-commands : list_all (λ j. is_none (carried_out dearest (cells_before dearest 87) j)) (range_with_len 83 4) ≡ true
unfolding carried are_whole after keep none_kept cells_before said_before exchange take_out turned admit is_up last_read
no-commands = refl

limits : HasLimits dearest
limits = record { lag = omega arith; lines = omega arith; statuses = inl refl }

pub returns-clause-out : goal.returns-clause-out
unfolding carried are_whole after keep none_kept cells_before said_before exchange take_out turned admit is_up last_read
returns-clause-out c = refl

pub returns-clause-back : goal.returns-clause-back
unfolding carried are_whole after keep none_kept cells_before said_before exchange take_out turned admit is_up last_read
returns-clause-back c = refl

pub returns-clause-failed : goal.returns-clause-failed
returns-clause-failed c = record {
  long = omega arith;
  missed = λ j low high. each-missed 30 4 missed-packets j (omega arith) (omega arith);
  first = λ k at. omega arith;
}

pub returns-clause-not_restored : goal.returns-clause-not_restored
returns-clause-not_restored c = λ j low high.
    (j, omega arith, omega arith, each-missed 30 30 all-missed j (omega arith) (omega arith))

pub returns-clause-whole : goal.returns-clause-whole
returns-clause-whole c = λ n low high. beyond-whole n low

pub returns-clause-round_out : goal.returns-clause-round_out
unfolding carried are_whole after keep none_kept cells_before said_before exchange take_out turned admit is_up last_read
returns-clause-round_out c = record {
  limits = limits;
  has = (1, refl);
  said = refl;
  made = omega arith;
  come = λ k low high. refl;
  still = refl;
}

pub returns-clause-round_back : goal.returns-clause-round_back
unfolding carried are_whole after keep none_kept cells_before said_before exchange take_out turned admit is_up last_read
returns-clause-round_back c = record {
  limits = limits;
  has = (1, refl);
  said = refl;
  made = omega arith;
  come = λ k low high. refl;
  still = refl;
}

pub returns-clause-is_out : goal.returns-clause-is_out
unfolding carried are_whole after keep none_kept cells_before said_before exchange take_out turned admit is_up last_read
returns-clause-is_out c = (1, refl)

pub returns-clause-stays : goal.returns-clause-stays
returns-clause-stays c = λ j low high removes.
    let none = range-each (λ i. is_none (carried_out dearest (cells_before dearest 87) i)) 4 83 no-commands j
    (omega arith) (omega arith) in
    let gone : is_none (Some (remove 1)) ≡ true = subst (λ found. is_none found ≡ true) removes none in cc
