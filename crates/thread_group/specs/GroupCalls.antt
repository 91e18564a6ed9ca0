-- What a call of a group does, as a whole.
use Rattle.std.specs.Prelude.{◌≡◌, ◌≢◌, ℕ, ◌+◌, ◌<◌, ◌≤◌, ◌↔◌, true, false, if◌then◌else◌, List, ◌++◌, Option, Some}
use mathlib.Core.List.{IsPrefix}
use Rattle.law_model.specs.Common.{Scenario, Told}
use Rattle.law_model.specs.declared.script_types.ItemKind.{ItemKind}
use Rattle.thread_rings.specs.EndsOfRing.{in_passed, SameIn}
use Rattle.terminal_source.specs.source_core.GivenScenario.{SourceStands as HasMade}
use Rattle.law_walk.specs.Common.{IsPlaced, refused_by}
use Rattle.thread_group.specs.declared.group_answers.SubmitFault.{SubmitFault}
use Rattle.thread_group.specs.declared.group_answers.TickAnswer.{TickAnswer}
use Rattle.thread_group.specs.declared.group_answers.TickAnswer.TheVariants.{Ticked, Held, TxFull, BackMissing, Done}
use Rattle.thread_group.specs.SubmitFaults.{has_landed, refusal_told}
use Rattle.terminal_group.specs.Landed.{due_at}
use Rattle.thread_group.specs.GroupRings.{SameOuts, IsFirstFull, HaveLooked}
use Rattle.thread_group.specs.declared.group_state.GroupState.{GroupState}
use Rattle.thread_group.specs.Group.{SameScript, inbox_of, ticks_of, total_of, journal_of, refusals_of, items_of}
use Rattle.thread_group.specs.Group.{taken_of, source_of, replay_of, GroupStands, fault_in, entries_by, HasCounted, LeavesRoom}
use Rattle.thread_group.specs.Group.{with_landed, SameRings, SameLanded, is_ticked, held_of, IsFreeToTick, AreMoved}
use Rattle.thread_group.specs.Group.{IsMissing, ArePushedOf, NothingPushed}

-- an item was submitted, which isn't accepted for this fault, or is accepted. A fault by which it hasn't landed changes
-- nothing
pub record Submits (a b : GroupState) (number : ℕ) (kind : ItemKind) (answer : Option SubmitFault) : Type 0 where
  pub fault : answer ≡ fault_in a number kind
  pub unchanged : has_landed answer ≡ false → b ≡ a
  pub when : has_landed answer ≡ true → due_at (items_of a) number ≡ ticks_of a
  pub landed : HasCounted a b kind (has_landed answer)
  pub journal : journal_of b ≡ journal_of a ++ entries_by answer number (ticks_of a) kind
  pub room : LeavesRoom a b kind answer
  pub refusals : has_landed answer ≡ true →
      IsPlaced number (refused_by number (refusal_told answer)) (refusals_of a) (refusals_of b)
  pub script : SameScript a b
  pub rings : SameRings a b
  pub made : (scenario : Scenario) (cells : List (Option Told)) → HasMade (source_of a) scenario cells →
      HasMade (source_of b) (with_landed scenario (ticks_of a) kind (has_landed answer)) cells
  pub stands : GroupStands b

-- a tick was tried
pub record Ticks (a b : GroupState) (answer : TickAnswer) : Type 0 where
  pub done : (answer ≡ Done) ↔ (total_of a ≤ ticks_of a)
  pub held : (item : ℕ) → (answer ≡ Held item) ↔ ((ticks_of a < total_of a) × (held_of a ≡ Some item))
  pub goes : answer ≢ Done → ((item : ℕ) → answer ≢ Held item) → IsFreeToTick a
  pub full : (line : ℕ) → answer ≡ TxFull line → IsFirstFull a.tx.items b.tx.items line
  pub missing : (packet : ℕ) → answer ≡ BackMissing packet → IsMissing packet a b
  pub ticks : ticks_of b ≡ ticks_of a + (if is_ticked answer then 1 else 0)
  pub pushed : answer ≡ Ticked → ArePushedOf (replay_of a) a b
  pub rest : answer ≢ Ticked → NothingPushed a b
  pub source : answer ≢ Ticked → source_of b ≡ source_of a
  pub script : SameScript a b
  pub landed : SameLanded a b
  pub sends : SameOuts a.tx.items b.tx.items
  pub returns : SameIn a.back b.back
  pub received : IsPrefix (in_passed a.back) (in_passed b.back)
  pub moved : AreMoved a b
  pub made : (scenario : Scenario) → HasMade (source_of a) scenario (taken_of a) →
      HasMade (source_of b) scenario (taken_of b)
  pub alike : (scenario : Scenario) → answer ≡ Ticked → HasMade (source_of a) scenario (taken_of a) →
      ArePushedOf scenario a b
  pub stands : GroupStands b

-- ---- the parts of a tick
-- return cells were moved into the inbox
pub record Comes (a b : GroupState) : Type 0 where
  pub script : SameScript a b
  pub landed : SameLanded a b
  pub source : source_of b ≡ source_of a
  pub tx : b.tx ≡ a.tx
  pub returns : SameIn a.back b.back
  pub received : IsPrefix (in_passed a.back) (in_passed b.back)
  pub moved : AreMoved a b
  pub taken : taken_of b ≡ taken_of a

-- send rings were looked at
pub record Looks (a b : GroupState) : Type 0 where
  pub script : SameScript a b
  pub landed : SameLanded a b
  pub source : source_of b ≡ source_of a
  pub inbox : inbox_of b ≡ inbox_of a
  pub back : b.back ≡ a.back
  pub looked : HaveLooked a.tx.items b.tx.items

-- a frame was made
pub record Makes (a b : GroupState) : Type 0 where
  pub script : SameScript a b
  pub landed : SameLanded a b
  pub ticks : ticks_of b ≡ ticks_of a + 1
  pub sends : SameOuts a.tx.items b.tx.items
  pub back : b.back ≡ a.back
  pub made : (scenario : Scenario) → HasMade (source_of a) scenario (taken_of a) →
      HasMade (source_of b) scenario (taken_of b)
  pub pushed : (scenario : Scenario) → HasMade (source_of a) scenario (taken_of a) → ArePushedOf scenario a b
  pub own : ArePushedOf (replay_of a) a b
