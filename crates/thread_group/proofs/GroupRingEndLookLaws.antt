-- Looks at the ends of a group's rings, also laid beside each other, change nothing of what is known.
use Rattle.std.proofs.Common.{◌≡◌, ℕ, zero, suc, ◌<◌, ◌≤◌, Bool, List, [], ◌∷◌, slice_get, slice_set, IsTrue, IsFalse}
use Rattle.std.proofs.Common.{Some, inl, inr, refl, sym, ◌∙◌, ap, subst, arith, length-set, length}
use Rattle.std.proofs.lemmas.Bool.{cases_Bool, cases_eq}
use Rattle.law_model.specs.Common.{one_more, Container, BackCell, Leg, scenario_by, containers_of, used_in}
use Rattle.member_rows.proofs.RowGatherLinesLaws.{set-here, set-other}
use Rattle.thread_rings.specs.EndsOfRing.{OutEnd, out_passed, out_free, out_misses, SameOut, InEnd, in_passed, SameIn}
use Rattle.thread_group.specs.GroupRings.{HasLooked, HaveLooked, SameOuts}
use Rattle.std.specs.Global.{Vec}
use Rattle.std.proofs.lemmas.Option.{slice_get_within}
use Rattle.law_model.proofs.ListLaws.{slice_get-inside}
use Rattle.terminal_source.specs.source_core.GivenScenario.{SourceStands as HasMade}
use Rattle.law_walk.specs.Common.{landed_items, landed_scenario}
use Rattle.thread_group.specs.declared.group_state.GroupState.{GroupState}
use Rattle.terminal_group.specs.ReturnInbox.{told_taken, HasCome}
use Rattle.thread_group.specs.Journal.{IsLegal}
use Rattle.thread_group.specs.GroupParts.{Parts, parts, scenario_in, told_in_parts, AreRefused, Keeps}
use Rattle.thread_group.specs.Group.{ticks_of, lag_of, lost_of, source_of, taken_of}
use Rattle.thread_group.specs.GroupOfLeg.{counts_of, refusals_by, accepted_frames_by, accepted_commands_by}
use Rattle.thread_group.specs.GroupOfLeg.{HasLandedOf, IsBound}
use Rattle.thread_group.proofs.GroupBoundToLegLaws.{outs-then, ins-then}

-- ---- Looks at the ends of send rings, and pushes into them.
pub set-there : {X : Type 0} (xs : List X) (m : ℕ) (x y : X) → slice_get xs m ≡ Some y →
    slice_get (slice_set xs m x) m ≡ Some x
set-there [] m x y e = absurd cc
set-there (z ∷ xs) zero x y e = refl
set-there (z ∷ xs) (suc m) x y e = set-there xs m x y e

pub less : (a b : ℕ) → a ≤ b → (b ≡ a → ⊥) → a < b
less a b low other = omega arith

pub has-looked : (old new : OutEnd Container) (found : Bool) → SameOut old new → out_passed new ≡ out_passed old →
    out_free old ≤ out_free new →
    (IsFalse found → out_misses new ≡ one_more (out_misses old)) → (IsTrue found → out_misses new ≡ out_misses old) →
    HasLooked old new
has-looked old new found same passed free counted quiet = record {
  same = same;
  passed = passed;
  free = free;
  misses = elim (cases_Bool found) [ inl e ↦ inl (quiet e) | inr e ↦ inr (counted e) ];
}

-- what holds of each end of two rows, when one that was as it was is changed
pub each-set : {X Y : Type 0} (R : X → Y → Type 0) (a : List X) (b : List Y) (m : ℕ) (old : X) (new : Y) →
    slice_get a m ≡ Some old → R old new →
    ((k : ℕ) (x : X) (y : Y) → slice_get a k ≡ Some x → slice_get b k ≡ Some y → R x y) →
    (k : ℕ) (x : X) (y : Y) → slice_get a k ≡ Some x → slice_get (slice_set b m new) k ≡ Some y → R x y
each-set R a b m old new was is each k x y here there =
    elim (cases_eq k m) [
      | inl same ↦
          let now : y ≡ new = set-here b m new y (sym (ap (slice_get (slice_set b m new)) same) ∙ there) in
          let first : Some old ≡ Some x = sym was ∙ ap (slice_get a) (sym same) ∙ here in
          let before : old ≡ x = cc in
          subst (R x) (sym now) (subst (λ o. R o new) before is)
      | inr other ↦ each k x y here (sym (set-other b m k new other) ∙ there)
    ]

pub looked-set : (a b : List (OutEnd Container)) (m : ℕ) (old new : OutEnd Container) → slice_get a m ≡ Some old →
    HasLooked old new → HaveLooked a b → HaveLooked a (slice_set b m new)
looked-set a b m old new was is looked = record {
  count = length-set b m new ∙ looked.count;
  each = each-set HasLooked a b m old new was is looked.each;
}

-- ---- A look at both ends of each ring of a group, which lie beside each other, changes nothing of what is known of it.
-- the same ends of send rings, through which nothing has passed since
pub record AreStill (tx tx' : List (OutEnd Container)) : Type 0 where
  pub same : SameOuts tx tx'
  pub passed : (m : ℕ) (old new : OutEnd Container) → slice_get tx m ≡ Some old → slice_get tx' m ≡ Some new →
      out_passed new ≡ out_passed old

pub keeps-laid : (at : Parts) (size : ℕ) (tx : List (OutEnd Container)) (back : InEnd BackCell) → Keeps at size →
    AreStill at.tx tx → in_passed back ≡ in_passed at.back →
    Keeps (record at { tx = tx; back = back }) size
keeps-laid at size tx back k still popped =
    let told : told_in_parts (record at { tx = tx; back = back }) ≡ told_in_parts at =
    ap (told_taken at.inbox.lost at.source.lag at.source.ticks) popped in
    record {
      total = k.total;
      ticks = k.ticks;
      lines = k.lines;
      lag = k.lag;
      places = k.places;
      rings = still.same.count ∙ k.rings;
      room = k.room;
      fits = k.fits;
      come = subst (λ l. HasCome at.inbox l (used_in at.source.lag at.source.ticks)) (sym popped) k.come;
      made = subst (λ cells. ∥ HasMade at.source (scenario_in at) cells ∥₁) (sym told) k.made;
      sent = λ m out there.
          let inside = slice_get_within tx m out there in
          let (old, was) = slice_get-inside at.tx m (omega (arith, inside, still.same.count)) in
          still.passed m old out was there ∙ k.sent m old was
          ∙ ap (λ cells. containers_of (scenario_in at) cells m at.source.ticks) (sym told);
      legal = subst (λ cells. IsLegal (scenario_in at) cells at.journal.entries) (sym told) k.legal;
      due = k.due;
      past = k.past;
      ahead = k.ahead;
      behind = k.behind;
      refused = subst (λ cells. AreRefused (scenario_in at) cells at.source.ticks at.landed.items at.journal.entries
          at.landed.refusals) (sym told) k.refused;
    }

module _ (leg : Leg) (g : GroupState) (tx : Vec (OutEnd Container)) (back : InEnd BackCell)
    (lines : g.landing.lines ≡ g.source.core.lines)
    (keeps : Keeps (parts g.source.core g.source.total g.landing g.journal g.source.inbox tx.items back)
    (length g.frame.items)) (still : AreStill g.tx.items tx.items) (same : SameIn g.back back)
    (popped : in_passed back ≡ in_passed g.back) where
  told : taken_of (record g { tx = tx; back = back; lines = lines; keeps = keeps }) ≡ taken_of g
  told = ap (told_taken (lost_of g) (lag_of g) (ticks_of g)) popped

  landed-laid : HasLandedOf leg g → HasLandedOf leg (record g { tx = tx; back = back; lines = lines; keeps = keeps })
  landed-laid has = record {
    entries = has.entries;
    past = has.past;
    most_frames = has.most_frames;
    most_commands = has.most_commands;
    refusals = has.refusals ∙ ap (λ cells. refusals_by leg cells (landed_items leg (counts_of g))) (sym told);
    frames = has.frames ∙ ap (λ cells. accepted_frames_by leg cells (landed_items leg (counts_of g))) (sym told);
    commands = has.commands ∙ ap (λ cells. accepted_commands_by leg cells (landed_items leg (counts_of g)))
        (sym told);
    order = has.order;
    sent = λ m out there.
        let inside = slice_get_within tx.items m out there in
        let (old, was) = slice_get-inside g.tx.items m (omega (arith, inside, still.same.count)) in
        still.passed m old out was there ∙ has.sent m old was
        ∙ ap (λ cells. containers_of (scenario_by leg) cells m (ticks_of g)) (sym told);
    made = subst (λ cells. ∥ HasMade (source_of g) (landed_scenario leg (counts_of g)) cells ∥₁) (sym told) has.made;
  }

  pub bound-laid : (ends : List (OutEnd Container)) (ins : List (InEnd BackCell)) → IsBound leg ends ins g →
      IsBound leg ends ins (record g { tx = tx; back = back; lines = lines; keeps = keeps })
  bound-laid ends ins is = record {
    of_script = record {
      lines = is.of_script.lines;
      lag = is.of_script.lag;
      size = is.of_script.size;
      statuses = is.of_script.statuses;
      total = is.of_script.total;
      lost = is.of_script.lost;
      items = is.of_script.items;
    };
    sends = outs-then ends g.tx.items tx.items is.sends still.same;
    returns = ins-then ins g.back back is.returns same;
    room = record { entries = is.room.entries; octets = is.room.octets };
    landed = landed-laid is.landed;
  }
