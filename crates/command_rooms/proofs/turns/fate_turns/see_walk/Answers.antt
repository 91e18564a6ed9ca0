-- The walk of a script is one of its lists of events, and what is seen of it and the places stand together.
use Rattle.std.proofs.Common.{◌≡◌, sym, ap, subst}
use Rattle.law_model.specs.Common.{leg_of, begin, Counts, IsValid}
use Rattle.law_model.specs.declared.script_types.Script.{Script}
use Rattle.law_headline.specs.WalkTexts.{counts_in}
use Rattle.law_walk.specs.Common.{walk_plan, IsWalked}
use Rattle.walk_engine.specs.Common.{Walked}
use Rattle.fate_walks.specs.declared.walk_fates.seen_rows.SeenRows.{SeenRows}
use Rattle.fate_walks.specs.walk_fates.Seen.{Sees}
use Rattle.command_rooms.proofs.WalkTraceAndEventCountLaws.{counts-walked}
use Rattle.command_rooms.proofs.turns.fate_turns.see_walk.Goals as goal

sees : (walk : Walked) (seen : SeenRows) → walk.counts ≡ begin (walk_plan (leg_of walk.script)) →
    Sees (leg_of walk.script) 0 0 seen → Sees (leg_of walk.script) walk.counts.ticks walk.counts.rows seen
sees walk seen begun none = subst (λ (s : Counts). Sees (leg_of walk.script) s.ticks s.rows seen) (sym begun) none

pub drive-requires-clause-seen : goal.drive-requires-clause-seen
drive-requires-clause-seen c = (
  tt,
  sees c.args.walk.now _ c.requires.begun
      (c.nothing_seen-rows.ensures _ (ap (λ (x : Script). x.config.size) (sym c.script.ensures.script))),
)

walked : (script now : Script) (s : Counts) → now ≡ script → s ≡ counts_in script → IsWalked (leg_of now) s
walked script now s same counts =
    subst (λ (s : Counts). IsWalked (leg_of now) s) (sym counts)
    (subst (λ (x : Script). IsWalked (leg_of x) (counts_in script)) (sym same) (counts-walked script))

pub place_frames-requires : goal.place_frames-requires
place_frames-requires c =
    let seen = c.in_ok-drive.ensures.seen tt (sees c.args.walk.now _ c.requires.begun
    (c.nothing_seen-rows.ensures _ (ap (λ (x : Script). x.config.size) (sym c.script.ensures.script)))) in
    record {
      valid = subst IsValid (sym c.drive.ensures.script) c.requires.valid;
      walked = walked c.args.walk.now.script _ _ c.drive.ensures.script c.in_ok-drive.ensures.counts;
      packets = seen.packets;
    }

pub returns-clause-seen : goal.returns-clause-seen
returns-clause-seen c = record {
  sound = (subst IsValid (sym c.drive.ensures.script) c.requires.valid).sound;
  walked = walked c.args.walk.now.script _ _ c.drive.ensures.script c.in_ok-drive.ensures.counts;
  rows = c.in_ok-drive.ensures.seen tt (sees c.args.walk.now _ c.requires.begun
      (c.nothing_seen-rows.ensures _ (ap (λ (x : Script). x.config.size) (sym c.script.ensures.script))));
  places = c.in_ok-ruler.ensures;
}
