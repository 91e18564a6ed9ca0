-- One frame on, and after the last one.
use Rattle.std.proofs.Common.{◌≡◌, ◌≤◌, ◌<◌, ◌∙◌, ◌+◌, ◌-◌, ◌*◌, List, [], ◌∷◌, ◌++◌, length, ap, sym, rules, arith, length-append}
use Rattle.law_model.specs.declared.script_types.Item.{Item}
use Rattle.law_model.specs.declared.script_types.ItemKind.TheVariants.{Frame}
use Rattle.text_scripts.specs.make_load.Load.{frames, frame_count}
use Rattle.text_scripts.proofs.DrawnLoadLaws.{frames_next, frames_end}
use Rattle.text_scripts.proofs.make_load.drawn_script.add_frames.Goals as goal

pub loop-k-preserved : goal.loop-k-preserved
loop-k-preserved c =
    let it : Item = record { due = 8 * c.loop-k.k; kind = Frame c.in_ok-octets.octets } in
    let pushed : c.push.new.self ≡ c.loop-k.items ++ it ∷ [] = search rules in
    let within : c.loop-k.k < frame_count c.args.ticks = search rules in
    let octets : c.in_ok-octets.octets ≡ _ = c.in_ok-octets.ensures.octets in
    record {
      are = frames_next _ c.loop-k.items (frame_count c.args.ticks) c.loop-k.k c.loop-k.draws.state
          c.frame.new.draws.state c.in_ok-octets.octets
          c.loop-k.invariant.are within c.in_ok-octets.ensures.state octets
          ∙ ap (λ (l : List Item). l ++ frames (frame_count c.args.ticks - (c.loop-k.k + 1))
          (8 * (c.loop-k.k + 1)) c.frame.new.draws.state) (sym pushed);
      few =
          (let size = ap (λ (l : List Item). length l) pushed in
          let more = length-append c.loop-k.items (it ∷ []) in
          omega (arith, size, more, c.loop-k.invariant.few));
    }

pub returns : goal.returns
returns c =
    let past : frame_count c.args.ticks ≤ c.loop-k.k = search rules in
    frames_end _ c.loop-k.items (frame_count c.args.ticks) c.loop-k.k
    (8 * c.loop-k.k) c.loop-k.draws.state c.loop-k.invariant.are past
