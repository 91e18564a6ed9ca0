-- The oldest frame of the channel whose turn it is is begun.
use Rattle.std.proofs.Common.{List, ℕ, [], ◌∷◌, ◌++◌, map, sym, subst}
use Rattle.gfp_model.specs.linear_model.ChannelStream.{area_of}
use Rattle.gfp_fill.specs.SentAreas.{StandsIn}
use Rattle.gfp_channels.proofs.LinearStreamPlaceLaws.{turn_begun}
use Rattle.gfp_channels.proofs.gfp_linear.linear_queue.LinearQueueWaitingFrames.begin_next.Goals as goal

pub returns-clause-begins : goal.returns-clause-begins
returns-clause-begins c shared place waits stands =
    let areas : List (List ℕ) = map area_of shared.pieces in
    let frame : List ℕ = c.begin.new.self.begun in
    let turn = c.in-Some.ensures in
    turn_begun _ c.begin-2.new.self c.args.self.now c.begin.new.self shared place waits turn.turn turn.frame turn.rest
    (subst (λ front. StandsIn c.begin-2.new.self frame (areas ++ (front ++ frame) ∷ []) place) c.area_headers.ensures
    (c.begin-2.ensures.begins frame areas place (sym turn.long) stands))
