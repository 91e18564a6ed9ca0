-- The oldest frame is begun.
use Rattle.std.proofs.Common.{List, ℕ, [], ◌∷◌, ◌++◌, map, sym, ◌∙◌, ap, subst}
use Rattle.law_model.specs.Common.{area_of}
use Rattle.gfp_fill.specs.SentAreas.{StandsIn}
use Rattle.gfp_fill.specs.Queue.{Held}
use Rattle.gfp_fill.proofs.SenderAndFillerStepLaws.{oldest_begun}
use Rattle.gfp_fill.proofs.frame_queue.FrameQueueWaitingFrames.begin_next.Goals as goal

pub returns-clause-begins : goal.returns-clause-begins
returns-clause-begins c stream place waits stands =
    let areas : List (List ℕ) = map area_of stream.pieces in
    let frame : List ℕ = c.begin.new.begun in
    oldest_begun c.begin-2.new.self c.args.self.now _ stream place waits
    (ap (λ (q : Held). q.waiting) (sym c.self.view_is) ∙ c.in-Some.ensures.frame)
    (subst (λ front. StandsIn c.begin-2.new.self frame (areas ++ (front ++ frame) ∷ []) place) c.type_bytes.ensures
    (c.begin-2.ensures.begins frame areas place (sym c.in-Some.ensures.long) stands))
