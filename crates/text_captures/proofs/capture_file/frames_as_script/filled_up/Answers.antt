-- What is left of the room is zeros.
use Rattle.std.proofs.Common.{◌++◌, ◌∙◌, length, drop, ap}
use Rattle.std.proofs.lemmas.List.{drop-replicate}
use Rattle.text_captures.proofs.capture_file.frames_as_script.filled_up.Goals as goal

pub returns : goal.returns
returns c =
    let n = length c.args.octets.now in
    ap (λ l. l ++ drop n c.args.room.now) c.copy_from_slice.ensures.after
    ∙ ap (λ l. c.args.octets.now ++ drop n l) c.requires ∙ ap (λ l. c.args.octets.now ++ l) (drop-replicate n 60 0)
