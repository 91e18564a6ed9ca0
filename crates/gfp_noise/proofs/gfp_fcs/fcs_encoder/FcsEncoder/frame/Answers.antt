-- What is written is the next piece of the stream.
use Rattle.std.proofs.Common.{◌≡◌, ℕ, ◌+◌, List, ◌++◌, length, map, sym, ◌∙◌, ap, subst}
use Rattle.law_model.specs.Common.{core_header, joined, scrambled_octets}
use Rattle.law_model.proofs.CoreHeaderLaws.{length-core_header}
use Rattle.gfp_scramble.specs.Scrambler as scrambler
use Rattle.gfp_model.specs.fcs_model.Fcs.{fcs_area}
use Rattle.gfp_noise.specs.flip_law.FlippedStream.{fcs_stream}
use Rattle.gfp_noise.proofs.FlippedFcsAreaLaws.{length-fcs_area}
use Rattle.gfp_noise.proofs.FlippedFcsStreamLaws.{length-piece, stream-more, taken}
use Rattle.gfp_noise.proofs.gfp_fcs.fcs_encoder.FcsEncoder.frame.Goals as goal

pub returns-clause-octets : goal.returns-clause-octets
returns-clause-octets c frames stands =
    let before : List ℕ = joined (map fcs_area frames) in
    let given : scrambler.ScramblerStands c.self.inside.scrambler before =
    subst (λ v. scrambler.ScramblerStands v before) (sym c.self.view_is) stands in
    let scrambles : scrambled_octets (before ++ fcs_area c.args.f.now) ≡ scrambled_octets before ++ c.area.new.area =
    ap (λ l. scrambled_octets (before ++ l)) (sym c.put_area.ensures) ∙ c.area.ensures.answer before given in
    let size : length (fcs_area c.args.f.now) ≡ length c.args.f.now + 8 = length-fcs_area c.args.f.now in
    let is : c.copy_from_slice.new.self ≡ core_header (length (fcs_area c.args.f.now)) =
    c.copy_from_slice.ensures.after ∙ c.core_bytes.ensures ∙ ap core_header (sym size) in
    let long : length c.area.new.area ≡ length (fcs_area c.args.f.now) =
    length-piece before (fcs_area c.args.f.now) c.area.new.area scrambles in
    stream-more frames c.args.f.now c.copy_from_slice.new.self c.area.new.area scrambles is
    ∙ ap (λ l. fcs_stream frames ++ l)
    (sym (taken (length c.args.f.now) c.copy_from_slice.new.self c.area.new.area c.split_at_mut-area.result.1.now
    (ap length is ∙ length-core_header (length (fcs_area c.args.f.now)))
    (long ∙ size)))
