-- The number, and behind it octets that rise.
use Rattle.std.proofs.Common.{rules, ◌≡◌, ◌++◌, ◌∙◌, ap₂, arith}
use Rattle.std.specs.Int.{w64, to_be_bytes}
use Rattle.member_au4.proofs.NumberedVcCountsLaws.{vc_is}
use Rattle.member_au4.proofs.au4_link.numbered_vcs.write_vc.Goals as goal

pub returns : goal.returns
returns c =
    let head : c.copy_from_slice.new.self ≡ to_be_bytes w64 c.args.number = search rules in
    ap₂ (λ a b. a ++ b) head c.fill_rising.ensures
    ∙ vc_is c.args.number _ _ (let back = c.split_at_mut-head.ensures.back_len in omega (arith, c.requires, back))
    (omega arith)
