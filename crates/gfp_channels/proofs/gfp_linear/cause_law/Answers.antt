-- What each cause tells is computed.
use Rattle.std.proofs.Common.{◌≡◌, true, length, refl, nat_lt, lt-ltb}
use Rattle.law_model.specs.Common.{hec_of, number_behind, bits, divide, add_front}
use Rattle.gfp_model.specs.linear_model.ChannelArea.{linear_type_fault, cid_fault}
use Rattle.gfp_channels.proofs.gfp_linear.cause_law.Goals as goal

pub returns-clause-too_long : goal.returns-clause-too_long
returns-clause-too_long c area long =
    let is : nat_lt 9608 (length area) ≡ true = lt-ltb 9608 (length area) long in rw is refl

pub returns-clause-header : goal.returns-clause-header
unfolding linear_type_fault hec_of number_behind divide bits add_front
returns-clause-header c = refl

pub returns-clause-short : goal.returns-clause-short
unfolding linear_type_fault hec_of number_behind divide bits add_front
returns-clause-short c = refl

pub returns-clause-extension : goal.returns-clause-extension
unfolding linear_type_fault cid_fault hec_of number_behind divide bits add_front
returns-clause-extension c = refl
