-- What each cause tells is computed.
use Rattle.std.proofs.Common.{◌≡◌, true, length, refl, nat_lt, lt-ltb}
use Rattle.law_model.specs.Common.{hec_of, number_behind, bits, octets_of, xors, divide, add_front}
use Rattle.check_crc32.specs.Crc32.{rest_of, check_bits}
use Rattle.gfp_model.specs.fcs_model.Fcs.{fcs_type_fault}
use Rattle.gfp_noise.proofs.gfp_fcs.cause_law.Goals as goal

pub returns-clause-too_long : goal.returns-clause-too_long
returns-clause-too_long c area long =
    let is : nat_lt 9608 (length area) ≡ true = lt-ltb 9608 (length area) long in rw is refl

pub returns-clause-header : goal.returns-clause-header
unfolding fcs_type_fault hec_of number_behind divide bits add_front
returns-clause-header c = refl

pub returns-clause-short : goal.returns-clause-short
unfolding fcs_type_fault hec_of number_behind divide bits add_front
returns-clause-short c = refl

pub returns-clause-fcs : goal.returns-clause-fcs
unfolding fcs_type_fault hec_of number_behind divide bits add_front rest_of check_bits octets_of xors
returns-clause-fcs c = refl
