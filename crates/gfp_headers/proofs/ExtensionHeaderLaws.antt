-- What the octets of an extension header say.
use Rattle.std.proofs.Common.{◌≡◌, ◌≢◌, ℕ, List, Some, None, sym, ◌∙◌, ap, ap₂, eq-eqb, if◌then◌else◌, ne_eqb}
use Rattle.law_model.specs.Common.{hec_of}
use Rattle.gfp_model.specs.declared.linear_model.CidFault.{CidFault}
use Rattle.gfp_model.specs.linear_model.ChannelArea.{cid_field, cid_check, cid_fault}

module _ (octets : List ℕ) (field said found : ℕ) (e : field ≡ cid_field octets) (s : said ≡ cid_check octets)
    (f : found ≡ hec_of field) where
  abbrev pub told : ℕ → ℕ → CidFault
  told said found = record { said = said; found = found }

  right : found ≡ hec_of (cid_field octets)
  right = f ∙ ap hec_of e

  -- where the check is right, there is none
  pub cid_fault-none : said ≡ found → cid_fault octets ≡ None
  unfolding cid_fault right
  cid_fault-none same =
      ap (λ b. if b then None else Some (told (cid_check octets) (hec_of (cid_field octets))))
      (eq-eqb (cid_check octets) (hec_of (cid_field octets)) (sym s ∙ same ∙ right))

  -- where it is another one, both are told
  pub cid_fault-some : said ≢ found → cid_fault octets ≡ Some (told said found)
  unfolding cid_fault right
  cid_fault-some other =
      ap (λ b. if b then None else Some (told (cid_check octets) (hec_of (cid_field octets))))
      (ne_eqb (cid_check octets) (hec_of (cid_field octets)) (λ same. other (s ∙ same ∙ sym right)))
      ∙ ap₂ (λ a b. Some (told a b)) (sym s) (sym right)
