-- Where no octet was there, those of a VC-4 are.
use Rattle.std.proofs.Common.{◌≡◌, ℕ, [], ◌∷◌, ◌++◌, length, replicate, sym, ◌∙◌, ap, ap₂, arith, length-append}
use Rattle.std.proofs.lemmas.List.{append-nil, drop_all, length-replicate}
use Rattle.std.proofs.lemmas.List.Elements.{All-nil, All-cons}
use Rattle.std.specs.List.{concat}
use Rattle.member_au4.proofs.au4_pointer.pointer_source.PointerSource.refill.Goals as goal

pub returns-then-self-eq-VC-clause-refills : goal.returns-then-self-eq-VC-clause-refills
returns-then-self-eq-VC-clause-refills g c =
    let vc = c.next.new.out in
    let lead = c.self.inside.lead in
    let was = c.self.inside.vc in
    let none : lead ≡ 0 = omega arith in
    let long : length vc ≡ 2349 = omega (arith, c.self.told) in
    let empty : c.args.self.now.rest ≡ [] =
    ap (λ s. s.rest) (sym c.self.view_is) ∙ ap₂ (λ k l. replicate k 0 ++ l) none
    (drop_all c.self.inside.at was (omega (arith, c.self.told, c.if-self-eq-VC.true))) in
    record {
      vcs = vc ∷ [];
      size = All-cons (λ v. length v ≡ 2349) vc [] long (All-nil (λ v. length v ≡ 2349));
      fed = c.next.ensures;
      there = ap (λ k. replicate k 0 ++ vc) none ∙ sym (append-nil vc) ∙ ap (λ l. l ++ concat (vc ∷ [])) (sym empty);
      some = omega (arith, length-append (replicate {A = ℕ} lead 0) vc, long);
      few = λ h. omega (
        arith,
        length-append (replicate {A = ℕ} lead 0) vc,
        long,
        length-replicate {A = ℕ} lead 0,
        none,
      );
    }
