-- What is kept, with octets more.
use Rattle.std.proofs.Common.{◌≡◌, ◌+◌, ◌-◌, [], ◌∷◌, ◌++◌, length, take, drop, sym, ◌∙◌, ap, subst, arith}
use Rattle.std.proofs.lemmas.List.{append-nil, take_all}
use Rattle.std.proofs.lemmas.List.Elements.{All-nil, All-cons}
use borrow.Rule.Slice.PartMut.{put_mid}
use Rattle.member_au4.specs.au4_pointer.Sink.{Gives}
use Rattle.member_au4.proofs.VcsOfStreamPartLaws.{kept-more, length-kept}
use Rattle.member_au4.proofs.au4_pointer.pointer_sink.PointerSink.keep_some.Given as given
use Rattle.member_au4.proofs.au4_pointer.pointer_sink.PointerSink.keep_some.Goals as goal
use Rattle.member_au4.proofs.au4_pointer.pointer_sink.PointerSink.keep_some.Goals.{After-copy_some-n}

-- what was kept is followed by octets of the piece
more : (g : given.Over) (c : After-copy_some-n g) →
    take (c.self.inside.kept + c.copy_some-n.result)
    (put_mid c.self.inside.kept (2349 - c.self.inside.kept) c.self.inside.vc c.copy_some-n.new.out)
    ≡ take c.self.inside.kept c.self.inside.vc ++ take c.copy_some-n.result c.args.piece.now
more g c =
    kept-more c.self.inside.kept c.copy_some-n.result c.self.inside.vc c.copy_some-n.new.out c.args.piece.now
    (omega (arith, c.self.told, c.self.invariant))
    (omega (arith, c.copy_some-n.ensures.count, c.copy_some-n.auto.out, c.self.told)) c.copy_some-n.ensures.copied

pub returns-then-self-n-eq-VC-clause-gives : goal.returns-then-self-n-eq-VC-clause-gives
returns-then-self-n-eq-VC-clause-gives g c =
    let kept = c.self.inside.kept in
    let n = c.copy_some-n.result in
    let full = put_mid kept (2349 - kept) c.self.inside.vc c.copy_some-n.new.out in
    let lead : c.self.inside.lead ≡ 0 = ap (λ s. s.lead) c.self.view_is ∙ c.requires.begun in
    let long : length full ≡ 2349 = length-kept kept c.self.inside.vc c.copy_some-n.new.out c.self.told
    (omega (arith, c.self.invariant)) c.copy_some-n.auto.out in
    subst (λ s. Gives (λ o. g.O.VcOut.stands_for o) c.args.out.now c.vc.new.self s
    (record { value = c.self.inside.value; lead = c.self.inside.lead; kept = [] }) (take n c.args.piece.now))
    c.self.view_is
    (record {
      vcs = full ∷ [];
      size = All-cons (λ v. length v ≡ 2349) full [] long (All-nil (λ v. length v ≡ 2349));
      gives = c.vc.ensures;
      lead = omega (arith, lead);
      split = ap (λ k. take kept c.self.inside.vc ++ drop k (take n c.args.piece.now)) lead
          ∙ sym (more g (goal.at.returns-then-self-n-eq-VC-clause-gives g c).After-copy_some-n)
          ∙ take_all (kept + n) full (omega (arith, long, c.if-self-n-eq-VC.true))
          ∙ sym (append-nil full) ∙ sym (append-nil (full ++ []));
    })

pub returns-else-self-n-eq-VC-clause-gives : goal.returns-else-self-n-eq-VC-clause-gives
returns-else-self-n-eq-VC-clause-gives g c =
    let kept = c.self.inside.kept in
    let n = c.copy_some-n.result in
    let full = put_mid kept (2349 - kept) c.self.inside.vc c.copy_some-n.new.out in
    let lead : c.self.inside.lead ≡ 0 = ap (λ s. s.lead) c.self.view_is ∙ c.requires.begun in
    subst (λ s. Gives (λ o. g.O.VcOut.stands_for o) c.args.out.now c.args.out.now s
    (record { value = c.self.inside.value; lead = c.self.inside.lead; kept = take (kept + n) full })
    (take n c.args.piece.now)) c.self.view_is
    (record {
      vcs = [];
      size = All-nil (λ v. length v ≡ 2349);
      gives = λ start vcs h. subst (g.O.VcOut.stands_for c.args.out.now start) (sym (append-nil vcs)) h;
      lead = omega (arith, lead);
      split = ap (λ k. take kept c.self.inside.vc ++ drop k (take n c.args.piece.now)) lead
          ∙ sym (more g (goal.at.returns-else-self-n-eq-VC-clause-gives g c).After-copy_some-n);
    })
