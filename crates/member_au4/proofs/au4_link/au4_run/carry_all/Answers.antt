-- A frame more, and all.
use Rattle.std.proofs.Common.{◌≡◌, ◌+◌, ◌<◌, ◌≤◌, ℕ, List, [], ◌∷◌, ◌++◌, length, take, drop, get_or, None, Some, refl}
use Rattle.std.proofs.Common.{sym, ◌∙◌, ap, subst, arith, append_assoc}
use Rattle.std.proofs.lemmas.List.{length-take, take_all, take_more, take-append-drop}
use Rattle.member_au4.specs.declared.au4_pointer.au_frame.Action.{Action}
use Rattle.member_au4.specs.declared.au4_pointer.au_frame.Action.TheVariants.{Keep}
use Rattle.member_au4.specs.au4_pointer.PointerWord.{fault_after}
use Rattle.member_au4.specs.au4_pointer.SourceToSink.{Carries}
use Rattle.member_au4.proofs.PointerSourceAndSinkLaws.{first-carries}
use Rattle.member_au4.specs.au4_link.Vcs.{first_vcs}
use Rattle.member_au4.specs.au4_link.LinkReportText.{cuts, HasVcs}
use Rattle.member_au4.proofs.NumberedVcCountsLaws.{cuts-more, feeds, gives, counted-by, all-back, all-counts}
use Rattle.member_au4.proofs.au4_link.au4_run.carry_all.Goals as goal

pub loop-a-init : goal.loop-a-init
loop-a-init g c = record {
  carries = λ to has.
      let none = c.new-feed.ensures (omega arith) in
      let first : [] ≡ first_vcs c.new-feed.result.next = none.1 ∙ ap first_vcs (sym none.0) in
      subst (Carries feeds (gives g.K.ByteSink.written g.K.ByteSink.faults) c.new-source.result c.new-sink.result
      c.new-feed.result c.args.out.now to to c.args.start []) first
      (first-carries feeds (gives g.K.ByteSink.written g.K.ByteSink.faults) c.new-source.result c.new-sink.result
      c.new-feed.result c.args.out.now to to c.args.start c.requires.start c.new-source.ensures c.new-sink.ensures
      c.new-feed.ensures has);
  cut = refl;
}

few-taken : (i : ℕ) (actions : List Action) → length actions ≤ 100000 → length (take i actions) ≤ 100000
few-taken i actions few = let size = length-take i actions in omega (arith, size, few)

-- the actions before one, it, and those behind it
parted : (xs : List Action) (i : ℕ) → i < length xs → xs ≡ take i xs ++ get_or xs i Keep ∷ drop (i + 1) xs
parted xs i inside =
    sym (take-append-drop (i + 1) xs)
    ∙ ap (λ l. l ++ drop (i + 1) xs) (take_more xs i Keep inside)
    ∙ append_assoc (take i xs) (get_or xs i Keep ∷ []) (drop (i + 1) xs)

pub cut_after-cut-requires : goal.cut_after-cut-requires
cut_after-cut-requires g c =
    let fresh = c.requires.fresh in
    (counted-by g.K.ByteSink.written g.K.ByteSink.faults _ _ c.loop-a.feed c.loop-a.out fresh.0 fresh.0 c.args.start
    (take c.loop-a.a-index c.args.actions.now) (first_vcs c.loop-a.feed.next)
    (c.loop-a.invariant.carries fresh.0 fresh.1) (few-taken c.loop-a.a-index c.args.actions.now c.requires.few)).low

pub unreachable-requires : goal.unreachable-requires
unreachable-requires g c =
    let fresh = c.requires.fresh in
    let h = c.in-Err.ensures.cause fresh.0 fresh.0 c.args.start (take c.loop-a.a-index c.args.actions.now)
    (first_vcs c.loop-a.feed.next) (c.loop-a.invariant.carries fresh.0 fresh.1) in
    let some : Some c.in-Err.field-0 ≡ fault_after (take c.loop-a.a-index c.args.actions.now)
    (get_or c.args.actions.now c.loop-a.a-index Keep) = h in
    let none = c.requires.accepted (take c.loop-a.a-index c.args.actions.now)
    (drop (c.loop-a.a-index + 1) c.args.actions.now) (get_or c.args.actions.now c.loop-a.a-index Keep)
    (parted c.args.actions.now c.loop-a.a-index c.loop-a-test.true) in
    let both : Some c.in-Err.field-0 ≡ None = some ∙ none in
    cc

pub relay-requires : goal.relay-requires
relay-requires g c =
    let fresh = c.requires.fresh in
    record {
      behind = fresh.0;
      to = fresh.0;
      start = c.args.start;
      actions = take c.loop-a.a-index c.args.actions.now;
      asked = first_vcs c.loop-a.feed.next;
      carries = c.loop-a.invariant.carries fresh.0 fresh.1;
    }

pub loop-a-preserved : goal.loop-a-preserved
loop-a-preserved g c =
    let xs = c.args.actions.now in
    let i = c.loop-a.a-index in
    let a : Action = get_or xs i Keep in
    let fresh = c.requires.fresh in
    let more : take (i + 1) xs ≡ take i xs ++ a ∷ [] = take_more xs i Keep c.loop-a-test.true in
    let few : length (take i xs ++ a ∷ []) ≤ 100000 =
    subst (λ l. length l ≤ 100000) more (few-taken (i + 1) xs c.requires.few) in
    let was = counted-by g.K.ByteSink.written g.K.ByteSink.faults _ _ c.loop-a.feed c.loop-a.out fresh.0 fresh.0
    c.args.start (take i xs) (first_vcs c.loop-a.feed.next) (c.loop-a.invariant.carries fresh.0 fresh.1)
    (few-taken i xs c.requires.few) in
    record {
      carries = λ to has.
          let next = c.in-Ok.ensures.carries to to c.args.start (take i xs) (first_vcs c.loop-a.feed.next)
          (c.loop-a.invariant.carries to has) in
          let now = counted-by g.K.ByteSink.written g.K.ByteSink.faults _ _ c.relay.new.feed c.relay.new.out to to
          c.args.start (take i xs ++ a ∷ []) (first_vcs c.loop-a.feed.next ++ next.0) next.1 few in
          subst (λ l. Carries feeds (gives g.K.ByteSink.written g.K.ByteSink.faults) c.relay.new.source c.relay.new.sink
          c.relay.new.feed c.relay.new.out to to c.args.start l (first_vcs c.relay.new.feed.next)) (sym more)
          (subst (Carries feeds (gives g.K.ByteSink.written g.K.ByteSink.faults) c.relay.new.source c.relay.new.sink
          c.relay.new.feed c.relay.new.out to to c.args.start (take i xs ++ a ∷ [])) now.first next.1);
      cut =
          c.cut_after-cut.ensures
          ∙ cuts-more c.args.start (take i xs) a (first_vcs c.loop-a.feed.next) c.loop-a.cut c.loop-a.out.back
          c.loop-a.feed.next was.enough c.loop-a.invariant.cut was.fed was.came
          ∙ ap (cuts c.args.start) (sym more);
    }

pub returns-clause-given : goal.returns-clause-given
returns-clause-given g c to has =
    let k = c.loop-a.invariant.carries to has in
    let all : take c.loop-a.a-index c.args.actions.now ≡ c.args.actions.now =
    take_all c.loop-a.a-index c.args.actions.now c.loop-a-test.false in
    let n = counted-by g.K.ByteSink.written g.K.ByteSink.faults _ _ c.loop-a.feed c.loop-a.out to to c.args.start
    (take c.loop-a.a-index c.args.actions.now) (first_vcs c.loop-a.feed.next) k
    (few-taken c.loop-a.a-index c.args.actions.now c.requires.few) in
    subst (HasVcs g.K.ByteSink.written g.K.ByteSink.faults c.loop-a.out.lines c.loop-a.out.back to)
    (all-back c.args.start c.args.actions.now (take c.loop-a.a-index c.args.actions.now) c.loop-a.feed.next all n.fed)
    k.given

pub returns-clause-counts : goal.returns-clause-counts
returns-clause-counts g c =
    let fresh = c.requires.fresh in
    let k = c.loop-a.invariant.carries fresh.0 fresh.1 in
    let all : take c.loop-a.a-index c.args.actions.now ≡ c.args.actions.now =
    take_all c.loop-a.a-index c.args.actions.now c.loop-a-test.false in
    let n = counted-by g.K.ByteSink.written g.K.ByteSink.faults _ _ c.loop-a.feed c.loop-a.out fresh.0 fresh.0
    c.args.start
    (take c.loop-a.a-index c.args.actions.now) (first_vcs c.loop-a.feed.next) k
    (few-taken c.loop-a.a-index c.args.actions.now c.requires.few) in
    all-counts c.args.start c.args.actions.now (take c.loop-a.a-index c.args.actions.now) c.loop-a.feed.next
    c.loop-a.out.back c.loop-a.cut all n c.loop-a.invariant.cut
