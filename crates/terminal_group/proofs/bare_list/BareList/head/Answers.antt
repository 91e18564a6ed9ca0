-- A single item says it itself, and one of a stream by its rate.
use Rattle.std.proofs.Common.{Some, sym, ◌∙◌, ap, subst, arith}
use Rattle.law_model.specs.session.Streams.{IsPlace}
use Rattle.terminal_group.proofs.BareListLaws.{single_low, single_told, streamed_there, stream_told}
use Rattle.terminal_group.proofs.bare_list.BareList.head.Goals as goal

pub single-requires : goal.single-requires
single-requires c =
    let at = subst (IsPlace c.self.inside.streams c.args.number) c.in-Single.is c.place.ensures in
    single_low _ _ _ _ _ _ c.self.invariant c.self.view_is at c.deref.ensures.value c.requires

pub returns-in-Single : goal.returns-in-Single
returns-in-Single c =
    let at = subst (IsPlace c.self.inside.streams c.args.number) c.in-Single.is c.place.ensures in
    single_told _ _ _ _ _ _ _ c.self.invariant c.self.view_is at c.deref.ensures.value c.single.ensures

pub streamed-requires : goal.streamed-requires
streamed-requires c =
    let at = subst (IsPlace c.self.inside.streams c.args.number) c.in-Streamed.is c.place.ensures in
    let facts = streamed_there _ _ _ _ c.self.invariant at in
    let first = facts.first in
    let behind = facts.behind in
    let count = facts.count in
    record {
      rate = facts.rate;
      first = first;
      behind = omega (arith, first, behind, count);
    }

pub returns-in-Streamed : goal.returns-in-Streamed
returns-in-Streamed c =
    let at = subst (IsPlace c.self.inside.streams c.args.number) c.in-Streamed.is c.place.ensures in
    stream_told _ _ _ _ _ c.self.invariant c.self.view_is at ∙ sym (ap Some c.streamed.ensures)
