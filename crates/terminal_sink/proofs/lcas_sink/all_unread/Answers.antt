-- Each line of the array is one of which no packet has come.
use Rattle.std.proofs.Common.{[], sym, subst}
use Rattle.std.proofs.lemmas.List.{get_or-replicate}
use Rattle.terminal_sink.specs.member_watch.Watches.{WatchStands}
use Rattle.terminal_sink.proofs.lcas_sink.all_unread.Goals as goal
use Rattle.law_model.specs.Common.{most_lines}

pub returns : goal.returns
returns c line low =
    subst (WatchStands c.args.options [] line) (sym (get_or-replicate most_lines line c.new.result _ low)) (c.new.ensures line)
