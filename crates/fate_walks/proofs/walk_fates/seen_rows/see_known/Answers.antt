-- The sink of the walk's direction knows what the session says.
use Rattle.std.proofs.Common.{rules, ◌≡◌, ◌-◌, ◌≤◌, ◌/◌, ◌∙◌, length, ap, subst, arith}
use Rattle.std.proofs.lemmas.Result.{on_ok_weaker}
use Rattle.law_model.specs.Common.{Counts, leg_of, scenario_by, is_known}
use Rattle.law_walk.specs.Common.{session_of}
use Rattle.walk_engine.proofs.WalkRoundAndTotalsLaws.{known-is}
use Rattle.fate_walks.proofs.FatesAndSeenRowsLaws.{packets-known}
use Rattle.fate_walks.proofs.walk_fates.seen_rows.see_known.Goals as goal

pub returns-clause-packets : goal.returns-clause-packets
returns-clause-packets c =
    let leg = leg_of c.args.walk.now.script in
    let s = c.args.walk.now.counts in
    let known : 24 ≤ s.rows → c.knows.result ≡ is_known (scenario_by leg) (session_of leg) ((s.rows - 24) / 16) =
    subst (λ (s : Counts). 24 ≤ s.rows → c.knows.result
    ≡ is_known (scenario_by leg) (session_of leg) ((s.rows - 24) / 16)) (c.way.ensures.counts ∙ c.live.ensures.counts)
    (known-is leg _ _ c.knows.result (c.way.ensures.stands leg c.live.ensures.stands)
    (rw c.sink.ensures at c.knows.ensures)) in
    let ends = (c.ends_packet.ensures.end).0 (search rules) in
    let here : (s.rows - 24) / 16 ≡ length c.args.packets.now.known =
    omega (arith, c.requires.last, c.requires.known, ends.0, ends.1) in
    on_ok_weaker c.push_known.result
    (packets-known leg s.ticks c.args.packets.now c.knows.result c.push_known.new.self c.requires.packets
    (known (omega (arith, c.requires.last, ends.0)) ∙ ap (is_known (scenario_by leg) (session_of leg)) here))
    c.push_known.ensures.ok
