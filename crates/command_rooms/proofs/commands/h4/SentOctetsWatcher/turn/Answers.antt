-- One octet more.
use Rattle.std.proofs.Common.{◌≡◌, ◌+◌, ◌-◌, ◌++◌, [], ◌∷◌, sym, ◌∙◌, ap, arith}
use Rattle.law_model.specs.Common.{leg_of}
use Rattle.law_model.specs.declared.script_types.Script.{Script}
use Rattle.law_model.specs.declared.session_totals.Totals.{Totals}
use Rattle.law_walk.specs.Common.{sent_at}
use Rattle.command_rooms.specs.commands.H4.{h4_octets}
use Rattle.command_rooms.proofs.H4TextAndPacketsLaws.{octets-more}
use Rattle.command_rooms.proofs.commands.h4.SentOctetsWatcher.turn.Goals as goal

pub returns-in_ok-push-clause-seen : goal.returns-in_ok-push-clause-seen
returns-in_ok-push-clause-seen c line has =
    let script = c.make_turn.new.walk.script in
    let was = c.args.walk.now.counts.ticks in
    let made = c.make_turn.new.walk.counts.ticks in
    let one : made ≡ was + 1 =
    (let a = ap (λ (t : Totals). t.ticks) c.totals-ticks.ensures in
    let b = ap (λ (t : Totals). t.ticks) c.totals.ensures in
    let more = c.if-totals-ticks.true in
    let most = c.make_turn.ensures.most in
    omega (arith, a, b, more, most)) in (
      has.0,
      c.in_ok-push.ensures.items
          ∙ ap (λ l. l ++ c.last_octet.result ∷ [])
          (has.1 ∙ ap (λ (s : Script). h4_octets s line was) (sym c.make_turn.ensures.script))
          ∙ octets-more script line was made c.last_octet.result one
          (c.last_octet.ensures ∙ ap (λ n. (sent_at (leg_of script) n (made - 1)).h4) has.0),
    )
