-- The rows of a packet more; and all of them.
use Rattle.std.proofs.Common.{◌≡◌, ◌+◌, ◌&&◌, nat_le, not, Bool, false, true, filter, inl, inr, sym, ◌∙◌, ap, arith}
use Rattle.law_model.specs.declared.script_types.Options.{Options}
use Rattle.law_model.specs.session.Scenario.{Scenario}
use Rattle.std.specs.List.{list_all, range_with_len}
use Rattle.std.proofs.lemmas.Bool.{cases_lt, and_parts, and_from, le-leb, leb-true}
use Rattle.fate_check.specs.IdleWindows.{is_near, is_spared}
use Rattle.fate_check.proofs.UsedLineAndSparedRowLaws.{all-picked, fails-picked}
use Rattle.fate_check.proofs.UsedLineAndSparedRowLaws.{alike-spared}
use Rattle.fate_check.proofs.idle_windows.is_idle.Goals as goal

-- the sink doesn't go on
stops : (scenario : Scenario) (options : Options) (spares : Bool) → scenario.options ≡ options →
    options.infers ≡ false → (not scenario.options.infers && spares) ≡ spares
stops scenario options spares same off =
    ap (λ (o : Options). not o.infers && spares) same ∙ ap (λ b. not b && spares) off

pub returns-then-options : goal.returns-then-options
returns-then-options c = λ scenario cells options same are.
    let window = c.args.window in
    sym (ap (λ (o : Options). not o.infers && list_all (is_spared scenario cells c.args.line)
    (filter (is_near window) (range_with_len 0 c.args.rows))) options
    ∙ ap (λ b. not b && list_all (is_spared scenario cells c.args.line)
    (filter (is_near window) (range_with_len 0 c.args.rows))) c.if-options.true)

pub loop-row-preserved : goal.loop-row-preserved
loop-row-preserved c = (
  (let from = c.loop-row.invariant.0 in let later = c.next_governed-row.ensures.later in omega (arith, from, later)),
  λ scenario cells same are t from low.
      let row = c.loop-row.row in
      let line = c.args.line in
      let here : is_spared scenario cells line row ≡ true =
      sym (c.is_spared.ensures scenario cells same are) ∙ c.if-not-is_spared.false in
      elim (cases_lt t row) [
        | inl before ↦ c.loop-row.invariant.1 scenario cells same are t from before
        | inr later ↦ alike-spared scenario cells t row (c.next_governed-row.ensures.alike t later low) line ∙ here
      ],
)

pub returns-then-not-is_spared : goal.returns-then-not-is_spared
returns-then-not-is_spared c = λ scenario cells options same are.
    let row = c.loop-row.row in
    let window = c.args.window in
    let from = c.loop-row.invariant.0 in
    let test = c.loop-row-test.true in
    let end = c.min-end.ensures in
    let here : is_spared scenario cells c.args.line row ≡ false =
    sym (c.is_spared.ensures scenario cells same are) ∙ c.if-not-is_spared.true in
    let near : is_near window row ≡ true =
    and_from (nat_le window.first row) (nat_le row (window.end + 38)) (le-leb window.first row from)
    (le-leb row (window.end + 38) (omega (arith, test, end))) in
    sym (stops scenario c.args.options (list_all (is_spared scenario cells c.args.line)
    (filter (is_near window) (range_with_len 0 c.args.rows))) options c.if-options.false
    ∙ fails-picked (is_near window) (is_spared scenario cells c.args.line) c.args.rows row (omega (arith, test, end))
    near here)

pub returns : goal.returns
returns c = λ scenario cells options same are.
    let window = c.args.window in
    let test = c.loop-row-test.false in
    let end = c.min-end.ensures in
    sym (stops scenario c.args.options (list_all (is_spared scenario cells c.args.line)
    (filter (is_near window) (range_with_len 0 c.args.rows))) options c.if-options.false
    ∙ all-picked (is_near window) (is_spared scenario cells c.args.line) c.args.rows
    (λ t high near.
    let parts = and_parts (nat_le window.first t) (nat_le t (window.end + 38)) near in
    let from = leb-true window.first t parts.0 in
    let upto = leb-true t (window.end + 38) parts.1 in
    c.loop-row.invariant.1 scenario cells same are t from (omega (arith, high, upto, test, end))))
