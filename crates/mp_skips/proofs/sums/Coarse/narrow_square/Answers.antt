use Rattle.std.proofs.Common.{◌≡◌, ◌-◌, ◌*◌, ◌^◌, ◌≤◌, ◌∙◌, sym, ap, refl, subst, arith}
use Rattle.mp_skips.specs.Levels.{steps_apart}
use Rattle.mp_skips.proofs.LevelLemmas.{narrow_small, narrow_wrapped_is}
use Rattle.mp_skips.proofs.sums.Coarse.narrow_square.Goals as goal

beyond_is : (c : goal.After-saturating_sub-beyond)
    → c.saturating_sub-beyond.result ≡ steps_apart c.args.self.now c.args.row c.args.column
beyond_is c =
    c.saturating_sub-beyond.ensures ∙ ap (λ n. n - c.args.self.now.rows.units.step.slack) c.abs_diff.ensures

pub overflow_mul-result : goal.overflow_mul-result
overflow_mul-result c =
    let small : c.saturating_sub-beyond.result * c.saturating_sub-beyond.result ≤ 2 ^ 26 =
    subst (λ n. n * n ≤ 2 ^ 26) (sym (beyond_is c))
    (narrow_small c.args.self.now c.args.row c.args.column c.requires.narrow) in
    omega (arith, small)

pub returns-then-slack-eq0-clause-square : goal.returns-then-slack-eq0-clause-square
returns-then-slack-eq0-clause-square c =
    narrow_wrapped_is c.args.self.now c.args.row c.args.column _ c.requires.narrow
    (omega (arith, c.if-slack-eq0.true)) refl

pub returns-then-slack-eq0-clause-small : goal.returns-then-slack-eq0-clause-small
returns-then-slack-eq0-clause-small c = subst (λ n. n ≤ 2 ^ 26)
    (sym (narrow_wrapped_is c.args.self.now c.args.row c.args.column _ c.requires.narrow
    (omega (arith, c.if-slack-eq0.true)) refl))
    (narrow_small c.args.self.now c.args.row c.args.column c.requires.narrow)

pub returns-else-slack-eq0-clause-small : goal.returns-else-slack-eq0-clause-small
returns-else-slack-eq0-clause-small c =
    subst (λ n. n * n ≤ 2 ^ 26) (sym (beyond_is c))
    (narrow_small c.args.self.now c.args.row c.args.column c.requires.narrow)
