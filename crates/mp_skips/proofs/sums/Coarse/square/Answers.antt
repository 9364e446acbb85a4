use Rattle.std.proofs.Common.{◌≡◌, ℕ, ◌+◌, ◌-◌, ◌%◌, ◌^◌, ◌≤◌, ◌∙◌, sym, ap, subst, arith}
use Rattle.mp_skips.specs.Sums.{number_in}
use Rattle.mp_skips.proofs.LevelLemmas.{square_small, wrapped_is}
use Rattle.mp_skips.proofs.sums.Coarse.square.Goals as goal

gap_is : (c : goal.After-from-then-slack-eq0)
    → (c.from.result + (18446744073709551616 - c.from-then-slack-eq0.result)) % 18446744073709551616
    ≡ (number_in c.args.self.now.rows.levels.now c.args.row
    + (18446744073709551616 - number_in c.args.self.now.columns.levels.now c.args.column)) % 18446744073709551616
gap_is c =
    ap (λ (n : ℕ). (n + (18446744073709551616 - c.from-then-slack-eq0.result)) % 18446744073709551616) c.from.ensures
    ∙ ap (λ (n : ℕ). (number_in c.args.self.now.rows.levels.now c.args.row + (18446744073709551616 - n))
    % 18446744073709551616) c.from-then-slack-eq0.ensures

pub returns-then-slack-eq0-clause-square : goal.returns-then-slack-eq0-clause-square
returns-then-slack-eq0-clause-square c =
    wrapped_is c.args.self.now c.args.row c.args.column _ (omega (arith, c.if-slack-eq0.true)) (gap_is c)

pub returns-then-slack-eq0-clause-small : goal.returns-then-slack-eq0-clause-small
returns-then-slack-eq0-clause-small c = subst (λ n. n ≤ 2 ^ 48)
    (sym (wrapped_is c.args.self.now c.args.row c.args.column _ (omega (arith, c.if-slack-eq0.true)) (gap_is c)))
    (square_small c.args.self.now c.args.row c.args.column)
