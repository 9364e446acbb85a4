use Rattle.std.proofs.Common.{◌≡◌, ◌+◌, ◌<◌, ◌∙◌, arith, length-set, rules, w32, FitsSigned, pos, ◌-ℤ◌}
use Rattle.mp_defs.specs.Distance.{squared_difference}
use Rattle.mp_anytime.proofs.Moves.{each_next}
use Rattle.mp_anytime.proofs.NarrowLemmas.{narrow_at, step_is}
use Rattle.mp_anytime.proofs.narrow.fill_steps.Goals as goal

pub loop-k-preserved : goal.loop-k-preserved
loop-k-preserved c =
    let before = c.loop-k.invariant in
    let k = c.loop-k.k in
    let row = c.args.row in
    let column = c.args.column in
    let m = c.args.m in
    let e : FitsSigned w32 c.square-enters.result = search rules in
    let l : FitsSigned w32 c.square-leaves.result = search rules in
    let numbers = c.args.numbers.now in
    record {
      places = length-set c.loop-k.steps k _ ∙ before.places;
      done = λ n x are.
          each_next (λ q z. row + m + q < n → column + m + q < n
          → z ≡ pos (squared_difference (x (row + m + q)) (x (column + m + q)))
          -ℤ pos (squared_difference (x (row + q)) (x (column + q)))) c.loop-k.steps k _
          (omega (arith, before.places, c.loop-k-test.true))
          (before.done n x are) (λ in_row in_column.
          step_is c.square-enters.result c.square-leaves.result
          (squared_difference (x (row + m + k)) (x (column + m + k)))
          (squared_difference (x (row + k)) (x (column + k))) e l
          (c.square-enters.ensures (x (row + m + k)) (x (column + m + k))
          (are.near.each (row + m + k) (column + m + k) in_row in_column)
          (narrow_at n x numbers (row + m + k) are in_row)
          (narrow_at n x numbers (column + m + k) are in_column))
          (c.square-leaves.ensures (x (row + k)) (x (column + k))
          (are.near.each (row + k) (column + k) (omega (arith, in_row)) (omega (arith, in_column)))
          (narrow_at n x numbers (row + k) are (omega (arith, in_row)))
          (narrow_at n x numbers (column + k) are (omega (arith, in_column)))));
    }

pub returns-clause-steps : goal.returns-clause-steps
returns-clause-steps c = λ n x k are lt.
    c.loop-k.invariant.done n x are k (omega
    (arith, lt, c.loop-k-test.false, c.loop-k.auto.k-end, c.loop-k.invariant.places))
