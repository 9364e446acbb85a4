use Rattle.std.proofs.Common.{◌≡◌, ◌+◌, ◌^◌, ◌<◌, ◌∙◌, ap, arith, rules, sym, w32, to_z, FitsSigned}
use Rattle.std.proofs.lemmas.Int.{wrapping_add_onto}
use Rattle.mp_defs.specs.Distance.{squared_difference}
use Rattle.mp_sums.specs.Sums.{square_sum}
use Rattle.mp_sums.specs.SumLaws.{sum_more, sum_of_none}
use Rattle.mp_anytime.specs.Narrow.{wrapped}
use Rattle.mp_anytime.proofs.NarrowLemmas.{narrow_at, nothing_wrapped, one_more}
use Rattle.mp_anytime.proofs.narrow.sum_of_squares.Goals as goal

pub loop-k-init : goal.loop-k-init
loop-k-init c = λ n x are there. nothing_wrapped ∙ ap wrapped (sym (sum_of_none x c.args.row x c.args.column))

pub loop-k-preserved : goal.loop-k-preserved
loop-k-preserved c = λ n x are there.
    let k = c.loop-k.k in
    let bits = c.loop-k.sum-bits in
    let row = c.args.row in
    let column = c.args.column in
    let numbers = c.args.numbers.now in
    let small : bits < 2 ^ 32 = search rules in
    let fits : FitsSigned w32 c.square-sum.result = search rules in
    let here = there k (omega (arith, c.loop-k-test.true, c.loop-k.auto.k-end)) in
    wrapping_add_onto w32 bits c.square-sum.result small fits
    ∙ one_more (to_z w32 bits) c.square-sum.result (square_sum k x row x column)
    (squared_difference (x (row + k)) (x (column + k))) (c.loop-k.invariant n x are there)
    (c.square-sum.ensures (x (row + k)) (x (column + k)) (are.near.each (row + k) (column + k) here.0 here.1)
    (narrow_at n x numbers (row + k) are here.0) (narrow_at n x numbers (column + k) are here.1))
    ∙ ap wrapped (sym (sum_more k x row x column))

pub returns : goal.returns
returns c = λ n x are there.
    let done : c.loop-k.k ≡ c.args.count = omega (arith, c.loop-k-test.false, c.loop-k.auto.k-end) in
    c.loop-k.invariant n x are there ∙ ap (λ q. wrapped (square_sum q x c.args.row x c.args.column)) done
