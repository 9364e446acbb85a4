use Rattle.std.proofs.Common.{◌≡◌, ◌∙◌, ◌*ℤ◌, ◌≤◌, pos, ap, arith, subst, sym, Fits, FitsSigned, to_z, of_z}
use Rattle.std.specs.Prelude.{unsigned_abs}
use Rattle.std.specs.Int.{IsNonNegative, w128}
use Rattle.std.proofs.lemmas.Int.{to_z-of_z}
use Rattle.mp_defs.specs.Distance.{squared_difference}
use Rattle.mp_sums.specs.Sums.{greatest_square}
use Rattle.mp_sums.proofs.SquareLemmas.{IsRead, square_handed, square_small, difference_read, wide_fits}
use Rattle.mp_sums.proofs.numbers.square.Goals as goal

first : (c : goal.After-from-difference) → IsRead c.args.x c.get.result
first c = record { same = c.get.ensures.value; least = c.get.ensures.least; greatest = c.get.ensures.greatest }

second : (c : goal.After-from-difference) → IsRead c.args.y c.get-2.result
second c = record { same = c.get-2.ensures.value; least = c.get-2.ensures.least; greatest = c.get-2.ensures.greatest }

small : (c : goal.After-from-difference) → squared_difference c.args.x c.args.y ≤ greatest_square
small c = square_small c.args.x c.args.y c.get.result c.get-2.result (first c) (second c)

handed : (c : goal.After-from-difference) → to_z w128 (of_z w128 c.from-difference.result)
    *ℤ to_z w128 (of_z w128 c.from-difference.result) ≡ pos (squared_difference c.args.x c.args.y)
handed c =
    square_handed w128 c.args.x c.args.y c.from-difference.result (record { sfits = c.from-difference.type_inv })
    (difference_read c.args.x c.args.y c.get.result c.get-2.result c.from-difference.result
    (record { sfits = c.get.type_inv }) (record { sfits = c.get-2.type_inv }) (first c) (second c)
    c.from-difference.ensures)

pub overflow_mul-result : goal.overflow_mul-result
overflow_mul-result c =
    subst (FitsSigned w128) (sym (handed c)) (wide_fits (squared_difference c.args.x c.args.y) (small c))

product : (c : goal.After-from-difference) → to_z w128 (of_z w128 (to_z w128 (of_z w128 c.from-difference.result)
    *ℤ to_z w128 (of_z w128 c.from-difference.result))) ≡ pos (squared_difference c.args.x c.args.y)
product c =
    ap (λ z. to_z w128 (of_z w128 z)) (handed c)
    ∙ to_z-of_z w128 (pos (squared_difference c.args.x c.args.y))
    (wide_fits (squared_difference c.args.x c.args.y) (small c))

pub overflow_cast-result : goal.overflow_cast-result
overflow_cast-result c =
    subst (λ z. IsNonNegative z × Fits w128 (unsigned_abs z)) (sym (product c))
    (tt, record { fits = omega (arith, small c) })

pub returns-clause-square : goal.returns-clause-square
returns-clause-square c = ap unsigned_abs (product c)

pub returns-clause-small : goal.returns-clause-small
returns-clause-small c = subst (λ n. n ≤ greatest_square) (sym (ap unsigned_abs (product c))) (small c)
