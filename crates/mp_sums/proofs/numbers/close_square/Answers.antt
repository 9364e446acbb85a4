use Rattle.std.proofs.Common.{◌≡◌, ◌∙◌, ◌-ℤ◌, ◌*ℤ◌, pos, ap, arith, subst, sym, w32, w64, Fits, FitsSigned, to_z, of_z}
use Rattle.std.specs.Prelude.{unsigned_abs}
use Rattle.std.specs.Int.{IsNonNegative}
use Rattle.std.proofs.lemmas.Int.{to_z-of_z}
use Rattle.mp_defs.specs.Distance.{squared_difference}
use Rattle.mp_sums.proofs.CloseLemmas.{difference_fits, difference_handed, difference_halved, square_fits}
use Rattle.mp_sums.proofs.SquareLemmas.{square_handed}
use Rattle.mp_sums.proofs.numbers.close_square.Goals as goal

pub overflow_cast-get : goal.overflow_cast-get
overflow_cast-get c =
    subst (FitsSigned w32) (sym (difference_handed c.args.x c.args.y c.get.result c.get-2.result
    (record { sfits = c.get.type_inv }) (record { sfits = c.get-2.type_inv }) c.get.ensures.value c.get-2.ensures.value
    c.requires)) (difference_fits c.args.x c.args.y c.requires)

difference : (c : goal.After-from-difference) → c.from-difference.result ≡ c.args.x -ℤ c.args.y
difference c =
    difference_halved c.args.x c.args.y c.from-difference.result _ (
    difference_handed c.args.x c.args.y c.get.result c.get-2.result (record { sfits = c.get.type_inv })
    (record { sfits = c.get-2.type_inv }) c.get.ensures.value c.get-2.ensures.value c.requires
    ) c.from-difference.ensures c.requires

pub overflow_mul-result : goal.overflow_mul-result
overflow_mul-result c =
    subst (FitsSigned w64) (sym (square_handed w64 c.args.x c.args.y c.from-difference.result
    (record { sfits = c.from-difference.type_inv }) (difference c)))
    (square_fits (squared_difference c.args.x c.args.y) c.requires)

product : (c : goal.After-from-difference) → to_z w64 (of_z w64 (to_z w64 (of_z w64 c.from-difference.result)
    *ℤ to_z w64 (of_z w64 c.from-difference.result))) ≡ pos (squared_difference c.args.x c.args.y)
product c =
    ap (λ z. to_z w64 (of_z w64 z)) (square_handed w64 c.args.x c.args.y c.from-difference.result
    (record { sfits = c.from-difference.type_inv }) (difference c))
    ∙ to_z-of_z w64 (pos (squared_difference c.args.x c.args.y))
    (square_fits (squared_difference c.args.x c.args.y) c.requires)

pub overflow_cast-result : goal.overflow_cast-result
overflow_cast-result c =
    subst (λ z. IsNonNegative z × Fits w64 (unsigned_abs z)) (sym (product c))
    (tt, record { fits = omega (arith, c.requires) })

pub returns : goal.returns
returns c = ap unsigned_abs (product c)
