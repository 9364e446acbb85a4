use Rattle.std.proofs.Common.{◌≡◌, ◌+◌, ◌*◌, ◌/◌, ◌^◌, ◌<◌, subst, arith}
use Rattle.mp_skips.specs.Blocks.{height}
use Rattle.mp_skips.proofs.NeedLemmas.{above_by, units_above, product_fits, some_square, square_of_power}
use Rattle.mp_skips.proofs.needs.need_above.Goals as goal

pub overflow_mul-product : goal.overflow_mul-product
overflow_mul-product c =
    let coarse = c.args.coarse.now in
    omega (arith, product_fits coarse.rows.units.eights c.args.dist coarse.rows.units.few (omega arith))

pub returns-then-dist-lt-SHORT : goal.returns-then-dist-lt-SHORT
returns-then-dist-lt-SHORT c = λ d some reach.
    let coarse = c.args.coarse.now in
    let grain = coarse.rows.units.grain in
    let square = grain.size * grain.size in
    let product = height coarse * c.args.dist in
    let by = 2 ^ (2 * grain.shift) in
    above_by (height coarse) square c.args.dist d (product / by + 1)
    (units_above product by square (square_of_power grain.size grain.shift grain.power)
    (some_square grain.size grain.some)) reach

pub returns-then-dist-lt-MOST : goal.returns-then-dist-lt-MOST
returns-then-dist-lt-MOST c = λ d some reach.
    let coarse = c.args.coarse.now in
    let grain = coarse.rows.units.grain in
    let square = grain.size * grain.size in
    let product = height coarse * c.args.dist in
    let by = 2 ^ (2 * grain.shift) in
    let units = units_above product by square (square_of_power grain.size grain.shift grain.power)
    (some_square grain.size grain.some) in
    let is : product / by + 1 ≡ c.min.result = omega (arith, c.min.ensures, c.from.ensures, some) in
    above_by (height coarse) square c.args.dist d c.min.result (subst (λ n. product < n * square) is units) reach
