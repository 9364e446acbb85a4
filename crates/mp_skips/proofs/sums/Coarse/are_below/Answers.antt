use Rattle.std.proofs.Common.{◌*◌, ◌<◌, subst, arith, refl}
use Rattle.std.proofs.lemmas.Bool.Decides.{nat_tests}
use Rattle.mp_skips.specs.Levels.{squares_in}
use Rattle.mp_skips.proofs.LevelLemmas.{squares_within, sum_tells}
use Rattle.mp_skips.proofs.sums.Coarse.are_below.Goals as goal

pub returns : goal.returns
returns c = λ told i j d there.
    let coarse = c.args.self.now in
    let m = coarse.plan.grid.m in
    let width = coarse.rows.units.width in
    let wide = c.from-width.result in
    let told_so : wide * wide * m < c.from.result = grind (arith, nat_tests, told) in
    let lt : width * width * m < c.args.bound =
    subst (λ w. w * w * m < c.args.bound) c.from-width.ensures (omega (arith, told_so, c.from.ensures)) in
    omega (
      arith,
      lt,
      sum_tells coarse i j d (squares_in coarse m i j) (omega arith) refl there,
      squares_within coarse m i j (omega arith),
    )
