use Rattle.std.proofs.Common.{◌+◌, ◌-◌, arith}
use Rattle.mp_skips.proofs.LevelLemmas.{whole, squares_small}
use Rattle.mp_skips.proofs.sums.Coarse.whole_sum.Goals as goal

pub overflow_add-result : goal.overflow_add-result
overflow_add-result c =
    let coarse = c.args.self.now in
    omega (
      arith,
      c.squares.ensures.small,
      c.requires.core,
      squares_small coarse (coarse.plan.grid.m - c.args.behind) (c.args.row + c.args.behind)
          (c.args.column + c.args.behind),
      c.requires.behind,
      coarse.plan.grid.short,
    )

pub returns : goal.returns
returns c =
    whole c.args.self.now c.args.row c.args.column c.args.behind c.args.self.now.plan.grid.m c.squares.result
    c.args.core
    c.requires.behind c.squares.ensures.sum c.requires.core
