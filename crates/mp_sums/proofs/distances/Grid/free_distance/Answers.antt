use Rattle.std.proofs.Common.{◌≡◌, ◌∙◌, sym, ap, arith}
use Rattle.mp_defs.specs.Series.{series_of}
use Rattle.mp_sums.specs.Grids.{first_sum_in}
use Rattle.mp_sums.specs.SumLaws.{is_sum_of_none, is_sum_of_more, is_small, distances_are_sums}
use Rattle.mp_sums.proofs.FreeLemmas.{row_there, column_there}
use Rattle.mp_sums.proofs.distances.Grid.free_distance.Goals as goal

pub loop-k-init : goal.loop-k-init
loop-k-init c = is_sum_of_none _ _ _ _

pub overflow_add-sum : goal.overflow_add-sum
overflow_add-sum c =
    omega (arith, is_small _ _ _ _ _ _ c.loop-k.invariant, c.args.self.now.short, c.free_square-sum.ensures.small)

pub loop-k-preserved : goal.loop-k-preserved
loop-k-preserved c =
    is_sum_of_more _ _ _ _ _ _ _ c.loop-k.invariant c.free_square-sum.ensures.square c.free_square-sum.ensures.small

pub returns-clause-distance : goal.returns-clause-distance
returns-clause-distance c = λ d e.
    let grid = c.args.self.now in
    let all : c.loop-k.k ≡ grid.m = omega (arith, c.loop-k-test.false, c.loop-k.auto.k-end) in
    c.loop-k.invariant.sum_is ∙ ap (λ n. first_sum_in grid n c.args.row c.args.column) all
    ∙ sym (distances_are_sums _ _ _ _ _ d e)

pub returns-clause-small : goal.returns-clause-small
returns-clause-small c =
    omega (
      arith,
      is_small _ _ _ _ _ _ c.loop-k.invariant,
      c.args.self.now.short,
      c.loop-k-test.false,
      c.loop-k.auto.k-end,
    )

pub free_square-sum-requires-clause-free_row : goal.free_square-sum-requires-clause-free_row
free_square-sum-requires-clause-free_row c =
    let grid = c.args.self.now in
    row_there grid.m (series_of grid.rows.now) c.args.row (series_of grid.columns.now) c.args.column c.loop-k.k
    c.requires.free c.loop-k-test.true

pub free_square-sum-requires-clause-free_column : goal.free_square-sum-requires-clause-free_column
free_square-sum-requires-clause-free_column c =
    let grid = c.args.self.now in
    column_there grid.m (series_of grid.rows.now) c.args.row (series_of grid.columns.now) c.args.column c.loop-k.k
    c.requires.free c.loop-k-test.true
