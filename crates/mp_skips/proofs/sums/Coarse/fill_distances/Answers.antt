use Rattle.std.proofs.Common.{◌+◌, ◌<◌, ◌∙◌, length, arith, refl}
use Rattle.std.proofs.lemmas.List.{length-set, get_or-set_other}
use Rattle.mp_skips.proofs.LevelLemmas.{squares_small, squares_there, sums_next, sum_tells, row_level, column_level}
use Rattle.mp_skips.proofs.sums.Coarse.fill_distances.Goals as goal

pub loop-r-init : goal.loop-r-init
loop-r-init c = record {
  sum = c.sum_at-sum.ensures ∙ squares_there c.args.self.now c.args.self.now.plan.grid.m c.args.row c.args.column
      (c.args.row + 0) (c.args.column + 0) (omega arith) (omega arith);
  sums = λ k lt. absurd (omega arith);
  others = λ k le. refl;
  places = refl;
}

pub next_sum-sum-requires-clause-row : goal.next_sum-sum-requires-clause-row
next_sum-sum-requires-clause-row c =
    row_level c.args.self.now (c.args.row + c.loop-r.r)
    (omega (arith, c.requires.rows, c.loop-r-test.true))

pub next_sum-sum-requires-clause-column : goal.next_sum-sum-requires-clause-column
next_sum-sum-requires-clause-column c =
    column_level c.args.self.now (c.args.column + c.loop-r.r)
    (omega (arith, c.requires.columns, c.loop-r-test.true))

pub loop-r-preserved : goal.loop-r-preserved
loop-r-preserved c =
    let coarse = c.args.self.now in
    let m = coarse.plan.grid.m in
    let before = c.loop-r.invariant in
    let r = c.loop-r.r in
    let there : r < length c.loop-r.dists = omega (arith, before.places, c.requires.places, c.loop-r-test.true) in
    record {
      sum = c.next_sum-sum.ensures ∙ squares_there coarse m (c.args.row + r + 1) (c.args.column + r + 1)
          (c.args.row + (r + 1)) (c.args.column + (r + 1)) (omega arith) (omega arith);
      sums = sums_next coarse m c.args.row c.args.column c.loop-r.dists r c.loop-r.sum before.sums before.sum there;
      others = λ k le. get_or-set_other c.loop-r.dists r k c.loop-r.sum 0 (λ e. omega (arith, e, le))
          ∙ before.others k (omega (arith, le));
      places = length-set c.loop-r.dists r c.loop-r.sum ∙ before.places;
    }

pub returns-clause-dists : goal.returns-clause-dists
returns-clause-dists c = λ r d lt there.
    sum_tells c.args.self.now (c.args.row + r) (c.args.column + r) d _ c.requires.exact
    (c.loop-r.invariant.sums r (omega (arith, lt, c.loop-r-test.false))) there

pub returns-clause-small : goal.returns-clause-small
returns-clause-small c = λ r lt.
    let coarse = c.args.self.now in
    omega (
      arith,
      c.loop-r.invariant.sums r (omega (arith, lt, c.loop-r-test.false)),
      squares_small coarse coarse.plan.grid.m (c.args.row + r) (c.args.column + r),
    )

pub returns-clause-others : goal.returns-clause-others
returns-clause-others c = λ r le. c.loop-r.invariant.others r (omega (arith, le, c.loop-r.auto.r-end))
