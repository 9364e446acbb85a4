use Rattle.std.proofs.Common.{◌+◌, ◌-◌, ◌∙◌, ap, arith}
use Rattle.std.specs.Prelude.{List}
use Rattle.mp_nums.specs.declared.samples.Sample.{Sample}
use Rattle.mp_defs.specs.Series.{series_of}
use Rattle.mp_sums.specs.Sums.{numbers_of}
use Rattle.mp_sums.specs.SumLaws.{is_small, is_sum_at, is_sum_moved_on, leaves_within}
use Rattle.mp_anytime.specs.Kept.{square_at}
use Rattle.mp_anytime.proofs.Reading.{square_there, then_read}
use Rattle.mp_anytime.proofs.extending.next_sum.Goals as goal

pub overflow_add-result : goal.overflow_add-result
overflow_add-result c =
    omega (arith, is_small _ _ _ _ _ _ c.requires.sum, c.requires.width, c.square_between-enters.ensures.small)

pub overflow_sub-result : goal.overflow_sub-result
overflow_sub-result c =
    let x = numbers_of (series_of c.args.samples.now.items) in
    leaves_within c.args.m x (c.args.i - 1) x (c.args.j - 1) c.args.sum c.square_between-enters.result
    c.square_between-leaves.result c.requires.sum
    (c.square_between-enters.ensures.square
    ∙ square_there (series_of c.args.samples.now.items) _ (c.args.i - 1 + c.args.m) _ (c.args.j - 1 + c.args.m)
    (omega (arith, c.from-behind.ensures)) (omega (arith, c.from-behind.ensures)))
    (c.square_between-leaves.ensures.square
    ∙ ap (λ (items : List Sample). square_at (series_of items) (c.args.i - 1) (c.args.j - 1))
    c.square_between-enters.ensures.read.items)

pub returns-clause-sum : goal.returns-clause-sum
returns-clause-sum c =
    let x = numbers_of (series_of c.args.samples.now.items) in
    is_sum_at c.args.m x (c.args.i - 1 + 1) c.args.i x (c.args.j - 1 + 1) c.args.j _ (omega arith) (omega arith)
    (is_sum_moved_on c.args.m x (c.args.i - 1) x (c.args.j - 1) c.args.sum c.square_between-enters.result
    c.square_between-leaves.result c.requires.sum
    (c.square_between-enters.ensures.square
    ∙ square_there (series_of c.args.samples.now.items) _ (c.args.i - 1 + c.args.m) _ (c.args.j - 1 + c.args.m)
    (omega (arith, c.from-behind.ensures)) (omega (arith, c.from-behind.ensures)))
    c.square_between-enters.ensures.small
    (c.square_between-leaves.ensures.square
    ∙ ap (λ (items : List Sample). square_at (series_of items) (c.args.i - 1) (c.args.j - 1))
    c.square_between-enters.ensures.read.items))

pub returns-clause-read : goal.returns-clause-read
returns-clause-read c =
    then_read _ _ _ 2 2 4 (omega arith) c.square_between-enters.ensures.read c.square_between-leaves.ensures.read
