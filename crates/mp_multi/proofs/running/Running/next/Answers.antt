use Rattle.std.proofs.Common.{◌+◌, arith}
use Rattle.mp_defs.specs.Series.{series_of, number_at}
use Rattle.mp_multi.proofs.RunningLemmas.{one_at_most, count_few, count_moved_on, sum_in_grid}
use Rattle.mp_multi.proofs.running.Running.next.Goals as goal

pub overflow_add-result : goal.overflow_add-result
overflow_add-result c =
    let a = series_of c.args.channel.now in
    omega (
      arith,
      c.requires.running.missing,
      count_few c.args.m a c.args.i c.args.j,
      c.missing_between-enters.ensures,
      one_at_most (number_at a (c.args.i + c.args.m)) (number_at a (c.args.j + c.args.m)),
    )

pub overflow_sub-result : goal.overflow_sub-result
overflow_sub-result c =
    omega (
      arith,
      c.requires.running.missing,
      c.missing_between-enters.ensures,
      c.missing_between-leaves.ensures,
      count_moved_on c.args.m (series_of c.args.channel.now) c.args.i c.args.j,
    )

pub returns : goal.returns
returns c = record {
  sum = sum_in_grid c.own_grid.result c.args.channel.now c.args.m (c.args.i + 1) (c.args.j + 1)
      c.next_distance.result c.own_grid.ensures.rows c.own_grid.ensures.columns c.own_grid.ensures.m
      c.next_distance.ensures.sum;
  missing = omega (
    arith,
    c.requires.running.missing,
    c.missing_between-enters.ensures,
    c.missing_between-leaves.ensures,
    count_moved_on c.args.m (series_of c.args.channel.now) c.args.i c.args.j,
  );
}
