use Rattle.mp_multi.proofs.RunningLemmas.{sum_in_grid}
use Rattle.mp_multi.proofs.running.Running.of.Goals as goal

pub returns : goal.returns
returns c = record {
  sum = sum_in_grid c.own_grid.result c.args.channel.now c.args.m c.args.i c.args.j c.distance.result
      c.own_grid.ensures.rows c.own_grid.ensures.columns c.own_grid.ensures.m c.distance.ensures.sum;
  missing = c.count_missing.ensures;
}
