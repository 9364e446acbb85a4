use Rattle.std.proofs.Common.{◌+◌, sym, arith}
use Rattle.mp_defs.specs.Series.{series_of, number_at}
use Rattle.mp_multi.proofs.RunningLemmas.{count_none, count_more, count_few, one_at_most}
use Rattle.mp_multi.proofs.running.count_missing.Goals as goal

pub loop-k-init : goal.loop-k-init
loop-k-init c = sym (count_none _ _ _)

pub overflow_add-missing : goal.overflow_add-missing
overflow_add-missing c =
    let a = series_of c.args.channel.now in
    omega (
      arith,
      c.loop-k.invariant,
      count_few c.loop-k.k a c.args.i c.args.j,
      c.missing_between-missing.ensures,
      one_at_most (number_at a (c.args.i + c.loop-k.k)) (number_at a (c.args.j + c.loop-k.k)),
    )

pub loop-k-preserved : goal.loop-k-preserved
loop-k-preserved c =
    omega (
      arith,
      c.loop-k.invariant,
      c.missing_between-missing.ensures,
      count_more c.loop-k.k (series_of c.args.channel.now) c.args.i c.args.j,
    )
