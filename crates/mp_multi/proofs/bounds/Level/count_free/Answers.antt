use Rattle.std.proofs.Common.{◌+◌, arith, map}
use Rattle.mp_defs.specs.Series.{series_of}
use Rattle.mp_results.specs.Multi.{distance_in}
use Rattle.mp_multi.proofs.FreeLemmas.{byte_few, byte_true, count_more, none_yet}
use Rattle.mp_multi.proofs.bounds.Level.count_free.Goals as goal

pub loop-c-init : goal.loop-c-init
loop-c-init c =
    let ch = c.args.self.now.plan.channels in
    record {
      few = omega arith;
      bound = λ other. none_yet (distance_in ch.m (map series_of ch.list.now) c.args.window other);
    }

pub loop-c-preserved : goal.loop-c-preserved
loop-c-preserved c =
    let level = c.args.self.now in
    let before = c.loop-c.invariant in
    record {
      few = omega (arith, before.few, c.from-count.ensures, byte_few c.is_free_in.result);
      bound = count_more level.plan level.units _ c.loop-c.c c.args.window c.loop-c.count
          (c.loop-c.count + c.from-count.result) c.is_free_in.result
          (level.are.each c.loop-c.c _ (omega arith)) c.is_free_in.ensures
          (λ free. omega (arith, c.from-count.ensures, byte_true c.is_free_in.result free)) (omega arith) before.bound;
    }
