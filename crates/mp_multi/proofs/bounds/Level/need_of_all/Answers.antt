use Rattle.std.proofs.Common.{◌+◌, arith}
use Rattle.mp_multi.proofs.NeedLemmas.{one_more, need_capped}
use Rattle.mp_multi.proofs.bounds.Level.need_of_all.Goals as goal

pub loop-r-preserved : goal.loop-r-preserved
loop-r-preserved c =
    let level = c.args.self.now in
    one_more level.plan level.units c.args.into.now.items c.args.first c.args.window c.loop-r.r _ c.loop-r.need _
    c.loop-r.invariant c.need.ensures (omega arith) (omega arith)

pub returns-clause-need : goal.returns-clause-need
returns-clause-need c = record {
  each = λ r lt.
      need_capped c.args.self.now.plan c.args.self.now.units c.args.into.now.items c.args.first (c.args.window + r)
      c.loop-r.need _ (omega arith) (c.loop-r.invariant.each r (omega (arith, lt, c.loop-r-test.false)));
}
