use Rattle.std.proofs.Common.{arith}
use Rattle.mp_skips.proofs.PairLemmas.{quiet_far}
use Rattle.mp_skips.proofs.pairs.take_pair.Goals as goal

pub returns-else-sum-need : goal.returns-else-sum-need
returns-else-sum-need g c = record {
  scanned = quiet_far g.met.O.Offers.limits c.args.coarse.now c.args.into.now c.args.row c.args.column
      c.args.need.now.need c.args.need.now.most c.args.sum c.requires.fits c.requires.apart c.requires.row_need
      c.requires.column_need c.requires.most c.requires.sum (omega arith);
  exact = c.requires.exact;
}
