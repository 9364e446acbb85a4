use Rattle.mp_skips.proofs.PairLemmas.{quiet_at}
use Rattle.mp_skips.proofs.pairs.offer_at.Goals as goal

pub returns-else-may_give : goal.returns-else-may_give
returns-else-may_give g c = record {
  scanned = quiet_at g.met.O.Offers.limits c.args.coarse.now c.args.into.now c.args.row c.args.column c.args.dist
      c.requires.fits c.requires.apart c.requires.dist (c.may_give.ensures.row c.if-may_give.false)
      (c.may_give.ensures.column c.if-may_give.false);
}
