use Rattle.std.proofs.Common.{refl}
use Rattle.mp_pan.proofs.Offered.{pair_scanned}
use Rattle.mp_pan.proofs.offers.AtLengthsOffers.offer.Goals as goal

pub returns : goal.returns
returns c m a b fits lt lt' is = record {
  slots = pair_scanned m a b c.args.into.now c.args.row c.args.column c.args.dist.0 c.offer_at_each.new.slots fits
      c.requires.may.0 lt' is c.offer_at_each.ensures;
  lengths = refl;
  same_slots = refl;
}
