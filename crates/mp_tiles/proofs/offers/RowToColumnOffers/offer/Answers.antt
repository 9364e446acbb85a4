use Rattle.std.proofs.Common.{refl, sym}
use Rattle.mp_tiles.specs.OfferingLaws.{taken_turned}
use Rattle.mp_tiles.proofs.offers.RowToColumnOffers.offer.Goals as goal

pub returns : goal.returns
returns c m a b fits row column is = record {
  slots = taken_turned _ _ m a b _ _ _ fits row column (sym is) c.offer_slot.ensures;
  same_slots = refl;
}
