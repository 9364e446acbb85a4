use Rattle.mp_partial.specs.Offers.{offers_are_merges}
use Rattle.mp_partial.proofs.laws.offers_are_merges.Goals as goal

pub returns : goal.returns
returns c = offers_are_merges
