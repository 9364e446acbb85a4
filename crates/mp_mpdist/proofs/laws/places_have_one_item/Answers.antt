use Rattle.mp_mpdist.proofs.PlaceLaws.{one_at_a_place}
use Rattle.mp_mpdist.proofs.laws.places_have_one_item.Goals as goal

pub returns : goal.returns
returns c = one_at_a_place
