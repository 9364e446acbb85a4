use Rattle.mp_mpdist.proofs.PlaceLaws.{mpdist_at_its_place}
use Rattle.mp_mpdist.proofs.laws.mpdist_is_at_its_place.Goals as goal

pub returns : goal.returns
returns c = mpdist_at_its_place
