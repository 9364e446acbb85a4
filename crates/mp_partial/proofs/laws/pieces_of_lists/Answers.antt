use Rattle.mp_partial.specs.TogetherLaws.{pieces_of_lists}
use Rattle.mp_partial.proofs.laws.pieces_of_lists.Goals as goal

pub returns : goal.returns
returns c = pieces_of_lists
