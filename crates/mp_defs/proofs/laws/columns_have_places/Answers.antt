use Rattle.mp_defs.specs.ColumnLaws.{columns_have_places}
use Rattle.mp_defs.proofs.laws.columns_have_places.Goals as goal

pub returns : goal.returns
returns c = columns_have_places
