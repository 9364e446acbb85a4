use Rattle.mp_defs.specs.ColumnLaws.{columns_by_choice}
use Rattle.mp_defs.proofs.laws.columns_are_by_choice.Goals as goal

pub returns : goal.returns
returns c = columns_by_choice
