use Rattle.mp_defs.specs.SeriesLaws.{series_are_of_samples}
use Rattle.mp_defs.proofs.laws.series_are_of_samples.Goals as goal

pub returns : goal.returns
returns c = series_are_of_samples
