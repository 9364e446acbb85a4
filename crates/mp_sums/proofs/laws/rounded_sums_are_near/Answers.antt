use Rattle.mp_sums.specs.RoundingLaws.{rounded_sums_are_near}
use Rattle.mp_sums.proofs.laws.rounded_sums_are_near.Goals as goal

pub returns : goal.returns
returns c = rounded_sums_are_near
