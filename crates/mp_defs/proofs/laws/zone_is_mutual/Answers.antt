use Rattle.mp_defs.specs.NearestLaws.{zone_is_mutual}
use Rattle.mp_defs.proofs.laws.zone_is_mutual.Goals as goal

pub returns : goal.returns
returns c = zone_is_mutual
