use Rattle.mp_multi.proofs.SeedLemmas.{ahead_none}
use Rattle.mp_multi.proofs.seeds.scan_seed.Goals as goal

pub returns-then-row-level-clause-ahead : goal.returns-then-row-level-clause-ahead
returns-then-row-level-clause-ahead g c = ahead_none _ _ _
