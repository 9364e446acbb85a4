use Rattle.mp_partial.proofs.Merging.{empty_profile}
use Rattle.mp_partial.proofs.profiles.ProfilePart.unit.Goals as goal

pub invariant_of-result : goal.invariant_of-result
invariant_of-result c = empty_profile _ _ _ _ c.in_ok-empty.ensures c.in_ok-empty-2.ensures c.in_ok-empty-3.ensures
