use Rattle.std.proofs.Common.{ap, ◌∙◌}
use Rattle.mp_partial.specs.Values.{empty_column}
use Rattle.mp_partial.proofs.Merging.{empty_profile}
use Rattle.mp_partial.proofs.profiles.ProfilePart.clear.Goals as goal

pub invariant_of-self : goal.invariant_of-self
invariant_of-self c =
    empty_profile _ _ _ _ c.clear.ensures.items (c.clear-2.ensures.items ∙ ap empty_column c.self.invariant.left_is)
    (c.clear-3.ensures.items ∙ ap empty_column c.self.invariant.right_is)
