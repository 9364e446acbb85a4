use Rattle.std.proofs.Common.{[], ◌∷◌, ◌++◌, ap, ◌∙◌}
use Rattle.mp_partial.proofs.Merging.{profile_pushed}
use Rattle.mp_partial.proofs.profiles.Profile.push.Goals as goal

pub invariant_of-self : goal.invariant_of-self
invariant_of-self c =
    profile_pushed _ _ _ _ _ _ _ _ c.self.invariant
    ((rw c.unwrap.ensures at c.push.ensures.ok) ∙ ap (λ both. c.self.inside.all.items ++ both ∷ [])
    c.nearer-both.ensures)
    (rw c.unwrap-2.ensures at c.push-2.ensures.ok) (rw c.unwrap-3.ensures at c.push-3.ensures.ok)

pub returns-clause-lesser : goal.returns-clause-lesser
returns-clause-lesser c = (invariant_of-self c).lesser
