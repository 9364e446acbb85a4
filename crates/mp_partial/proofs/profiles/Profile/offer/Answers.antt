use Rattle.std.proofs.Common.{◌<◌, length, sym, subst}
use Rattle.mp_partial.specs.Profiled.{Profiled}
use Rattle.mp_partial.proofs.Merging.{covered_first, covered_last, profile_offered_first, profile_offered_last}
use Rattle.mp_partial.proofs.profiles.Profile.offer.Goals as goal

pub offer_on_side-requires-clause-covered : goal.offer_on_side-requires-clause-covered
offer_on_side-requires-clause-covered c =
    covered_first _ _ _ _ _ c.self.invariant
    (subst (λ (p : Profiled). c.args.i < length p.all) (sym c.self.view_is) c.requires.i)

pub invariant_of-self : goal.invariant_of-self
invariant_of-self c =
    profile_offered_first _ _ _ _ _ _ _ c.self.invariant
    (subst (λ (p : Profiled). c.args.i < length p.all) (sym c.self.view_is) c.requires.i)
    c.offer_on_side.ensures.both c.offer_on_side.ensures.side

pub offer_on_side-requires-else-is_earlier-clause-covered : goal.offer_on_side-requires-else-is_earlier-clause-covered
offer_on_side-requires-else-is_earlier-clause-covered c =
    covered_last _ _ _ _ _ c.self.invariant
    (subst (λ (p : Profiled). c.args.i < length p.all) (sym c.self.view_is) c.requires.i)

pub invariant_of-self-else-is_earlier : goal.invariant_of-self-else-is_earlier
invariant_of-self-else-is_earlier c =
    profile_offered_last _ _ _ _ _ _ _ c.self.invariant
    (subst (λ (p : Profiled). c.args.i < length p.all) (sym c.self.view_is) c.requires.i)
    c.offer_on_side-else-is_earlier.ensures.both c.offer_on_side-else-is_earlier.ensures.side
