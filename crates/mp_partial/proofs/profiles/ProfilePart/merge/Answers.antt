use Rattle.std.proofs.Common.{◌≡◌, length, sym, subst}
use Rattle.mp_partial.specs.Profiled.{Profiled}
use Rattle.mp_partial.proofs.Merging.{profile_merged}
use Rattle.mp_partial.proofs.profiles.ProfilePart.merge.Goals as goal

pub invariant_of-self : goal.invariant_of-self
invariant_of-self c =
    let sizes : length c.other.inside.all.items ≡ length c.self.inside.all.items =
    subst (λ (p : Profiled). length c.other.inside.all.items ≡ length p.all) (sym c.self.view_is)
    (subst (λ (p : Profiled). length p.all ≡ length c.args.self.now.all) (sym c.other.view_is) c.requires) in
    profile_merged _ _ _ _ _ _ _ _ _ c.self.invariant c.other.invariant sizes c.merge.ensures.items
    c.merge-2.ensures.items c.merge-3.ensures.items
