use Rattle.std.proofs.Common.{◌≡◌, ◌∙◌, subst}
use Rattle.mp_defs.specs.Series.{series_of}
use Rattle.mp_defs.specs.Profile.{matrix_profile}
use Rattle.mp_stream.proofs.Growing.{all_entries}
use Rattle.mp_stream.proofs.streams.Stream.profile.Goals as goal

pub returns-clause-all : goal.returns-clause-all
returns-clause-all c =
    let growing = c.self.inside.growing in
    c.inner.ensures.all
    ∙ all_entries c.args.self.now.m (series_of c.args.self.now.items) _ _ _ c.inner.ensures.lesser
    (subst (λ v. growing.entries.profile.left ≡ (matrix_profile v.m (series_of v.items)).left) c.self.view_is
    c.self.invariant.2.left)
    (subst (λ v. growing.entries.profile.right ≡ (matrix_profile v.m (series_of v.items)).right) c.self.view_is
    c.self.invariant.2.right)
