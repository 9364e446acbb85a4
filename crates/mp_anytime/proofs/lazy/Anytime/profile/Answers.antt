use Rattle.std.proofs.Common.{◌≡◌, subst}
use Rattle.mp_defs.specs.Series.{series_of}
use Rattle.mp_results.specs.LazyProfile.{lazy_profile}
use Rattle.mp_anytime.proofs.Windows.{all_entries}
use Rattle.mp_anytime.proofs.lazy.Anytime.profile.Goals as goal

pub returns-clause-all : goal.returns-clause-all
returns-clause-all c =
    let coverage = c.self.inside.coverage in
    all_entries c.args.self.now.m c.args.self.now.covered (series_of c.args.self.now.items) _ _ _
    c.all-entries.ensures.lesser
    (subst (λ v. coverage.profile.left ≡ (lazy_profile v.m v.covered (series_of v.items)).left) c.self.view_is
    c.self.invariant.2.profile.left)
    (subst (λ v. coverage.profile.right ≡ (lazy_profile v.m v.covered (series_of v.items)).right) c.self.view_is
    c.self.invariant.2.profile.right)
