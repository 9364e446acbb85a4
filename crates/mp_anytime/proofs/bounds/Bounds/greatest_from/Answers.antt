use Rattle.std.proofs.Common.{◌≡◌, ◌+◌, ◌-◌, ◌/◌, arith, rules, subst, sym, w32, FitsSigned, ℤ}
use Rattle.std.proofs.Common.{to_z, of_z}
use Rattle.std.specs.Prelude.{◌≤ℤ◌}
use Rattle.std.proofs.lemmas.Int.{to_z-of_z}
use Rattle.mp_sums.specs.Residues.{item}
use Rattle.mp_anytime.specs.Bounds.{AreGreatest}
use Rattle.mp_anytime.proofs.Greatest.{greatest_of_both}
use Rattle.mp_anytime.proofs.bounds.Bounds.greatest_from.Goals as goal

pub returns : goal.returns
returns c =
    let inside = c.self.inside in
    let place = c.args.place in
    let blocks = c.as_slice-blocks.result.now in
    let first : ℤ = item blocks (place / 32) in
    let last : ℤ = item blocks ((place + 32 - 1) / 32) in
    let behind : place + 32 - 1 ≡ place + 31 = omega arith in
    let most = c.max.result in
    let fits : FitsSigned w32 first = search rules in
    let last_fits : FitsSigned w32 last = search rules in
    let most_fits : FitsSigned w32 most = search rules in
    let same : to_z w32 (of_z w32 most) ≡ most = to_z-of_z w32 most most_fits in
    let windows : AreGreatest c.args.self.now blocks =
    subst (λ v. AreGreatest v blocks) c.self.view_is
    (subst (AreGreatest inside.windows.items) (sym c.as_slice-blocks.ensures.value) c.self.invariant) in
    greatest_of_both c.args.self.now blocks place (to_z w32 (of_z w32 most)) windows c.requires
    (subst (λ z. first ≤ℤ z) (sym same)
    (subst (λ z. z ≤ℤ most) (to_z-of_z w32 first fits) c.max.ensures.self_bound))
    (subst (λ q. item blocks (q / 32) ≤ℤ to_z w32 (of_z w32 most)) behind
    (subst (λ z. last ≤ℤ z) (sym same)
    (subst (λ z. z ≤ℤ most) (to_z-of_z w32 last last_fits) c.max.ensures.other_bound)))
