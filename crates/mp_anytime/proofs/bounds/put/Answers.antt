use Rattle.std.proofs.Common.{◌≡◌, ◌/◌, rules, subst, sym, w32, FitsSigned, to_z, of_z, ℤ}
use Rattle.std.specs.Prelude.{◌≤ℤ◌}
use Rattle.std.proofs.lemmas.Int.{to_z-of_z}
use Rattle.mp_sums.specs.Residues.{item}
use Rattle.mp_anytime.proofs.Greatest.{greatest_put}
use Rattle.mp_anytime.proofs.bounds.put.Goals as goal

pub returns-clause-greatest : goal.returns-clause-greatest
returns-clause-greatest c =
    let bound = c.args.bound in
    let most = c.max.result in
    let there : ℤ = item c.args.blocks.now (c.args.place / 32) in
    let fits : FitsSigned w32 bound = search rules in
    let most_fits : FitsSigned w32 most = search rules in
    let there_fits : FitsSigned w32 there = search rules in
    let same : to_z w32 (of_z w32 most) ≡ most = to_z-of_z w32 most most_fits in
    greatest_put c.args.windows.now c.args.blocks.now c.args.place (to_z w32 (of_z w32 bound))
    (to_z w32 (of_z w32 most)) c.requires.greatest c.requires.place
    (subst (λ z. z ≤ℤ to_z w32 (of_z w32 most)) (sym (to_z-of_z w32 bound fits))
    (subst (λ z. bound ≤ℤ z) (sym same)
    (subst (λ z. z ≤ℤ most) (to_z-of_z w32 bound fits) c.max.ensures.self_bound)))
    (subst (λ z. there ≤ℤ z) (sym same)
    (subst (λ z. z ≤ℤ most) (to_z-of_z w32 there there_fits) c.max.ensures.other_bound))
