use Rattle.std.proofs.Common.{rules, subst, sym, w32, FitsSigned, to_z, of_z}
use Rattle.std.specs.Prelude.{◌≤ℤ◌}
use Rattle.std.proofs.lemmas.Int.{to_z-of_z}
use Rattle.mp_sums.specs.Residues.{item}
use Rattle.mp_anytime.proofs.Greatest.{greatest_more}
use Rattle.mp_anytime.proofs.bounds.greatest_of.Goals as goal

pub loop-k-preserved : goal.loop-k-preserved
loop-k-preserved c =
    let fits : FitsSigned w32 (item c.args.bounds.now c.loop-k.k) = search rules in
    let most_fits : FitsSigned w32 c.max-greatest.result = search rules in
    let same = to_z-of_z w32 c.max-greatest.result most_fits in
    greatest_more c.args.bounds.now c.loop-k.k _ (to_z w32 (of_z w32 c.max-greatest.result)) c.loop-k.invariant
    (subst (λ z. item c.args.bounds.now c.loop-k.k ≤ℤ z) (sym same)
    (subst (λ z. z ≤ℤ c.max-greatest.result) (to_z-of_z w32 (item c.args.bounds.now c.loop-k.k) fits)
    c.max-greatest.ensures.self_bound))
    (subst (λ z. to_z w32 c.loop-k.greatest-bits ≤ℤ z) (sym same) c.max-greatest.ensures.other_bound)
