use Rattle.std.proofs.Common.{◌≡◌, ◌∙◌, inl, inr, false, ap, arith, subst, sym, ℤ, rules, w32, to_z, of_z, FitsSigned}
use Rattle.std.specs.Prelude.{◌<ℤ◌}
use Rattle.std.proofs.lemmas.Bool.{cases_eq, or_parts}
use Rattle.std.proofs.lemmas.Int.{ints, to_z-of_z}
use lib.Signed.{le_z}
use Rattle.mp_sums.specs.Residues.{item}
use Rattle.mp_anytime.proofs.bounds.are_reached.Goals as goal

above : (r b : ℤ) → FitsSigned w32 r → FitsSigned w32 b → le_z (to_z w32 (of_z w32 r)) (to_z w32 (of_z w32 b)) ≡ false
    → b <ℤ r
above r b f g e = not_up_to r b (ap (λ z. le_z z b) (sym (to_z-of_z w32 r f))
    ∙ ap (le_z (to_z w32 (of_z w32 r))) (sym (to_z-of_z w32 b g)) ∙ e)
  where
    not_up_to : (r b : ℤ) → le_z r b ≡ false → b <ℤ r
    not_up_to r b e = grind (arith, ints)

pub loop-k-preserved : goal.loop-k-preserved
loop-k-preserved c = λ is q lt.
    let bounds = c.args.bounds.now in
    let residues = c.args.residues.now in
    let k = c.loop-k.k in
    let r = item residues k in
    let b = item bounds k in
    let r_fits : FitsSigned w32 r = search rules in
    let b_fits : FitsSigned w32 b = search rules in
    let each = or_parts (le_z (to_z w32 (of_z w32 r)) (to_z w32 (of_z w32 b))) c.loop-k.some is in
    elim (cases_eq q k) [
      | inl here ↦ subst (λ p. item bounds p <ℤ item residues p) (sym here) (above r b r_fits b_fits each.0)
      | inr other ↦ c.loop-k.invariant each.1 q (omega (arith, lt, other))
    ]

pub returns : goal.returns
returns c = λ is k lt. c.loop-k.invariant is k (omega (arith, lt, c.loop-k-test.false))
