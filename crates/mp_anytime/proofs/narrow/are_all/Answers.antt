use Rattle.std.proofs.Common.{◌≡◌, inl, inr, Bool, true, false, refl, get_or, arith, subst, sym}
use Rattle.std.specs.Prelude.{◌&&◌}
use Rattle.std.proofs.lemmas.Bool.{cases_eq}
use Rattle.mp_anytime.proofs.narrow.are_all.Goals as goal

both : (s t : Bool) → (s && t) ≡ true → (s ≡ true) × (t ≡ true)
both true t e = (refl, e)
both false t e = absurd (cc)

pub loop-k-preserved : goal.loop-k-preserved
loop-k-preserved c = λ is q lt.
    let marks = c.args.marks.now in
    let k = c.loop-k.k in
    let each = both (get_or marks k false) c.loop-k.all is in
    elim (cases_eq q k) [
      | inl here ↦ subst (λ p. get_or marks p false ≡ true) (sym here) each.0
      | inr other ↦ c.loop-k.invariant each.1 q (omega (arith, lt, other))
    ]

pub returns : goal.returns
returns c = λ is k lt. c.loop-k.invariant is k (omega (arith, lt, c.loop-k-test.false))
