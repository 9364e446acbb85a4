use Rattle.std.proofs.Common.{◌≡◌, ℕ, ◌+◌, ◌<◌, inl, inr, List, arith, get_or, subst, sym}
use Rattle.std.specs.Int.Bits.{bit_or}
use Rattle.std.proofs.lemmas.Bool.{cases_eq}
use Rattle.std.proofs.lemmas.Nat.{le_or_l, le_or_r}
use Rattle.mp_anytime.proofs.bits.are_zero.Goals as goal

zero_on : (words : List ℕ) (all k : ℕ) → (all ≡ 0 → (q : ℕ) → q < k → get_or words q 0 ≡ 0)
    → bit_or all (get_or words k 0) ≡ 0 → (q : ℕ) → q < k + 1 → get_or words q 0 ≡ 0
zero_on words all k so_far none q lt = elim (cases_eq q k) [
  | inl same ↦
      subst (λ p. get_or words p 0 ≡ 0) (sym same) (omega (arith, none, le_or_r all (get_or words k 0)))
  | inr other ↦ so_far (omega (arith, none, le_or_l all (get_or words k 0))) q (omega (arith, lt, other))
]

pub loop-k-preserved : goal.loop-k-preserved
loop-k-preserved c = zero_on c.args.words.now c.loop-k.all c.loop-k.k c.loop-k.invariant
