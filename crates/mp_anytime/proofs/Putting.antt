-- Sums of diagonals that are put one after another.
use Rattle.std.proofs.Common.{◌≡◌, ℕ, ◌+◌, ◌<◌, ◌≤◌, inl, inr, List, length, get_or, sym}
use Rattle.std.proofs.Common.{◌∙◌, arith, subst}
use Rattle.std.proofs.lemmas.Bool.{cases_eq}
use Rattle.mp_anytime.specs.Kept.{AreDistinct}
use Rattle.mp_anytime.specs.Sums.{HavePlaces, IsPut, sum_in}
use Rattle.mp_anytime.specs.declared.sums.Sums.{Sums}
use Rattle.mp_anytime.proofs.Distinct.{apart}

pub done_more : (P : ℕ → ℕ → Type 0) (covered : List ℕ) (k sum : ℕ) (old new : Sums) → AreDistinct covered
    → k < length covered → IsPut (get_or covered k 0) sum old new
    → ((q : ℕ) → q < k → P (get_or covered q 0) (sum_in old (get_or covered q 0)))
    → P (get_or covered k 0) sum
    → (q : ℕ) → q < k + 1 → P (get_or covered q 0) (sum_in new (get_or covered q 0))
done_more P covered k sum old new h within put before here q lt = elim (cases_eq q k) [
  | inl same ↦
      subst (λ p. P (get_or covered p 0) (sum_in new (get_or covered p 0))) (sym same)
      (subst (P (get_or covered k 0)) (sym put.here) here)
  | inr other ↦
      let less : q < k = omega (arith, lt, other) in
      subst (P (get_or covered q 0)) (sym (put.others (get_or covered q 0) (λ e. apart covered q k h less within e)))
      (before q less)
]

pub rest_more : (covered : List ℕ) (k sum q : ℕ) (first old new : Sums) → AreDistinct covered
    → IsPut (get_or covered k 0) sum old new → k + 1 ≤ q → q < length covered
    → sum_in old (get_or covered q 0) ≡ sum_in first (get_or covered q 0)
    → sum_in new (get_or covered q 0) ≡ sum_in first (get_or covered q 0)
rest_more covered k sum q first old new h put le lt was =
    put.others (get_or covered q 0) (λ e. apart covered k q h (omega (arith, le)) lt (sym e)) ∙ was

pub places_put : (count d sum : ℕ) (old new : Sums) → IsPut d sum old new → HavePlaces count old
    → HavePlaces count new
places_put count d sum old new put h = record {
  lowers = put.lowers ∙ h.lowers;
  uppers = put.uppers ∙ h.uppers;
}
