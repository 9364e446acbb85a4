-- From which coarse sum on the values of pairs give windows nothing.
use Rattle.std.proofs.Common.{◌≡◌, ℕ, ◌+◌, ◌*◌, ◌<◌, ◌≤◌, List, length, set, min, arith, inl, inr, sym, subst}
use Rattle.std.proofs.lemmas.Nat.{mul-le}
use Rattle.std.proofs.lemmas.Bool.{cases_eq}
use Rattle.std.proofs.lemmas.List.{get_or-set_same, get_or-set_other}
use Rattle.mp_partial.specs.Values.{Column}
use Rattle.mp_skips.specs.declared.sums.Units.{Units}
use Rattle.mp_skips.specs.declared.sums.TheConstants.{NO_NEED}
use Rattle.mp_skips.specs.Sums.{number_in}
use Rattle.mp_multi.specs.Skips.{IsWindowNeed, IsNeedOfAll, ReachesIn}
use Rattle.mp_multi.specs.declared.plans.MultiPlan.{MultiPlan}

reaches_less : (units : Units) (need more v : ℕ) → need ≤ more → ReachesIn units more v → ReachesIn units need v
reaches_less units need more v le reach =
    omega (
      arith,
      mul-le need (units.grain.size * units.grain.size) more (units.grain.size * units.grain.size) le (omega arith),
      reach,
    )

-- a greater need does too
pub need_more : (plan : MultiPlan) (units : Units) (slots : Column) (first window need more : ℕ) → need ≤ more
    → IsWindowNeed plan units slots first window need → IsWindowNeed plan units slots first window more
need_more plan units slots first window need more le h = record {
  nothing = λ other v lt behind value small reach.
      h.nothing other v lt behind value (omega (arith, le, small)) (reaches_less units need more v le reach);
}

-- and one that none reaches
pub need_capped : (plan : MultiPlan) (units : Units) (slots : Column) (first window need least : ℕ)
    → least ≡ min need NO_NEED → IsWindowNeed plan units slots first window need
    → IsWindowNeed plan units slots first window least
need_capped plan units slots first window need least e h = record {
  nothing = λ other v lt behind value small reach.
      h.nothing other v lt behind value (omega (arith, e, small))
      (subst (λ n. ReachesIn units n v) (omega (arith, e, small)) reach);
}

-- with one window more
pub one_more : (plan : MultiPlan) (units : Units) (slots : Column) (first window n here need more : ℕ)
    → IsNeedOfAll plan units slots first window n need
    → IsWindowNeed plan units slots first (window + n) here → here ≤ more → need ≤ more
    → IsNeedOfAll plan units slots first window (n + 1) more
one_more plan units slots first window n here need more before own le le' = record {
  each = λ r lt. elim (cases_eq r n) [
    | inl e ↦
        subst (λ k. IsWindowNeed plan units slots first (window + k) more) (sym e)
        (need_more plan units slots first (window + n) here more le own)
    | inr other ↦ need_more plan units slots first (window + r) need more le' (before.each r (omega (arith, lt, other)))
  ];
}

-- a need for one group more
pub group_more : (P : ℕ → ℕ → Type 0) (g : ℕ) (needs : List ℕ) (need : ℕ) → g < length needs
    → ((k : ℕ) → k < g → P k (number_in needs k)) → P g need → (k : ℕ) → k < g + 1 → P k
    (number_in (set needs g need) k)
group_more P g needs need there before here k lt = elim (cases_eq k g) [
  | inl e ↦
      subst (λ i. P i (number_in (set needs g need) i)) (sym e)
      (subst (P g) (sym (get_or-set_same needs g need 0 there)) here)
  | inr other ↦
      subst (P k) (sym (get_or-set_other needs g k need 0 other)) (before k (omega (arith, lt, other)))
]
