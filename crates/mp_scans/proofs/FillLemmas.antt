-- Lists that are filled place by place.
use Rattle.std.proofs.Common.{◌≡◌, ◌≢◌, ℕ, ◌+◌, ◌<◌, ◌≤◌, ◌⊎◌, inl, inr, List, length, set, get_or, sym, arith, subst}
use Rattle.std.proofs.Common.{ℤ, pos, take, drop, ap, ◌∙◌, w32}
use Rattle.std.proofs.lemmas.Bool.{cases_eq}
use Rattle.std.specs.Int.{int_wrap}
use Rattle.std.proofs.lemmas.List.{get_or-set_same, get_or-set_other, get_or-take, get_or-drop, length-take}
use Rattle.std.proofs.lemmas.List.{length-drop}
use Rattle.mp_sums.specs.Residues.{AreNumbers}

pub set_at : {X : Type 0} (P : ℕ → X → Type 0) (d : X) (v : List X) (n : ℕ) (z : X) → n < length v → P n z → (k : ℕ)
    → (k ≢ n → P k (get_or v k d)) → P k (get_or (set v n z) k d)
set_at P d v n z lt here k before = elim (cases_eq k n) [
  | inl same ↦ subst (λ q. P q (get_or (set v n z) q d)) (sym same)
      (subst (P n) (sym (get_or-set_same v n z d lt)) here)
  | inr other ↦ subst (P k) (sym (get_or-set_other v n k z d other)) (before other)
]

pub set_next : {X : Type 0} (P : ℕ → X → Type 0) (d : X) (v : List X) (n : ℕ) (z : X) → n < length v
    → ((q : ℕ) → q < n → P q (get_or v q d)) → P n z → (q : ℕ) → q < n + 1 → P q (get_or (set v n z) q d)
set_next P d v n z lt before here = λ q below.
    set_at P d v n z lt here q (λ other. before q (omega (arith, below, other)))

pub this_or_behind : (k s : ℕ) → k ≤ s → (s ≡ k) ⊎ (k < s)
this_or_behind k s le = grind arith

pub last_or_before : (s k : ℕ) → s < k + 1 → (s ≡ k) ⊎ (s < k)
last_or_before s k lt = grind arith

-- ---- numbers of which some are taken

pub first_numbers : (x : ℕ → ℤ) (start n : ℕ) (numbers : List ℤ) → AreNumbers x start numbers
    → AreNumbers x start (take n numbers)
first_numbers x start n numbers h = record {
  each = λ k lt.
      let places = length-take n numbers in
      get_or-take n numbers k (pos 0) (omega (arith, lt, places)) ∙ h.each k (omega (arith, lt, places));
}

pub later_numbers : (x : ℕ → ℤ) (start m : ℕ) (numbers : List ℤ) → AreNumbers x start numbers
    → AreNumbers x (start + m) (drop m numbers)
later_numbers x start m numbers h = record {
  each = λ k lt.
      let there : start + (m + k) ≡ start + m + k = omega arith in
      get_or-drop m numbers k (pos 0) ∙ h.each (m + k) (omega (arith, lt, length-drop m numbers))
      ∙ ap (λ p. int_wrap w32 (x p)) there;
}
