-- Residues of successive windows.
use Rattle.std.proofs.Common.{◌≡◌, ℕ, ◌+◌, ◌<◌, ◌≤◌, List, length, set, take, drop, ap, ◌∙◌, arith, below_more}
use Rattle.std.proofs.Common.{ℤ, pos, w32}
use Rattle.std.specs.Int.{int_wrap}
use Rattle.std.proofs.lemmas.List.{get_or-set_same, get_or-set_other, get_or-take, get_or-drop, length-take}
use Rattle.mp_sums.specs.Residues.{item, AreNumbers}

-- a list whose places before one are filled
pub set_left : (v old : List ℤ) (k : ℕ) (z : ℤ) → ((q : ℕ) → k ≤ q → item v q ≡ item old q) → (q : ℕ) → k + 1 ≤ q
    → item (set v k z) q ≡ item old q
set_left v old k z before q le =
    get_or-set_other v k q z (pos 0) (λ e. omega (arith, e, le)) ∙ before q (omega (arith, le))

pub set_done : (P : ℕ → ℤ → Type 0) (v : List ℤ) (k : ℕ) (z : ℤ) → k < length v
    → ((q : ℕ) → q < k → P q (item v q)) → P k z → (q : ℕ) → q < k + 1 → P q (item (set v k z) q)
set_done P v k z lt before here = below_more (λ q. P q (item (set v k z) q)) k
    (λ q less. rw (get_or-set_other v k q z (pos 0) (λ e. omega (arith, e, less))) (before q less))
    (rw (get_or-set_same v k z (pos 0) lt) here)

-- the numbers of the part of a list
pub part_numbers : (y : ℕ → ℤ) (j m k n : ℕ) (columns : List ℤ) → AreNumbers y (j + m) columns
    → k + n ≤ length columns → AreNumbers y (j + (m + k)) (take n (drop k columns))
part_numbers y j m k n columns h le = record {
  each = λ t lt.
      let small : t < n = omega (arith, lt, length-take n (drop k columns)) in
      let there : j + m + (k + t) ≡ j + (m + k) + t = omega arith in
      get_or-take n (drop k columns) t (pos 0) small ∙ get_or-drop k columns t (pos 0)
      ∙ h.each (k + t) (omega (arith, small, le)) ∙ ap (λ p. int_wrap w32 (y p)) there;
}
