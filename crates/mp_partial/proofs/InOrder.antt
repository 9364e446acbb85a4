-- The values of pieces together, with one piece more behind them.
use Rattle.std.proofs.Common.{◌≡◌, ℕ, zero, suc, ◌+◌, ◌<◌, ◌≤◌, ap, sym, ◌∙◌, arith}
use Rattle.std.specs.List.{range_with_len}
use Rattle.mp_partial.specs.Values.{Value, merged_over, merged_below}
use Rattle.mp_partial.specs.MergeLaws.{IsMerging}

module _ (IsValue : ℕ → Value → Type 0) (unit : ℕ → Value) (merged : Value → Value → Value)
    (laws : IsMerging IsValue unit merged) (size : ℕ) (value : ℕ → Value) where
  over_is_value : (first count : ℕ) → ((k : ℕ) → first ≤ k → k < first + count → IsValue size (value k))
      → IsValue size (merged_over merged (unit size) value (range_with_len first count))
  over_is_value first zero h = laws.unit_is_value size
  over_is_value first (suc n) h =
      laws.merged_is_value size (value first) (merged_over merged (unit size) value (range_with_len (first + 1) n))
      (h first (omega arith) (omega arith))
      (over_is_value (first + 1) n (λ k le lt. h k (omega (arith, le)) (omega (arith, lt))))

  over_more : (first count : ℕ) → ((k : ℕ) → first ≤ k → k < first + count + 1 → IsValue size (value k))
      → merged_over merged (unit size) value (range_with_len first (suc count))
      ≡ merged (merged_over merged (unit size) value (range_with_len first count)) (value (first + count))
  over_more first zero h =
      let here : first ≡ first + zero = omega arith in
      let there = h first (omega arith) (omega arith) in
      laws.unit_last size (value first) there ∙ sym (laws.unit_first size (value first) there)
      ∙ ap (λ k. merged (unit size) (value k)) here
  over_more first (suc n) h =
      let here : first + 1 + n ≡ first + suc n = omega arith in
      let rest = merged_over merged (unit size) value (range_with_len (first + 1) n) in
      ap (merged (value first)) (over_more (first + 1) n (λ k le lt. h k (omega (arith, le)) (omega (arith, lt))))
      ∙ sym (laws.associative size (value first) rest (value (first + 1 + n))
      (h first (omega arith) (omega arith))
      (over_is_value (first + 1) n (λ k le lt. h k (omega (arith, le)) (omega (arith, lt))))
      (h (first + 1 + n) (omega arith) (omega arith)))
      ∙ ap (λ k. merged (merged (value first) rest) (value k)) here

  pub below_more : (n : ℕ) → ((k : ℕ) → k < n + 1 → IsValue size (value k)) → (old new : Value)
      → old ≡ merged_below merged (unit size) value n → new ≡ merged old (value n)
      → new ≡ merged_below merged (unit size) value (n + 1)
  below_more n h old new e f =
      let one : suc n ≡ n + 1 = omega arith in
      let here : 0 + n ≡ n = omega arith in
      f ∙ ap (λ v. merged v (value n)) e
      ∙ ap (λ k. merged (merged_below merged (unit size) value n) (value k)) (sym here)
      ∙ sym (over_more 0 n (λ k le lt. h k (omega (arith, lt))))
      ∙ ap (λ k. merged_below merged (unit size) value k) one
