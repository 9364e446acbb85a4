-- The proof of what the values of some pieces are together.
use Rattle.std.proofs.Common.{◌≡◌, ℕ, List, [], ◌∷◌, ◌++◌, Bool, true, false, refl, sym, ap, subst, ◌∙◌, inl, inr}
use Rattle.std.proofs.Common.{arith}
use Rattle.std.proofs.Common.{zero, suc, ◌+◌}
use Rattle.std.specs.Prelude.{◌==◌, nat_le, nat_lt, ◌&&◌, ◌||◌, ◌⊎◌}
use Rattle.std.specs.List.{range_with_len}
use Rattle.std.proofs.lemmas.Map.Views.{any-filter_same}
use Rattle.std.proofs.lemmas.List.Folds.{list_any-append}
use Rattle.std.proofs.lemmas.Bool.Decides.{nat_tests}
use Rattle.mp_partial.specs.Values.{Value, merged_over}
use Rattle.mp_partial.specs.MergeLaws.{IsMerging}
use Rattle.mp_partial.specs.Together.{has_piece, HaveSamePieces, HaveValues, MergesByPieces, ListsOfPieces}

-- ---- pieces of a list

or_last : (a b : Bool) → b ≡ true → (a || b) ≡ true
or_last true b h = refl
or_last false b h = h

first_is_there : (x : ℕ) (xs : List ℕ) → has_piece (x ∷ xs) x ≡ true
first_is_there x xs = grind (arith, nat_tests)

rest_is_there : (x : ℕ) (xs : List ℕ) (k : ℕ) → has_piece xs k ≡ true → has_piece (x ∷ xs) k ≡ true
rest_is_there x xs k h = or_last (x == k) (has_piece xs k) h

-- the numbers from one on have those that are no less, and less than the end
has_between : (first count k : ℕ)
    → has_piece (range_with_len first count) k ≡ (nat_le first k && nat_lt k (first + count))
has_between first zero k = grind (arith, nat_tests)
has_between first (suc count) k =
    ap (λ b. (first == k) || b) (has_between (first + 1) count k)
    ∙ first_or_later first count k
  where
    first_or_later : (first count k : ℕ)
        → ((first == k) || (nat_le (first + 1) k && nat_lt k (first + 1 + count)))
        ≡ (nat_le first k && nat_lt k (first + suc count))
    first_or_later first count k = grind (arith, nat_tests)

pub pieces_of_lists : ListsOfPieces
pieces_of_lists = record {
  below = λ count k. has_between 0 count k ∙ grind (arith, nat_tests);
  passed = λ test pieces k. any-filter_same (λ piece. piece == k) test (test k)
      (λ j e. ap test (grind (arith, nat_tests))) pieces;
  joined = λ xs ys k. list_any-append (λ piece. piece == k) xs ys;
}

rest_has_values : (IsValue : ℕ → Value → Type 0) (size : ℕ) (value : ℕ → Value) (x : ℕ) (xs : List ℕ)
    → HaveValues IsValue size value (x ∷ xs) → HaveValues IsValue size value xs
rest_has_values IsValue size value x xs h k there = h k (rest_is_there x xs k there)

-- ---- values together

together_is_value : (IsValue : ℕ → Value → Type 0) (unit : ℕ → Value) (merged : Value → Value → Value)
    → IsMerging IsValue unit merged → (size : ℕ) (value : ℕ → Value) (xs : List ℕ) → HaveValues IsValue size value xs
    → IsValue size (merged_over merged (unit size) value xs)
together_is_value IsValue unit merged laws size value [] h = laws.unit_is_value size
together_is_value IsValue unit merged laws size value (x ∷ xs) h =
    laws.merged_is_value size (value x) (merged_over merged (unit size) value xs) (h x (first_is_there x xs))
    (together_is_value IsValue unit merged laws size value xs (rest_has_values IsValue size value x xs h))

-- two values before a third one come in either order
swapped : (IsValue : ℕ → Value → Type 0) (unit : ℕ → Value) (merged : Value → Value → Value)
    → IsMerging IsValue unit merged → (size : ℕ) (a b c : Value) → IsValue size a → IsValue size b → IsValue size c
    → merged a (merged b c) ≡ merged b (merged a c)
swapped IsValue unit merged laws size a b c h k l =
    sym (laws.associative size a b c h k l)
    ∙ ap (λ x. merged x c) (laws.commutative size a b h k)
    ∙ laws.associative size b a c k h l

-- what adds nothing to a value adds nothing to a merge with it
still_absorbed : (IsValue : ℕ → Value → Type 0) (unit : ℕ → Value) (merged : Value → Value → Value)
    → IsMerging IsValue unit merged → (size : ℕ) (a b c : Value) → IsValue size a → IsValue size b → IsValue size c
    → merged a c ≡ c → merged a (merged b c) ≡ merged b c
still_absorbed IsValue unit merged laws size a b c h k l e =
    swapped IsValue unit merged laws size a b c h k l ∙ ap (merged b) e

-- a value adds nothing to a merge with it
self_absorbed : (IsValue : ℕ → Value → Type 0) (unit : ℕ → Value) (merged : Value → Value → Value)
    → IsMerging IsValue unit merged → (size : ℕ) (a b : Value) → IsValue size a → IsValue size b
    → merged a (merged a b) ≡ merged a b
self_absorbed IsValue unit merged laws size a b h k =
    sym (laws.associative size a a b h h k) ∙ ap (λ v. merged v b) (laws.idempotent size a h)

either_first_or_later : (x k : ℕ) (xs : List ℕ) (b : Bool) → (x == k) ≡ b → has_piece (x ∷ xs) k ≡ true
    → (x ≡ k) ⊎ (has_piece xs k ≡ true)
either_first_or_later x k xs true e there = inl (grind (arith, nat_tests))
either_first_or_later x k xs false e there = inr (sym (ap (λ b. b || has_piece xs k) e) ∙ there)

-- a piece that is there adds nothing
absorbed : (IsValue : ℕ → Value → Type 0) (unit : ℕ → Value) (merged : Value → Value → Value)
    → IsMerging IsValue unit merged → (size : ℕ) (value : ℕ → Value) (xs : List ℕ) → HaveValues IsValue size value xs
    → (k : ℕ) → has_piece xs k ≡ true
    → merged (value k) (merged_over merged (unit size) value xs) ≡ merged_over merged (unit size) value xs
absorbed IsValue unit merged laws size value [] h k there = cc
absorbed IsValue unit merged laws size value (x ∷ xs) h k there =
    let rest : Value = merged_over merged (unit size) value xs in
    let first_is = h x (first_is_there x xs) in
    let rest_has = rest_has_values IsValue size value x xs h in
    let rest_is = together_is_value IsValue unit merged laws size value xs rest_has in
    elim (either_first_or_later x k xs (x == k) refl there) [
      | inl e ↦ subst (λ j. merged (value j) (merged (value x) rest) ≡ merged (value x) rest) e
          (self_absorbed IsValue unit merged laws size (value x) rest first_is rest_is)
      | inr later ↦ still_absorbed IsValue unit merged laws size (value k) (value x) rest (h k there) first_is rest_is
          (absorbed IsValue unit merged laws size value xs rest_has k later)
    ]

-- pieces that are there add nothing
all_absorbed : (IsValue : ℕ → Value → Type 0) (unit : ℕ → Value) (merged : Value → Value → Value)
    → IsMerging IsValue unit merged → (size : ℕ) (value : ℕ → Value) (xs ys : List ℕ) → HaveValues IsValue size value ys
    → ((k : ℕ) → has_piece xs k ≡ true → has_piece ys k ≡ true)
    → merged (merged_over merged (unit size) value xs) (merged_over merged (unit size) value ys)
    ≡ merged_over merged (unit size) value ys
all_absorbed IsValue unit merged laws size value [] ys h there =
    laws.unit_first size (merged_over merged (unit size) value ys)
    (together_is_value IsValue unit merged laws size value ys h)
all_absorbed IsValue unit merged laws size value (x ∷ xs) ys h there =
    let rest_there = λ (k : ℕ) (p : has_piece xs k ≡ true). there k (rest_is_there x xs k p) in
    laws.associative size (value x) (merged_over merged (unit size) value xs) (merged_over merged (unit size) value ys)
    (h x (there x (first_is_there x xs)))
    (together_is_value IsValue unit merged laws size value xs (λ k p. h k (rest_there k p)))
    (together_is_value IsValue unit merged laws size value ys h)
    ∙ ap (merged (value x)) (all_absorbed IsValue unit merged laws size value xs ys h rest_there)
    ∙ absorbed IsValue unit merged laws size value ys h x (there x (first_is_there x xs))

joined_is_merge : (IsValue : ℕ → Value → Type 0) (unit : ℕ → Value) (merged : Value → Value → Value)
    → IsMerging IsValue unit merged → (size : ℕ) (value : ℕ → Value) (xs ys : List ℕ)
    → HaveValues IsValue size value xs → HaveValues IsValue size value ys
    → merged_over merged (unit size) value (xs ++ ys)
    ≡ merged (merged_over merged (unit size) value xs) (merged_over merged (unit size) value ys)
joined_is_merge IsValue unit merged laws size value [] ys h k =
    sym (laws.unit_first size (merged_over merged (unit size) value ys)
    (together_is_value IsValue unit merged laws size value ys k))
joined_is_merge IsValue unit merged laws size value (x ∷ xs) ys h k =
    let rest_has = rest_has_values IsValue size value x xs h in
    ap (merged (value x)) (joined_is_merge IsValue unit merged laws size value xs ys rest_has k)
    ∙ sym (laws.associative size (value x)
    (merged_over merged (unit size) value xs) (merged_over merged (unit size) value ys)
    (h x (first_is_there x xs))
    (together_is_value IsValue unit merged laws size value xs rest_has)
    (together_is_value IsValue unit merged laws size value ys k))

same_pieces : (IsValue : ℕ → Value → Type 0) (unit : ℕ → Value) (merged : Value → Value → Value)
    → IsMerging IsValue unit merged → (size : ℕ) (value : ℕ → Value) (xs ys : List ℕ)
    → HaveValues IsValue size value xs → HaveSamePieces xs ys
    → merged_over merged (unit size) value xs ≡ merged_over merged (unit size) value ys
same_pieces IsValue unit merged laws size value xs ys h same =
    let k : HaveValues IsValue size value ys = λ j there. h j (same j ∙ there) in
    sym (all_absorbed IsValue unit merged laws size value ys xs h (λ j there. same j ∙ there))
    ∙ laws.commutative size (merged_over merged (unit size) value ys) (merged_over merged (unit size) value xs)
    (together_is_value IsValue unit merged laws size value ys k)
    (together_is_value IsValue unit merged laws size value xs h)
    ∙ all_absorbed IsValue unit merged laws size value xs ys k (λ j there. sym (same j) ∙ there)

pub merges_by_pieces : (IsValue : ℕ → Value → Type 0) (unit : ℕ → Value) (merged : Value → Value → Value)
    → IsMerging IsValue unit merged → MergesByPieces IsValue unit merged
merges_by_pieces IsValue unit merged laws = record {
  same = same_pieces IsValue unit merged laws;
  joined = joined_is_merge IsValue unit merged laws;
  is_value = together_is_value IsValue unit merged laws;
}
