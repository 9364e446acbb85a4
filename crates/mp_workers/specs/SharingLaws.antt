-- What workers that share have behind a piece.
use Rattle.std.proofs.Common.{◌≡◌, ℕ, ◌<◌, ◌∷◌, sym, ap, subst, ◌∙◌, arith}
use Rattle.std.proofs.lemmas.Bool.Decides.{nat_tests}
use Rattle.std.specs.Prelude.{◌==◌, ◌||◌, nat_lt, true}
use Rattle.std.specs.List.{range_with_len}
use Rattle.mp_partial.specs.Values.{Value, merged_below}
use Rattle.mp_partial.specs.MergeLaws.{IsMerging}
use Rattle.mp_partial.specs.TogetherLaws.{merges_by_pieces, pieces_of_lists}

is_below : (n pieces : ℕ) → nat_lt n pieces ≡ true → n < pieces
is_below n pieces h = grind (arith, nat_tests)

-- a number below another one is among those below it
among_them : (k n pieces : ℕ) → k < pieces → ((k == n) || nat_lt n pieces) ≡ nat_lt n pieces
among_them k n pieces lt = grind (arith, nat_tests)

module _ (IsValue : ℕ → Value → Type 0) (unit : ℕ → Value) (merged : Value → Value → Value)
    (laws : IsMerging IsValue unit merged) (size : ℕ) where
  -- both of two values within the whole
  pub both_within : (whole a b : Value) → IsValue size whole → IsValue size a → IsValue size b
      → merged a whole ≡ whole → merged b whole ≡ whole → merged (merged a b) whole ≡ whole
  both_within whole a b is_whole is_a is_b h k =
      laws.associative size a b whole is_a is_b is_whole ∙ ap (merged a) k ∙ h

  -- what two values have together has what the first one has
  pub first_has : (a b piece : Value) → IsValue size a → IsValue size b → IsValue size piece
      → merged a piece ≡ a → merged (merged a b) piece ≡ merged a b
  first_has a b piece is_a is_b is_piece has =
      ap (λ v. merged v piece) (laws.commutative size a b is_a is_b)
      ∙ laws.associative size b a piece is_b is_a is_piece ∙ ap (merged b) has
      ∙ laws.commutative size b a is_b is_a

  -- and what the other one has
  pub other_has : (a b piece : Value) → IsValue size a → IsValue size b → IsValue size piece
      → merged b piece ≡ b → merged (merged a b) piece ≡ merged a b
  other_has a b piece is_a is_b is_piece has = laws.associative size a b piece is_a is_b is_piece ∙ ap (merged a) has

  -- what one of all pieces has is within what all have together
  pub piece_within : (value : ℕ → Value) (pieces k : ℕ) → ((n : ℕ) → n < pieces → IsValue size (value n))
      → k < pieces → merged (value k) (merged_below merged (unit size) value pieces)
      ≡ merged_below merged (unit size) value pieces
  piece_within value pieces k values lt =
      let range = range_with_len 0 pieces in
      let among = λ (n : ℕ). ap (λ b. (k == n) || b) (pieces_of_lists.below pieces n)
      ∙ among_them k n pieces lt in
      (merges_by_pieces IsValue unit merged laws).same size value (k ∷ range) range
      (λ n there. values n (is_below n pieces (sym (among n) ∙ there)))
      (λ n. among n ∙ sym (pieces_of_lists.below pieces n))

  -- where one value is within the whole, more is found, and the value of a piece is merged into it
  pub one_more_run : (whole old found piece new : Value) → IsValue size whole → IsValue size old
      → IsValue size found → IsValue size piece → merged found old ≡ found → merged found whole ≡ whole
      → merged piece whole ≡ whole → new ≡ merged found piece
      → (merged new piece ≡ new) × (merged new old ≡ new) × (merged new whole ≡ whole)
  one_more_run whole old found piece new is_whole is_old is_found is_piece more within piece_is e =
      subst (λ v. (merged v piece ≡ v) × (merged v old ≡ v) × (merged v whole ≡ whole)) (sym e) (
        other_has found piece piece is_found is_piece is_piece (laws.idempotent size piece is_piece),
        first_has found piece old is_found is_piece is_old more,
        both_within whole found piece is_whole is_found is_piece within piece_is,
      )
