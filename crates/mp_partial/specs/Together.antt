-- What the values of some pieces are together, by any merge that may come in any order and any number of times.
use Rattle.std.specs.Prelude.{◌≡◌, ℕ, ◌==◌, nat_lt, Bool, true, ◌&&◌, ◌||◌, List, ◌++◌, filter}
use Rattle.std.specs.List.{list_any, range_with_len}
use Rattle.mp_partial.specs.Values.{Value, merged_over}

abbrev pub has_piece : List ℕ → ℕ → Bool
has_piece pieces k = list_any (λ piece. piece == k) pieces

-- the same pieces, in whatever order and however often
abbrev pub HaveSamePieces : List ℕ → List ℕ → Type 0
HaveSamePieces xs ys = (k : ℕ) → has_piece xs k ≡ has_piece ys k

-- each of the pieces has a value of the size
abbrev pub HaveValues : (ℕ → Value → Type 0) → ℕ → (ℕ → Value) → List ℕ → Type 0
HaveValues IsValue size value pieces = (k : ℕ) → has_piece pieces k ≡ true → IsValue size (value k)

-- What pieces are together rests on which they are, not on their order or on how often each one stands there. It is a
-- value of their size, and what pieces of two lists are together is the merge of both.
pub record MergesByPieces (IsValue : ℕ → Value → Type 0) (unit : ℕ → Value) (merged : Value → Value → Value)
    : Type 0 where
  pub same : (size : ℕ) (value : ℕ → Value) (xs ys : List ℕ) → HaveValues IsValue size value xs → HaveSamePieces xs ys
      → merged_over merged (unit size) value xs ≡ merged_over merged (unit size) value ys
  pub joined : (size : ℕ) (value : ℕ → Value) (xs ys : List ℕ)
      → HaveValues IsValue size value xs → HaveValues IsValue size value ys
      → merged_over merged (unit size) value (xs ++ ys)
      ≡ merged (merged_over merged (unit size) value xs) (merged_over merged (unit size) value ys)
  pub is_value : (size : ℕ) (value : ℕ → Value) (xs : List ℕ) → HaveValues IsValue size value xs
      → IsValue size (merged_over merged (unit size) value xs)

-- which pieces stand in lists that are made of others
pub record ListsOfPieces : Type 0 where
  pub below : (count k : ℕ) → has_piece (range_with_len 0 count) k ≡ nat_lt k count
  pub passed : (test : ℕ → Bool) (pieces : List ℕ) (k : ℕ)
      → has_piece (filter test pieces) k ≡ (test k && has_piece pieces k)
  pub joined : (xs ys : List ℕ) (k : ℕ) → has_piece (xs ++ ys) k ≡ (has_piece xs k || has_piece ys k)
