-- A series of which some diagonals are covered, and which of the others comes next.
use Rattle.std.specs.Prelude.{ℕ, Bool, ◌&&◌, ◌==◌, nat_lt, List, ◌++◌, map, filter, take}
use Rattle.std.specs.List.{list_any, range_with_len}
use Rattle.std.proofs.Math.Bool.{not}
use Rattle.mp_nums.specs.declared.samples.Sample.{Sample}
use Rattle.mp_defs.specs.Window.{excl}
use Rattle.mp_results.specs.Reversal.{reversal, numbers}

-- the samples, the diagonals that are covered, in the order in which they were, the window length, how often samples
-- were read, and how many more samples take no memory
pub record Covering : Type 0 where
  pub items : List Sample
  pub covered : List ℕ
  pub m : ℕ
  pub reads : ℕ
  pub spare : ℕ

-- a diagonal is covered
abbrev pub is_covered : List ℕ → ℕ → Bool
is_covered covered diagonal = list_any (λ other. other == diagonal) covered

-- a diagonal from behind the exclusion zone up to that of the last of w windows isn't covered
abbrev pub is_uncovered : ℕ → ℕ → List ℕ → ℕ → Bool
is_uncovered m w covered diagonal =
    (nat_lt (excl m) diagonal && nat_lt diagonal w) && not (is_covered covered diagonal)

-- the numbers whose reversals are less than n, by rising reversal: the reversal of a reversal is the number itself
unfoldable pub by_reversal : ℕ → List ℕ
by_reversal n = map reversal (range_with_len 0 n)

-- the diagonals that aren't covered, by rising reversal
abbrev pub uncovered : ℕ → ℕ → List ℕ → List ℕ
uncovered m w covered = filter (is_uncovered m w covered) (by_reversal numbers)

-- what is covered once the next k diagonals are, or all where fewer are left
abbrev pub advanced : ℕ → ℕ → ℕ → List ℕ → List ℕ
advanced m w k covered = covered ++ take k (uncovered m w covered)
