-- What holds of sums, of rounded samples and of residues, in the subject's own words.
use Rattle.std.specs.Prelude.{◌≡◌, ℕ, ◌+◌, ◌*◌, ◌^◌, ◌<◌, ◌≤◌, ℤ, negsuc, ◌+ℤ◌, ◌-ℤ◌, ◌≤ℤ◌, ◌<ℤ◌, Some, List, [], ◌∷◌}
use Rattle.std.specs.Prelude.{length}
use Rattle.std.specs.Int.{w32, int_wrap}
use Rattle.mp_defs.specs.Series.{Series}
use Rattle.mp_defs.specs.Distance.{squared_difference, distance}
use Rattle.mp_sums.specs.declared.limits.Limit.{Limit}
use Rattle.mp_sums.specs.declared.ranges.Range.{Range}
use Rattle.mp_sums.specs.Sums.{numbers_of, square_sum}
use Rattle.mp_sums.specs.Ranges.{IsInRange, SumsFit}
use Rattle.mp_sums.specs.Limits.{IsWithin, IsBeyond}
use Rattle.mp_sums.specs.Rounding.{rounded, threshold}
use Rattle.mp_sums.specs.Residues.{rounded_residue, residue, residue_limit, IsChange, moved}
use Rattle.mp_sums.specs.Together.{sums_together, rounded_together, counted}

-- ---- sums

pub record SumsRunOn : Type 0 where
  pub no_numbers : (x : ℕ → ℤ) (i : ℕ) (y : ℕ → ℤ) (j : ℕ) → square_sum 0 x i y j ≡ 0
  -- with one number more
  pub one_more : (m : ℕ) (x : ℕ → ℤ) (i : ℕ) (y : ℕ → ℤ) (j : ℕ)
      → square_sum (m + 1) x i y j ≡ square_sum m x i y j + squared_difference (x (i + m)) (y (j + m))
  -- one place on: one square goes and one comes in
  pub moved_on : (m : ℕ) (x : ℕ → ℤ) (i : ℕ) (y : ℕ → ℤ) (j : ℕ)
      → square_sum m x (i + 1) y (j + 1) + squared_difference (x i) (y j)
      ≡ square_sum m x i y j + squared_difference (x (i + m)) (y (j + m))
  -- one part behind another
  pub joined : (m n : ℕ) (x : ℕ → ℤ) (i : ℕ) (y : ℕ → ℤ) (j : ℕ)
      → square_sum (m + n) x i y j ≡ square_sum m x i y j + square_sum n x (i + m) y (j + m)
  -- it is the same from either side
  pub turned : (m : ℕ) (x : ℕ → ℤ) (i : ℕ) (y : ℕ → ℤ) (j : ℕ) → square_sum m x i y j ≡ square_sum m y j x i
  -- the first squares alone
  pub first : (n m : ℕ) (x : ℕ → ℤ) (i : ℕ) (y : ℕ → ℤ) (j : ℕ) → n ≤ m → square_sum n x i y j ≤ square_sum m x i y j

-- where two windows have a distance, it is the sum of their numbers
abbrev pub DistancesAreSums : Type 0
DistancesAreSums = (m : ℕ) (a : Series) (i : ℕ) (b : Series) (j d : ℕ) → distance m a i b j ≡ Some d
    → d ≡ square_sum m (numbers_of a) i (numbers_of b) j

-- what a range tells of the numbers in it
pub record RangesBoundSums : Type 0 where
  -- two numbers differ by no more than its ends
  pub squares : (range : Range) (x y : ℤ) → IsInRange range x → IsInRange range y
      → squared_difference x y ≤ squared_difference range.greatest range.least
  -- where the sums of m squares fit into so many bits, those of no more numbers do
  pub sums : (n m bits : ℕ) (range : Range) (x : ℕ → ℤ) (i : ℕ) (y : ℕ → ℤ) (j : ℕ) → n ≤ m → SumsFit m bits range
      → ((k : ℕ) → k < n → IsInRange range (x (i + k))) → ((k : ℕ) → k < n → IsInRange range (y (j + k)))
      → square_sum n x i y j < 2 ^ bits

-- ---- rounded samples

-- where a sum is within a limit, that of the rounded numbers is within the limit's threshold
abbrev pub RoundedSumsAreNear : Type 0
RoundedSumsAreNear = (m shift limit : ℕ) (x : ℕ → ℤ) (i : ℕ) (y : ℕ → ℤ) (j : ℕ) → square_sum m x i y j ≤ limit
    → square_sum m (rounded shift x) i (rounded shift y) j ≤ threshold m shift limit

-- ---- residues

-- where row and column move on, so does the residue of their sum, whatever the sum is
abbrev pub ResiduesMoveOn : Type 0
ResiduesMoveOn = (m : ℕ) (x : ℕ → ℤ) (i : ℕ) (y : ℕ → ℤ) (j : ℕ) (e s e' s' : ℤ) → IsChange m x i e s
    → IsChange m y j e' s'
    → moved (residue (square_sum m x i y j)) e s e' s' ≡ residue (square_sum m x (i + 1) y (j + 1))

-- what the residue of two windows that have a distance tells of it
pub record ResiduesTell : Type 0 where
  -- within a limit it passes
  pub passes : (m shift : ℕ) (limit : Limit) (a : Series) (i : ℕ) (b : Series) (j d : ℕ)
      → distance m a i b j ≡ Some d → IsWithin limit d
      → rounded_residue m shift a i b j ≤ℤ residue_limit m shift limit
  -- so where it doesn't, the windows lie beyond the limit
  pub beyond : (m shift : ℕ) (limit : Limit) (a : Series) (i : ℕ) (b : Series) (j d : ℕ)
      → distance m a i b j ≡ Some d → residue_limit m shift limit <ℤ rounded_residue m shift a i b j
      → IsBeyond limit d
  -- where samples aren't rounded, it is the distance's own
  pub unrounded : (m : ℕ) (a : Series) (i : ℕ) (b : Series) (j d : ℕ) → distance m a i b j ≡ Some d
      → rounded_residue m 0 a i b j ≡ residue d

-- ---- several series together

-- what the residues of windows i and j of several series tell together
pub record SumsTellTogether : Type 0 where
  pub no_series : (m i j : ℕ) → sums_together m [] i j ≡ 0
  pub one_more : (m : ℕ) (x : ℕ → ℤ) (xs : List (ℕ → ℤ)) (i j : ℕ)
      → sums_together m (x ∷ xs) i j ≡ square_sum m x i x j + sums_together m xs i j
  pub no_rounded : (m shift i j : ℕ) → rounded_together m shift [] i j ≡ 0
  pub one_more_rounded : (m shift : ℕ) (x : ℕ → ℤ) (xs : List (ℕ → ℤ)) (i j : ℕ)
      → rounded_together m shift (x ∷ xs) i j
      ≡ square_sum m (rounded shift x) i (rounded shift x) j + rounded_together m shift xs i j
  -- where their sum is within a limit, that of the rounded numbers is within the threshold of as many samples
  pub rounded : (m shift limit : ℕ) (xs : List (ℕ → ℤ)) (i j : ℕ) → sums_together m xs i j ≤ limit
      → rounded_together m shift xs i j ≤ threshold (length xs * m) shift limit
  -- no residue is taken for more than its sum, whatever wrapped
  pub counts : (sum : ℕ) → counted (residue sum) ≤ sum
  -- one residue more, from that of the sum 0 on
  pub adds : (sum : ℕ) (r : ℤ) → negsuc 2147483646 ≤ℤ r
      → int_wrap w32 (residue sum +ℤ (r -ℤ negsuc 2147483646)) ≡ residue (sum + counted r)
  -- windows within a limit pass by the residue of their rounded sums, or of less
  pub passes : (m shift : ℕ) (limit : Limit) (xs : List (ℕ → ℤ)) (i j sum : ℕ)
      → IsWithin limit (sums_together m xs i j) → sum ≤ rounded_together m shift xs i j
      → residue sum ≤ℤ residue_limit (length xs * m) shift limit
  -- so where they don't, they lie beyond the limit
  pub beyond : (m shift : ℕ) (limit : Limit) (xs : List (ℕ → ℤ)) (i j sum : ℕ)
      → sum ≤ rounded_together m shift xs i j → residue_limit (length xs * m) shift limit <ℤ residue sum
      → IsBeyond limit (sums_together m xs i j)
