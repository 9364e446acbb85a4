-- What one more sample makes of the entries of a series.
use Rattle.std.specs.Prelude.{◌≡◌, ℕ, ◌+◌, ◌<◌, ◌≤◌, List, [], ◌∷◌, ◌++◌, length, slice_index_or, ℤ, pos}
use Rattle.std.specs.Prelude.{Bool, ◌&&◌, nat_lt, Option, None}
use Rattle.mp_nums.specs.Near.{nearer_of}
use Rattle.mp_defs.specs.Series.{Series, number_at}
use Rattle.mp_defs.specs.Distance.{distance}
use Rattle.mp_defs.specs.Least.{candidate}
use Rattle.mp_defs.specs.Profile.{windows_of, left_entry, right_entry}
use Rattle.mp_sums.specs.Sums.{filled}

abbrev pub with_one : Series → Option ℤ → Series
with_one a s = a ++ s ∷ []

-- By any test of pairs, the left entries of the windows that were there stay. Their right entries are the lesser of
-- what
-- they were and of the last window, where it may be compared. To the right of the last window there is none.
pub record EntriesGrow : Type 0 where
  pub windows : (m : ℕ) (a : Series) (s : Option ℤ) → m ≤ length a + 1
      → windows_of m (with_one a s) ≡ windows_of m a + 1
  pub left : (may : ℕ → ℕ → Bool) (m : ℕ) (a : Series) (s : Option ℤ) (i : ℕ) → m ≤ length a + 1
      → i < windows_of m a → left_entry may m (with_one a s) i ≡ left_entry may m a i
  pub right : (may : ℕ → ℕ → Bool) (m : ℕ) (a : Series) (s : Option ℤ) (i : ℕ) → m ≤ length a + 1
      → i < windows_of m a → right_entry may m (with_one a s) i
      ≡ nearer_of (right_entry may m a i)
      (candidate (λ j. may i j && nat_lt i j) (λ j. distance m (with_one a s) i (with_one a s) j) (windows_of m a))
  pub last_right : (may : ℕ → ℕ → Bool) (m : ℕ) (a : Series) (s : Option ℤ) → m ≤ length a + 1
      → right_entry may m (with_one a s) (windows_of m a) ≡ None

-- ---- numbers

-- numbers stand for a series
abbrev pub AreNumbers : Series → List ℤ → Type 0
AreNumbers a xs = (i : ℕ) → slice_index_or xs i (pos 0) ≡ filled (number_at a i)
