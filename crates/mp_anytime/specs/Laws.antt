-- What holds of a series of which some diagonals are covered, in the subject's own words.
use Rattle.std.specs.Prelude.{◌≡◌, ℕ, ◌+◌, ◌≤◌, true, false, List, [], ◌∷◌, ◌++◌}
use Rattle.mp_nums.specs.Near.{nearer_of}
use Rattle.mp_defs.specs.Series.{Series}
use Rattle.mp_defs.specs.Profile.{entry, matrix_profile, windows_of}
use Rattle.mp_results.specs.Reversal.{numbers, reversal}
use Rattle.mp_results.specs.Covering.{advanced, is_uncovered, uncovered}
use Rattle.mp_results.specs.LazyProfile.{is_allowed_along, lazy_profile}

-- a diagonal isn't covered, and none that isn't has a lesser reversal
pub record IsNext (m w : ℕ) (covered : List ℕ) (diagonal : ℕ) : Type 0 where
  pub uncovered : is_uncovered m w covered diagonal ≡ true
  pub least : (other : ℕ) → is_uncovered m w covered other ≡ true → reversal diagonal ≤ reversal other

-- the diagonals are covered one by one, each time the next one, until none is left
pub record CoversTheNext : Type 0 where
  pub none : (m w : ℕ) (covered : List ℕ) → advanced m w 0 covered ≡ covered
  pub one_more : (m w k : ℕ) (covered : List ℕ) → w ≤ numbers
      → advanced m w (k + 1) covered ≡ advanced m w 1 (advanced m w k covered)
  pub next : (m w diagonal : ℕ) (covered : List ℕ) → w ≤ numbers → IsNext m w covered diagonal
      → advanced m w 1 covered ≡ covered ++ diagonal ∷ []
  pub none_left : (m w : ℕ) (covered : List ℕ)
      → ((diagonal : ℕ) → is_uncovered m w covered diagonal ≡ false)
      → advanced m w 1 covered ≡ covered

-- with more diagonals each entry is as it was, or comes before it
pub record EntriesNeverRise : Type 0 where
  pub all : (m : ℕ) (a : Series) (covered more : List ℕ) (i : ℕ)
      → nearer_of (entry (is_allowed_along (covered ++ more) m) m a i) (entry (is_allowed_along covered m) m a i)
      ≡ entry (is_allowed_along (covered ++ more) m) m a i

-- where no diagonal is left, it is the matrix profile
pub record WholeIsTheProfile : Type 0 where
  pub all : (m : ℕ) (covered : List ℕ) (a : Series) → windows_of m a ≤ numbers
      → uncovered m (windows_of m a) covered ≡ [] → (lazy_profile m covered a).all ≡ (matrix_profile m a).all
  pub left : (m : ℕ) (covered : List ℕ) (a : Series) → windows_of m a ≤ numbers
      → uncovered m (windows_of m a) covered ≡ [] → (lazy_profile m covered a).left ≡ (matrix_profile m a).left
  pub right : (m : ℕ) (covered : List ℕ) (a : Series) → windows_of m a ≤ numbers
      → uncovered m (windows_of m a) covered ≡ []
      → (lazy_profile m covered a).right ≡ (matrix_profile m a).right
