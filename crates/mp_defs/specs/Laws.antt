-- What holds of distances and entries, in the subject's own words.
use Rattle.std.specs.Prelude.{◌≡◌, ◌≢◌, ℕ, ◌+◌, ◌<◌, ◌≤◌, ◌⊎◌, ◌↔◌, Bool, ◌&&◌, ◌||◌, true, false, nat_lt}
use Rattle.std.specs.Prelude.{List, length, replicate, slice_index_or, IsTrue, IsSome, is_some, Option, Some, None}
use Rattle.std.specs.Simd.Lanes.{zip2}
use Rattle.mp_nums.specs.declared.samples.Sample.{Sample}
use Rattle.mp_nums.specs.declared.samples.Sample.TheVariants.{Missing}
use Rattle.mp_nums.specs.declared.nearest.Near.{Near}
use Rattle.mp_nums.specs.Near.{comes_before, nearer_of}
use Rattle.mp_defs.specs.Series.{Series, reading_of, series_of, number_at}
use Rattle.mp_defs.specs.Window.{windows, is_free, is_allowed}
use Rattle.mp_defs.specs.Distance.{square_between, plus, distance}
use Rattle.mp_defs.specs.Least.{near, at_distance}
use Rattle.mp_defs.specs.Profile.{windows_of, nearest, column, nearest_column}
use Rattle.mp_defs.specs.Profile.{entry, left_entry, right_entry, join_entry}

-- ---- series

-- a series of samples
pub record SeriesAreOfSamples : Type 0 where
  -- it has at each place what the sample there stands for, and no number past the last one
  pub numbers : (samples : List Sample) (n : ℕ)
      → number_at (series_of samples) n ≡ reading_of (slice_index_or samples n Missing)
  -- it has the windows of as many samples
  pub windows_are : (m : ℕ) (samples : List Sample)
      → windows_of m (series_of samples) ≡ windows (length samples) m

-- ---- distances

-- with each sample more a distance grows by one square, and a window is free where that sample is there too
pub record GrowsByOneSample : Type 0 where
  pub no_samples : (a : Series) (i : ℕ) (b : Series) (j : ℕ) → distance 0 a i b j ≡ Some 0
  pub one_more : (m : ℕ) (a : Series) (i : ℕ) (b : Series) (j : ℕ)
      → distance (m + 1) a i b j
      ≡ plus (distance m a i b j) (square_between (number_at a (i + m)) (number_at b (j + m)))
  pub free_at_first : (a : Series) (i : ℕ) → is_free 0 a i ≡ true
  pub one_more_free : (m : ℕ) (a : Series) (i : ℕ)
      → is_free (m + 1) a i ≡ (is_free m a i && is_some (number_at a (i + m)))

abbrev pub DistanceIsOfFreeWindows : Type 0
DistanceIsOfFreeWindows = (m : ℕ) (a : Series) (i : ℕ) (b : Series) (j : ℕ)
    → IsSome (distance m a i b j) ↔ (IsTrue (is_free m a i) × IsTrue (is_free m b j))

abbrev pub DistanceIsSymmetric : Type 0
DistanceIsSymmetric = (m : ℕ) (a : Series) (i : ℕ) (b : Series) (j : ℕ) → distance m a i b j ≡ distance m b j a i

-- ---- the least of some candidates

-- with each candidate more the least is the lesser of the least before and of that one
pub record GrowsByOneCandidate : Type 0 where
  pub no_candidates : (c : ℕ → Option Near) → near c 0 ≡ None
  pub one_more : (c : ℕ → Option Near) (n : ℕ) → near c (n + 1) ≡ nearer_of (near c n) (c n)

-- a is one of the candidates below n, and none of them comes before it
pub record IsFirst (c : ℕ → Option Near) (n : ℕ) (a : Near) : Type 0 where
  pub place : ℕ
  pub below : place < n
  pub chosen : c place ≡ Some a
  pub none_before : (j : ℕ) (b : Near) → j < n → c j ≡ Some b → comes_before b a ≡ false

abbrev pub IsLeast : (ℕ → Option Near) → ℕ → Option Near → Type 0
IsLeast c n None = (j : ℕ) → j < n → c j ≡ None
IsLeast c n (Some a) = IsFirst c n a

abbrev pub LeastIsFirst : Type 0
LeastIsFirst = (c : ℕ → Option Near) (n : ℕ) → IsLeast c n (near c n)

-- ---- the nearest window

-- window found of b is nearest to window i of a among those that may be chosen, and the first of equally near ones
pub record IsNearestWindow (m : ℕ) (may : ℕ → Bool) (a : Series) (i : ℕ) (b : Series) (found : Near) : Type 0 where
  pub window : found.index < windows (length b) m
  pub may_be : may found.index ≡ true
  pub distance_is : distance m a i b found.index ≡ Some found.dist.0
  pub none_nearer : (j d : ℕ) → j < windows (length b) m → may j ≡ true → distance m a i b j ≡ Some d
      → (found.dist.0 < d) ⊎ ((found.dist.0 ≡ d) × (found.index ≤ j))

-- where there is none, no window that may be chosen has a distance
abbrev pub IsNearest : ℕ → (ℕ → Bool) → Series → ℕ → Series → Option Near → Type 0
IsNearest m may a i b None = (j : ℕ) → j < windows (length b) m → may j ≡ true → distance m a i b j ≡ None
IsNearest m may a i b (Some found) = IsNearestWindow m may a i b found

-- entries by any test of pairs, and those of a join, are nearest windows
pub record EntriesAreNearest : Type 0 where
  pub all : (may : ℕ → ℕ → Bool) (m : ℕ) (a : Series) (i : ℕ) → IsNearest m (may i) a i a (entry may m a i)
  pub left : (may : ℕ → ℕ → Bool) (m : ℕ) (a : Series) (i : ℕ)
      → IsNearest m (λ j. may i j && nat_lt j i) a i a (left_entry may m a i)
  pub right : (may : ℕ → ℕ → Bool) (m : ℕ) (a : Series) (i : ℕ)
      → IsNearest m (λ j. may i j && nat_lt i j) a i a (right_entry may m a i)
  pub joined : (m : ℕ) (a b : Series) (i : ℕ) → IsNearest m (λ _. true) a i b (join_entry m a b i)

-- the nearest window by which windows may be chosen
pub record NearestByChoice : Type 0 where
  -- of those that pass one of two tests it is the lesser of both nearest ones
  pub either : (m : ℕ) (p q : ℕ → Bool) (a : Series) (i : ℕ) (b : Series)
      → nearest m (λ j. p j || q j) a i b ≡ nearer_of (nearest m p a i b) (nearest m q a i b)
  -- tests that agree choose the same
  pub same : (m : ℕ) (p q : ℕ → Bool) (a : Series) (i : ℕ) (b : Series) → ((j : ℕ) → j < windows_of m b → p j ≡ q j)
      → nearest m p a i b ≡ nearest m q a i b
  pub none : (m : ℕ) (p : ℕ → Bool) (a : Series) (i : ℕ) (b : Series) → ((j : ℕ) → j < windows_of m b → p j ≡ false)
      → nearest m p a i b ≡ None
  pub only : (m : ℕ) (p : ℕ → Bool) (a : Series) (i : ℕ) (b : Series) (k : ℕ) → k < windows_of m b → p k ≡ true
      → ((j : ℕ) → j ≢ k → p j ≡ false) → nearest m p a i b ≡ at_distance k (distance m a i b k)

-- ---- columns

-- a column has a place for each of its windows
pub record ColumnsHavePlaces : Type 0 where
  pub count : (f : ℕ → Option Near) (w : ℕ) → length (column f w) ≡ w
  pub at_place : (f : ℕ → Option Near) (w i : ℕ) → i < w → slice_index_or (column f w) i None ≡ f i

-- a column of nearest windows by which windows may be chosen
pub record ColumnsByChoice : Type 0 where
  -- by one of two tests it has place by place the lesser of both columns
  pub either : (m : ℕ) (p q : ℕ → ℕ → Bool) (a b : Series)
      → nearest_column (λ i j. p i j || q i j) m a b
      ≡ zip2 nearer_of (nearest_column p m a b) (nearest_column q m a b)
  -- by tests that agree it is the same
  pub same : (m : ℕ) (p q : ℕ → ℕ → Bool) (a b : Series)
      → ((i j : ℕ) → i < windows_of m a → j < windows_of m b → p i j ≡ q i j)
      → nearest_column p m a b ≡ nearest_column q m a b
  pub none : (m : ℕ) (p : ℕ → ℕ → Bool) (a b : Series)
      → ((i j : ℕ) → i < windows_of m a → j < windows_of m b → p i j ≡ false)
      → nearest_column p m a b ≡ replicate (windows_of m a) None

-- ---- tests of pairs

-- no window is compared with itself
abbrev pub IsIrreflexive : (ℕ → ℕ → Bool) → Type 0
IsIrreflexive may = (i : ℕ) → may i i ≡ false

-- of two windows each is compared with the other, or neither
abbrev pub IsSymmetric : (ℕ → ℕ → Bool) → Type 0
IsSymmetric may = (i j : ℕ) → may i j ≡ may j i

pub record ZoneIsMutual : Type 0 where
  pub irreflexive : (m : ℕ) → IsIrreflexive (is_allowed m)
  pub symmetric : (m : ℕ) → IsSymmetric (is_allowed m)

-- an entry is the lesser of the left and the right one
abbrev pub EntriesAreOfBothSides : Type 0
EntriesAreOfBothSides = (may : ℕ → ℕ → Bool) → IsIrreflexive may → (m : ℕ) (a : Series) (i : ℕ)
    → entry may m a i ≡ nearer_of (left_entry may m a i) (right_entry may m a i)
