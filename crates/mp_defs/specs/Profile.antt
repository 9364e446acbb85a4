-- The matrix profile: for each window its nearest allowed window.
use Rattle.std.specs.Prelude.{ℕ, Bool, true, ◌&&◌, nat_lt, List, map, length, Option}
use Rattle.std.specs.List.{range_with_len}
use Rattle.mp_nums.specs.declared.nearest.Near.{Near}
use Rattle.mp_defs.specs.Series.{Series}
use Rattle.mp_defs.specs.Window.{windows, is_allowed}
use Rattle.mp_defs.specs.Distance.{distance}
use Rattle.mp_defs.specs.Least.{candidate, near}

-- the number of windows of a series
abbrev pub windows_of : ℕ → Series → ℕ
windows_of m a = windows (length a) m

-- of the windows of b that may be chosen, the nearest to window i of a
abbrev pub nearest : ℕ → (ℕ → Bool) → Series → ℕ → Series → Option Near
nearest m may a i b = near (candidate may (λ j. distance m a i b j)) (windows (length b) m)

-- a column: what stands at each of w windows
abbrev pub column : (ℕ → Option Near) → ℕ → List (Option Near)
column f w = map f (range_with_len 0 w)

-- for each window of a the nearest of those windows of b that may be chosen for it
abbrev pub nearest_column : (ℕ → ℕ → Bool) → ℕ → Series → Series → List (Option Near)
nearest_column may m a b = column (λ i. nearest m (may i) a i b) (windows_of m a)

-- ---- within a series, where a test tells of each two windows whether they may be compared

-- the entry of window i: the nearest of the windows that it may be compared with
abbrev pub entry : (ℕ → ℕ → Bool) → ℕ → Series → ℕ → Option Near
entry may m a i = nearest m (may i) a i a

-- the nearest of those that start earlier
abbrev pub left_entry : (ℕ → ℕ → Bool) → ℕ → Series → ℕ → Option Near
left_entry may m a i = nearest m (λ j. may i j && nat_lt j i) a i a

-- the nearest of those that start later
abbrev pub right_entry : (ℕ → ℕ → Bool) → ℕ → Series → ℕ → Option Near
right_entry may m a i = nearest m (λ j. may i j && nat_lt i j) a i a

-- the columns of a profile: for each window its entry, its left entry and its right entry
pub record Columns : Type 0 where
  pub all : List (Option Near)
  pub left : List (Option Near)
  pub right : List (Option Near)

-- the profile of a series by such a test
abbrev pub profile : (ℕ → ℕ → Bool) → ℕ → Series → Columns
profile may m a = record {
  all = column (entry may m a) (windows_of m a);
  left = column (left_entry may m a) (windows_of m a);
  right = column (right_entry may m a) (windows_of m a);
}

-- the matrix profile: each window is compared with those outside its exclusion zone
abbrev pub matrix_profile : ℕ → Series → Columns
matrix_profile m a = profile (is_allowed m) m a

-- ---- from one series to another

-- the entry of window i of a in b: the nearest of all windows of b
abbrev pub join_entry : ℕ → Series → Series → ℕ → Option Near
join_entry m a b i = nearest m (λ _. true) a i b

-- the AB-join: for each window of a its entry in b
abbrev pub ab_join : ℕ → Series → Series → List (Option Near)
ab_join m a b = column (join_entry m a b) (windows_of m a)
