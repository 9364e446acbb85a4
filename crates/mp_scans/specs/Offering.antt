-- What holds of a way to offer windows to each other.
use Rattle.std.specs.Prelude.{◌≡◌, ℕ, ◌+◌, ◌<◌, ◌≤◌, Bool, true, false, ◌==◌, ◌&&◌, ◌||◌, nat_le, nat_lt}
use Rattle.std.specs.Prelude.{Some, None, ℤ, ◌<ℤ◌}
use Rattle.mp_defs.specs.Series.{Series}
use Rattle.mp_defs.specs.Distance.{distance}
use Rattle.mp_defs.specs.Profile.{windows_of}
use Rattle.mp_sums.specs.Residues.{rounded_residue}

-- windows i and j, and no others
abbrev pub only : ℕ → ℕ → ℕ → ℕ → Bool
only i j r c = (r == i) && (c == j)

-- window r, and each of those from c on and before d
abbrev pub in_row : ℕ → ℕ → ℕ → ℕ → ℕ → Bool
in_row r c d row column = (row == r) && (nat_le c column && nat_lt column d)

-- the column starts at least first and less than end behind its row, which is from top on and before bottom
abbrev pub in_block : ℕ → ℕ → ℕ → ℕ → ℕ → ℕ → Bool
in_block first end top bottom row column =
    (nat_le (row + first) column && nat_lt column (row + end)) && (nat_le top row && nat_lt row bottom)

-- where a pair of windows has a residue above the bound, a window from first on that has its distance gives nothing
pub record TellsNothing (m shift first : ℕ) (gives_nothing : ℕ → ℕ → Type 0) (bound : ℤ) : Type 0 where
  pub above : (a : Series) (i : ℕ) (b : Series) (j d : ℕ) → distance m a i b j ≡ Some d
      → bound <ℤ rounded_residue m shift a i b j → (index : ℕ) → first ≤ index → gives_nothing index d

-- rows are windows of the first series, and columns of the second. A scan is of the pairs of a row and a column that
-- pass a test, and leads from one state of what keeps the nearest windows to another
pub record IsOffering {Into : Type 0} (least : ℕ) (fits : ℕ → Series → Series → Into → Type 0)
    (may_offer : Into → ℕ → ℕ → ℕ → Type 0)
    (is_scanned : ℕ → Series → Series → (ℕ → ℕ → Bool) → Into → Into → Type 0) : Type 0 where
  -- the windows of fitting series may be offered, columns that start far enough behind their row
  pub may : (m : ℕ) (a b : Series) (into : Into) (row column dist : ℕ) → fits m a b into
      → row < windows_of m a → column < windows_of m b → row + least ≤ column
      → distance m a row b column ≡ Some dist → may_offer into row column dist
  pub still_fits : (m : ℕ) (a b : Series) (pairs : ℕ → ℕ → Bool) (old new : Into) → fits m a b old
      → is_scanned m a b pairs old new → fits m a b new
  -- no pairs give nothing, nor does a pair without a distance
  pub none : (m : ℕ) (a b : Series) (pairs : ℕ → ℕ → Bool) (into : Into) → fits m a b into
      → ((i j : ℕ) → pairs i j ≡ false) → is_scanned m a b pairs into into
  pub skipped : (m : ℕ) (a b : Series) (row column : ℕ) (into : Into) → fits m a b into
      → row < windows_of m a → column < windows_of m b → row + least ≤ column → distance m a row b column ≡ None
      → is_scanned m a b (only row column) into into
  -- these pairs, and then those
  pub both : (m : ℕ) (a b : Series) (p q : ℕ → ℕ → Bool) (old mid new : Into)
      → is_scanned m a b p old mid → is_scanned m a b q mid new → is_scanned m a b (λ i j. p i j || q i j) old new
  -- tests that agree
  pub same : (m : ℕ) (a b : Series) (p q : ℕ → ℕ → Bool) (old new : Into) → fits m a b old
      → is_scanned m a b p old new
      → ((i j : ℕ) → i < windows_of m a → j < windows_of m b → p i j ≡ q i j) → is_scanned m a b q old new

-- what holds of pairs that give a row or a column nothing
pub record IsLimiting {Into : Type 0} (least : ℕ) (fits : ℕ → Series → Series → Into → Type 0)
    (is_scanned : ℕ → Series → Series → (ℕ → ℕ → Bool) → Into → Into → Type 0)
    (keeps_row keeps_column : Into → ℕ → ℕ → ℕ → Type 0) : Type 0 where
  -- pairs give nothing where none gives its row or its column something
  pub quiet : (m : ℕ) (a b : Series) (pairs : ℕ → ℕ → Bool) (into : Into) → fits m a b into
      → ((i j : ℕ) → pairs i j ≡ true → i + least ≤ j)
      → ((i j d : ℕ) → i < windows_of m a → j < windows_of m b → pairs i j ≡ true → distance m a i b j ≡ Some d
      → keeps_row into i j d × keeps_column into j i d)
      → is_scanned m a b pairs into into
  -- and it stays so, whatever else is offered
  pub row_stays : (m : ℕ) (a b : Series) (pairs : ℕ → ℕ → Bool) (old new : Into) → fits m a b old
      → is_scanned m a b pairs old new → (i j d : ℕ) → i < windows_of m a → keeps_row old i j d → keeps_row new i j d
  pub column_stays : (m : ℕ) (a b : Series) (pairs : ℕ → ℕ → Bool) (old new : Into) → fits m a b old
      → is_scanned m a b pairs old new → (j i d : ℕ) → j < windows_of m b → keeps_column old j i d
      → keeps_column new j i d
