-- What the residues of limits tell.
use Rattle.std.proofs.Common.{◌≡◌, ℕ, ◌+◌, ◌-◌, ◌*◌, ◌<◌, ◌≤◌, List, Bool, true, false, refl, arith, subst, sym}
use Rattle.std.proofs.Common.{subst₂, set, ◌∙◌, pos, w32, to_z, of_z, FitsSigned}
use Rattle.std.specs.Prelude.{ℤ, ◌||◌, Option, Some, None, IsSome}
use Rattle.std.specs.Int.{bit_at}
use Rattle.std.proofs.lemmas.Bool.Decides.{nat_tests}
use Rattle.std.proofs.lemmas.Int.{to_z-of_z}
use Rattle.std.proofs.lemmas.List.{length-set}
use Rattle.mp_defs.specs.Series.{Series, series_of}
use Rattle.mp_defs.specs.Window.{is_free}
use Rattle.mp_defs.specs.DistanceLaws.{of_free_windows}
use Rattle.mp_sums.specs.declared.distances.Grid.{Grid}
use Rattle.mp_sums.specs.Grids.{distance_in}
use Rattle.mp_sums.specs.Residues.{item}
use Rattle.mp_scans.specs.declared.blocks.Block.{Block}
use Rattle.mp_scans.specs.declared.blocks.Known.{Known}
use Rattle.mp_scans.specs.declared.blocks.Strip.{Strip}
use Rattle.mp_scans.specs.declared.sizes.TheConstants.{ROWS, COLUMNS}
use Rattle.mp_scans.specs.Blocks.{residue_in, AreAbove, in_strip}
use Rattle.mp_scans.specs.Lanes.{IsAbove}
use Rattle.mp_scans.specs.Limiting.{IsRowLimit, IsColumnLimit, AreLimits, IsKnown, IsQuiet, AreQuiet, AreKept}
use Rattle.mp_scans.specs.Limiting.{first_row, first_on}
use Rattle.mp_scans.specs.Offering.{only, in_row, in_block, IsOffering, IsLimiting, TellsNothing}
use Rattle.mp_scans.specs.Windows.{FitIn, AreScannedIn}
use Rattle.mp_scans.proofs.FillLemmas.{set_at}
use Rattle.mp_scans.proofs.StripLemmas.{scanned_next, more_columns}

-- ---- a limit

-- what is handed on is the same
pub handed_on : (P : ℤ → Type 0) (r : ℤ) → FitsSigned w32 r → P r → P (to_z w32 (of_z w32 r))
handed_on P r fits h = subst P (sym (to_z-of_z w32 r fits)) h

-- a pair of windows of which one has a missing sample has no distance
no_distance : (grid : Grid) (i j d : ℕ) → distance_in grid i j ≡ Some d
    → (is_free grid.m (series_of grid.rows.now) i ≡ true) × (is_free grid.m (series_of grid.columns.now) j ≡ true)
no_distance grid i j d is =
    (of_free_windows grid.m (series_of grid.rows.now) i (series_of grid.columns.now) j).0 (there _ d is)
  where
    there : (x : Option ℕ) (d : ℕ) → x ≡ Some d → IsSome x
    there None d e = absurd (cc)
    there (Some y) d e = refl

both_ways : (b : Bool) → b ≡ true → b ≡ false → ⊥
both_ways b e f = cc

pub never_row : (block : Block) (keeps : ℕ → ℕ → ℕ → Type 0) (first p : ℕ) (limit : ℤ) → FitsSigned w32 limit
    → is_free block.grid.m (series_of block.grid.rows.now) (block.row + p) ≡ false
    → IsRowLimit block keeps first p limit
never_row block keeps first p limit fits gap = record {
  fits = fits;
  above = λ c _ _ _ d is.
      absurd (both_ways _ (no_distance block.grid (block.row + p) (block.column + c) d is).0 gap);
}

pub never_column : (block : Block) (keeps : ℕ → ℕ → ℕ → Type 0) (first c : ℕ) (limit : ℤ) → FitsSigned w32 limit
    → is_free block.grid.m (series_of block.grid.columns.now) (block.column + c) ≡ false
    → IsColumnLimit block keeps first c limit
never_column block keeps first c limit fits gap = record {
  fits = fits;
  above = λ p _ _ _ d is.
      absurd (both_ways _ (no_distance block.grid (block.row + p) (block.column + c) d is).1 gap);
}

-- the limit of a row that is told where no sample of it is missing
pub row_told : (block : Block) (keeps : ℕ → ℕ → ℕ → Type 0) (p : ℕ) (free : Bool) (limit : ℤ)
    → free ≡ is_free block.grid.m (series_of block.grid.rows.now) (block.row + p)
    → FitsSigned w32 limit
    → (free ≡ true → TellsNothing block.rounding.m block.rounding.shift (block.column + (p + 1 - 1))
    (keeps (block.row + p)) limit)
    → IsRowLimit block keeps p p limit
row_told block keeps p false limit gap fits told = never_row block keeps p p limit fits (sym gap)
row_told block keeps p true limit gap fits told =
    let rows = series_of block.grid.rows.now in
    let columns = series_of block.grid.columns.now in
    let h = subst (λ m. TellsNothing m block.rounding.shift (block.column + (p + 1 - 1)) (keeps (block.row + p))
    limit) block.same_length (told refl) in
    record {
      fits = fits;
      above = λ c le above _ d is.
          h.above rows (block.row + p) columns (block.column + c) d is above (block.column + c) (omega (arith, le));
    }

-- the same of a column
pub column_told : (block : Block) (keeps : ℕ → ℕ → ℕ → Type 0) (width c : ℕ) (free : Bool) (limit : ℤ)
    → free ≡ is_free block.grid.m (series_of block.grid.columns.now) (block.column + c)
    → FitsSigned w32 limit
    → (free ≡ true → TellsNothing block.rounding.m block.rounding.shift (block.row + (c + 1 - width))
    (keeps (block.column + c)) limit)
    → IsColumnLimit block keeps (first_on width c) c limit
column_told block keeps width c false limit gap fits told = never_column block keeps (first_on width c) c limit fits
    (sym gap)
column_told block keeps width c true limit gap fits told =
    let rows = series_of block.grid.rows.now in
    let columns = series_of block.grid.columns.now in
    let h = subst (λ m. TellsNothing m block.rounding.shift (block.row + (c + 1 - width)) (keeps (block.column + c))
    limit) block.same_length (told refl) in
    record {
      fits = fits;
      above = λ p le above _ d is.
          h.above rows (block.row + p) columns (block.column + c) d is above (block.row + p) (omega (arith, le));
    }

-- ---- limits of all rows and columns

-- what is known of rows from one on is known of later ones
pub known_later : {Into : Type 0} {fits : ℕ → Series → Series → Into → Type 0}
    {keeps_row keeps_column : Into → ℕ → ℕ → ℕ → Type 0} (block : Block) (first later : ℕ → ℕ) (known : Known)
    (into : Into) → ((c : ℕ) → first c ≤ later c) → IsKnown fits keeps_row keeps_column block first known into
    → IsKnown fits keeps_row keeps_column block later known into
known_later block first later known into order h = record {
  places = h.places;
  exacts = h.exacts;
  limits = record {
    row_places = h.limits.row_places;
    column_places = h.limits.column_places;
    of_rows = h.limits.of_rows;
    of_columns = λ c lt. record {
      fits = (h.limits.of_columns c lt).fits;
      above = λ p le. (h.limits.of_columns c lt).above p (omega (arith, le, order c));
    };
  };
}

-- a row and a column have new limits
pub limits_anew : (block : Block) (keeps_row keeps_column : ℕ → ℕ → ℕ → Type 0) (first : ℕ → ℕ) (rows columns : List ℤ)
    (p c : ℕ) (row column : ℤ) → p < ROWS → c < COLUMNS → AreLimits block keeps_row keeps_column first rows columns
    → IsRowLimit block keeps_row p p row → IsColumnLimit block keeps_column (first c) c column
    → AreLimits block keeps_row keeps_column first (set rows p (to_z w32 (of_z w32 row)))
    (set columns c (to_z w32 (of_z w32 column)))
limits_anew block keeps_row keeps_column first rows columns p c row column pl cl h rn cn = record {
  row_places = length-set rows p _ ∙ h.row_places;
  column_places = length-set columns c _ ∙ h.column_places;
  of_rows = λ k lt. set_at (λ q. IsRowLimit block keeps_row q q) (pos 0) rows p _ (omega (arith, pl, h.row_places))
      (handed_on (IsRowLimit block keeps_row p p) row rn.fits rn) k (λ _. h.of_rows k lt);
  of_columns = λ k lt. set_at (λ q. IsColumnLimit block keeps_column (first q) q) (pos 0) columns c _
      (omega (arith, cl, h.column_places))
      (handed_on (IsColumnLimit block keeps_column (first c) c) column cn.fits cn) k (λ _. h.of_columns k lt);
}

-- ---- the rows that are still offered to a column

pub row_is_first : (offset p c : ℕ) → p + offset ≤ c → c < p + offset + 32 → p ≡ first_row offset p c
row_is_first offset p c le lt = omega (arith, le, lt)

pub rows_go_on : (offset p next c : ℕ) → p ≤ next → first_row offset p c ≤ first_row offset next c
rows_go_on offset p next c le = omega (arith, le)

-- on one strip of so many that are left, and then on one fewer
pub first_of_strip : (strips c : ℕ) → 1 ≤ strips → first_on (strips * 32) c ≤ first_row ((strips - 1) * 32) 0 c
first_of_strip strips c some = omega (arith, some)

pub first_behind_strip : (strips end c : ℕ) → first_row (strips * 32) end c ≤ first_on (strips * 32) c
first_behind_strip strips end c = omega arith

-- ---- pairs that give nothing

-- a row and a column whose residue is above both limits
quiet_above : (block : Block) (keeps_row keeps_column : ℕ → ℕ → ℕ → Type 0) (p c first : ℕ) (row column : ℤ)
    → first ≤ p → p ≤ c → IsRowLimit block keeps_row p p row → IsColumnLimit block keeps_column first c column
    → IsAbove row column (residue_in block p c)
    → IsQuiet block.grid keeps_row keeps_column (block.row + p) (block.column + c)
quiet_above block keeps_row keeps_column p c first row column le le' h k above =
    λ wi wj d is. (h.above c le' above.0 wi d is, k.above p le above.1 wj d is)

-- the same of one of a strip's pairs
pub quiet_pair : (strip : Strip) (keeps_row keeps_column : ℕ → ℕ → ℕ → Type 0) (rows columns : List ℤ) (from p c : ℕ)
    → from ≤ p → p < strip.end → p + strip.offset ≤ c → c < p + strip.offset + 32
    → AreLimits strip.block keeps_row keeps_column (first_row strip.offset from) rows columns
    → IsAbove (item rows p) (item columns c) (residue_in strip.block p c)
    → IsQuiet strip.block.grid keeps_row keeps_column (strip.block.row + p) (strip.block.column + c)
quiet_pair strip keeps_row keeps_column rows columns from p c le lt first last limits above =
    quiet_above strip.block keeps_row keeps_column p c (first_row strip.offset from c) _ _
    (omega (arith, le, first, last)) (omega (arith, first)) (limits.of_rows p (omega (arith, lt, strip.rows)))
    (limits.of_columns c (omega (arith, lt, last, strip.columns))) above

-- what the test of a block's pairs tells
pub record IsInside (first end top bottom row column : ℕ) : Type 0 where
  pub left : row + first ≤ column
  pub right : column < row + end
  pub above : top ≤ row
  pub below : row < bottom

pub inside : (first end top bottom row column : ℕ) → in_block first end top bottom row column ≡ true
    → IsInside first end top bottom row column
inside first end top bottom row column e = record {
  left = grind (arith, nat_tests);
  right = grind (arith, nat_tests);
  above = grind (arith, nat_tests);
  below = grind (arith, nat_tests);
}

-- pairs of rows that are passed over
pub quiet_strip : (strip : Strip) (keeps_row keeps_column : ℕ → ℕ → ℕ → Type 0) (rows columns : List ℤ) (from end : ℕ)
    → end ≤ strip.end → AreLimits strip.block keeps_row keeps_column (first_row strip.offset from) rows columns
    → AreAbove strip rows columns from end → AreQuiet strip.block.grid keeps_row keeps_column (in_strip strip from end)
quiet_strip strip keeps_row keeps_column rows columns from end within limits above = λ i j is.
    let b = strip.block in
    let h = inside (b.column - b.row + strip.offset) (b.column - b.row + strip.offset + strip.width) (b.row + from)
    (b.row + end) i j is in
    let p : ℕ = i - b.row in
    let t : ℕ = j - (b.column + (p + strip.offset)) in
    let le : from ≤ p = omega (arith, h.above) in
    let lt : p < end = omega (arith, h.above, h.below) in
    let small : t < 32 = omega (arith, h.left, h.right, h.above, b.order, strip.narrow) in
    subst₂ (IsQuiet b.grid keeps_row keeps_column) (omega (arith, h.above)) (omega (arith, h.left, h.above, b.order))
    (quiet_pair strip keeps_row keeps_column rows columns from p (p + strip.offset + t) le (omega (arith, lt, within))
    (omega arith) (omega (arith, small)) limits (above.each p t le lt small))

row_is : (i j r c : ℕ) → only i j r c ≡ true → i ≡ r
row_is i j r c e = grind (arith, nat_tests)

column_is : (i j r c : ℕ) → only i j r c ≡ true → j ≡ c
column_is i j r c e = grind (arith, nat_tests)

record IsInRow (r c d row column : ℕ) : Type 0 where
  same : row ≡ r
  left : c ≤ column
  right : column < d

within_row : (r c d row column : ℕ) → in_row r c d row column ≡ true → IsInRow r c d row column
within_row r c d row column e = record {
  same = grind (arith, nat_tests);
  left = grind (arith, nat_tests);
  right = grind (arith, nat_tests);
}

-- columns of a row whose bits are set
quiet_columns : (block : Block) (keeps_row keeps_column : ℕ → ℕ → ℕ → Type 0) (p c bits from end : ℕ) → end ≤ 32
    → AreKept block keeps_row keeps_column p c bits → ((t : ℕ) → from ≤ t → t < end → bit_at bits t ≡ 1)
    → AreQuiet block.grid keeps_row keeps_column
    (in_row (block.row + p) (block.column + c + from) (block.column + c + end))
quiet_columns block keeps_row keeps_column p c bits from end few kept set = λ i j is.
    let h = within_row (block.row + p) (block.column + c + from) (block.column + c + end) i j is in
    let t : ℕ = j - (block.column + c) in
    let lt : t < end = omega (arith, h.left, h.right) in
    subst₂ (IsQuiet block.grid keeps_row keeps_column) (sym h.same) (omega (arith, h.left))
    (kept t (omega (arith, lt, few)) (set t (omega (arith, h.left)) lt))

-- ---- what is scanned by them

module _ {Into : Type 0} {least : ℕ} {fits : ℕ → Series → Series → Into → Type 0}
    {is_scanned : ℕ → Series → Series → (ℕ → ℕ → Bool) → Into → Into → Type 0}
    {keeps_row keeps_column : Into → ℕ → ℕ → ℕ → Type 0}
    (laws : IsLimiting least fits is_scanned keeps_row keeps_column) where
  -- pairs that give nothing are scanned
  pub quiet_scanned : (grid : Grid) (pairs : ℕ → ℕ → Bool) (into : Into) → FitIn fits grid into
      → ((i j : ℕ) → pairs i j ≡ true → i + least ≤ j) → AreQuiet grid (keeps_row into) (keeps_column into) pairs
      → AreScannedIn is_scanned grid pairs into into
  quiet_scanned grid pairs into fit order quiet =
      laws.quiet grid.m (series_of grid.rows.now) (series_of grid.columns.now) pairs into fit order
      (λ i j d wi wj is found. quiet i j is wi wj d found)

  -- one pair that gives nothing
  pub only_scanned : (grid : Grid) (i j : ℕ) (into : Into) → FitIn fits grid into → i + least ≤ j
      → IsQuiet grid (keeps_row into) (keeps_column into) i j → AreScannedIn is_scanned grid (only i j) into into
  only_scanned grid i j into fit apart quiet =
      quiet_scanned grid (only i j) into fit
      (λ r c e. omega (arith, row_is i j r c e, column_is i j r c e, apart))
      (λ r c e. subst₂ (IsQuiet grid (keeps_row into) (keeps_column into)) (row_is i j r c e) (column_is i j r c e)
      quiet)

  -- so is one pair, at a distance that gives neither its row nor its column something
  pub quiet_at : (grid : Grid) (i j dist : ℕ) (into : Into) → FitIn fits grid into → i + least ≤ j
      → distance_in grid i j ≡ Some dist → keeps_row into i j dist → keeps_column into j i dist
      → AreScannedIn is_scanned grid (only i j) into into
  quiet_at grid i j dist into fit apart is row column =
      only_scanned grid i j into fit apart (λ _ _ d found.
      let same : dist ≡ d = cc in (subst (keeps_row into i j) same row, subst (keeps_column into j i) same column))

  -- whatever is offered, limits stay limits
  pub limits_stay : (block : Block) (pairs : ℕ → ℕ → Bool) (old new : Into) (first : ℕ → ℕ) (rows columns : List ℤ)
      → FitIn fits block.grid old → AreScannedIn is_scanned block.grid pairs old new
      → AreLimits block (keeps_row old) (keeps_column old) first rows columns
      → AreLimits block (keeps_row new) (keeps_column new) first rows columns
  limits_stay block pairs old new first rows columns fit scanned h = record {
    row_places = h.row_places;
    column_places = h.column_places;
    of_rows = λ p lt. record {
      fits = (h.of_rows p lt).fits;
      above = λ c le above w d is.
          laws.row_stays block.grid.m (series_of block.grid.rows.now) (series_of block.grid.columns.now) pairs old new
          fit scanned (block.row + p) (block.column + c) d w ((h.of_rows p lt).above c le above w d is);
    };
    of_columns = λ c lt. record {
      fits = (h.of_columns c lt).fits;
      above = λ p le above w d is.
          laws.column_stays block.grid.m (series_of block.grid.rows.now) (series_of block.grid.columns.now) pairs old
          new fit scanned (block.column + c) (block.row + p) d w ((h.of_columns c lt).above p le above w d is);
    };
  }

  -- and what gave nothing still does
  pub kept_stays : (block : Block) (pairs : ℕ → ℕ → Bool) (old new : Into) (p c bits : ℕ) → FitIn fits block.grid old
      → AreScannedIn is_scanned block.grid pairs old new
      → AreKept block (keeps_row old) (keeps_column old) p c bits
      → AreKept block (keeps_row new) (keeps_column new) p c bits
  kept_stays block pairs old new p c bits fit scanned kept = λ t small set wi wj d is.
      let h = kept t small set wi wj d is in
      let i = block.row + p in
      let j = block.column + (c + t) in
      let rows = series_of block.grid.rows.now in
      let columns = series_of block.grid.columns.now in (
        laws.row_stays block.grid.m rows columns pairs old new fit scanned i j d wi h.0,
        laws.column_stays block.grid.m rows columns pairs old new fit scanned j i d wj h.1,
      )

  -- of a row's columns so many are scanned, and the next ones give nothing
  pub columns_on : {may : Into → ℕ → ℕ → ℕ → Type 0} → IsOffering least fits may is_scanned → (block : Block)
      (p c bits best from end : ℕ) (old into : Into) → block.row + p + least ≤ block.column + c → from ≤ end → end ≤ 32
      → FitIn fits block.grid old → FitIn fits block.grid into
      → AreKept block (keeps_row into) (keeps_column into) p c bits
      → ((t : ℕ) → from ≤ t → t < end → bit_at bits t ≡ 1)
      → AreScannedIn is_scanned block.grid (λ i j. only (block.row + p) best i j
      || in_row (block.row + p) (block.column + c) (block.column + c + from) i j) old into
      → AreScannedIn is_scanned block.grid (λ i j. only (block.row + p) best i j
      || in_row (block.row + p) (block.column + c) (block.column + c + end) i j) old into
  columns_on offers block p c bits best from end old into apart le few fit fit' kept set scanned =
      let next = in_row (block.row + p) (block.column + c + from) (block.column + c + end) in
      scanned_next offers block.grid _ next _ old into into fit scanned
      (quiet_scanned block.grid next into fit'
      (λ i j is.
      let h = within_row (block.row + p) (block.column + c + from) (block.column + c + end) i j is in
      omega (arith, h.same, h.left, apart))
      (quiet_columns block (keeps_row into) (keeps_column into) p c bits from end few kept set))
      (λ i j _ _. more_columns (block.row + p) (block.column + c) (block.column + c + from) (block.column + c + end)
      best i j (omega arith) (omega (arith, le)))
