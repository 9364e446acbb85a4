-- The pairs of blocks, strips and diagonals, and what scans of them give together.
use Rattle.std.proofs.Common.{◌≡◌, ℕ, zero, suc, inl, ◌+◌, ◌-◌, ◌*◌, ◌^◌, ◌<◌, ◌≤◌, ◌⊎◌, min, max, List, length, Bool}
use Rattle.std.proofs.Common.{true, false, arith, subst, refl, ap, sym, ◌∙◌}
use Rattle.std.specs.Prelude.{◌||◌, Option, Some, None, IsSome}
use Rattle.std.proofs.lemmas.Bool.Decides.{nat_tests}
use Rattle.mp_defs.specs.Series.{Series, series_of}
use Rattle.mp_sums.specs.declared.distances.Grid.{Grid}
use Rattle.mp_sums.specs.Grids.{distance_in}
use Rattle.mp_scans.specs.Offering.{only, in_block, IsOffering, IsLimiting}
use Rattle.mp_scans.specs.Windows.{row_windows, column_windows, FitIn, AreScannedIn}
use Rattle.mp_skips.specs.declared.sums.Coarse.{Coarse}
use Rattle.mp_skips.specs.declared.sums.TheConstants.{NO_NEED}
use Rattle.mp_skips.specs.Sums.{number_in}
use Rattle.mp_skips.specs.Blocks.{height, AreApart}
use Rattle.mp_skips.specs.Levels.{squares_in}
use Rattle.mp_skips.specs.Needs.{IsRowNeed, IsRowsNeed, IsColumnNeed, AreGroupNeeds, AreStripNeeds, IsMost}
use Rattle.mp_skips.proofs.LevelLemmas.{sum_is_least, sum_has_bits}
use Rattle.mp_skips.proofs.NeedLemmas.{column_need_later, column_need_more, rows_need_more}
use Rattle.mp_skips.proofs.NeedLemmas.{rows_need_stays, group_needs_stay}

-- ---- one scan after another

module _ {Into : Type 0} {least : ℕ} {fits : ℕ → Series → Series → Into → Type 0} {may : Into → ℕ → ℕ → ℕ → Type 0}
    {is_scanned : ℕ → Series → Series → (ℕ → ℕ → Bool) → Into → Into → Type 0}
    (laws : IsOffering least fits may is_scanned) (grid : Grid) where
  -- the scan of these pairs and then of those is one of all pairs, as another test tells them
  pub scanned_next : (p q r : ℕ → ℕ → Bool) (old mid new : Into) → FitIn fits grid old
      → AreScannedIn is_scanned grid p old mid → AreScannedIn is_scanned grid q mid new
      → ((i j : ℕ) → i < row_windows grid → j < column_windows grid → (p i j || q i j) ≡ r i j)
      → AreScannedIn is_scanned grid r old new
  scanned_next p q r old mid new h s t agree =
      let m = grid.m in
      let a = series_of grid.rows.now in
      let b = series_of grid.columns.now in
      laws.same m a b (λ i j. p i j || q i j) r old new h (laws.both m a b p q old mid new s t) agree

-- where no row or no diagonal is meant, there is no pair
pub no_pairs : (first end top bottom i j : ℕ) → (end ≤ first) ⊎ (bottom ≤ top)
    → in_block first end top bottom i j ≡ false
no_pairs first end top bottom i j none = grind (arith, nat_tests)

-- rows from one on and before the next
pub rows_next : (first end top u l i j : ℕ) → top ≤ u → u ≤ l
    → (in_block first end top u i j || in_block first end u l i j) ≡ in_block first end top l i j
rows_next first end top u l i j le le' = grind (arith, nat_tests)

pub rows_all : (first end top bottom row i j : ℕ) → row ≡ bottom
    → in_block first end top row i j ≡ in_block first end top bottom i j
rows_all first end top bottom row i j e = ap (λ n. in_block first end top n i j) e

-- diagonals from one on and before the next
pub diagonals_next : (first u l top bottom i j : ℕ) → first ≤ u → u ≤ l
    → (in_block first u top bottom i j || in_block u l top bottom i j) ≡ in_block first l top bottom i j
diagonals_next first u l top bottom i j le le' = grind (arith, nat_tests)

-- those that start behind the last column have no pair
pub diagonals_cut : (first end stop start top bottom wb i j : ℕ) → stop ≡ min end (wb - top) → stop ≤ start
    → (start ≤ stop) ⊎ (start ≡ first) → j < wb
    → in_block first start top bottom i j ≡ in_block first end top bottom i j
diagonals_cut first end stop start top bottom wb i j e le order lt = grind (arith, nat_tests)

-- ---- the blocks of a strip

-- one more
pub blocks_next : (first end p q top bottom i j : ℕ) → p ≤ q
    → (in_block first (min end p) top bottom i j || in_block (max first p) (min end q) top bottom i j)
    ≡ in_block first (min end q) top bottom i j
blocks_next first end p q top bottom i j le = grind (arith, nat_tests)

pub blocks_more : (first end row bottom g i j : ℕ)
    → (in_block first (min end (8 * g - row)) row bottom i j
    || in_block (max first (8 * g - row)) (min end (8 * g + 8 - row)) row bottom i j)
    ≡ in_block first (min end (8 * (g + 1) - row)) row bottom i j
blocks_more first end row bottom g i j =
    let e : 8 * g + 8 - row ≡ 8 * (g + 1) - row = omega arith in
    blocks_next first end (8 * g - row) (8 * g + 8 - row) row bottom i j (omega arith)
    ∙ ap (λ n. in_block first (min end n) row bottom i j) e

pub same_block : (f f' e e' row bottom i j : ℕ) → f ≡ f' → e ≡ e'
    → in_block f e row bottom i j ≡ in_block f' e' row bottom i j
same_block f f' e e' row bottom i j p q =
    ap (λ n. in_block n e row bottom i j) p ∙ ap (λ n. in_block f' n row bottom i j) q

-- all that have columns
pub blocks_cut : (first end row bottom wb next i j : ℕ) → min (row + end) wb ≤ next → j < wb
    → in_block first (min end (next - row)) row bottom i j ≡ in_block first end row bottom i j
blocks_cut first end row bottom wb next i j le lt = grind (arith, nat_tests)

-- ---- the pairs of a block

pub after_row : (first end top bottom i j : ℕ) → in_block first end top bottom i j ≡ true → i + first ≤ j
after_row first end top bottom i j e = grind (arith, nat_tests)

pub before_end : (first end top bottom i j : ℕ) → in_block first end top bottom i j ≡ true → j < i + end
before_end first end top bottom i j e = grind (arith, nat_tests)

pub from_top : (first end top bottom i j : ℕ) → in_block first end top bottom i j ≡ true → top ≤ i
from_top first end top bottom i j e = grind (arith, nat_tests)

pub above_bottom : (first end top bottom i j : ℕ) → in_block first end top bottom i j ≡ true → i < bottom
above_bottom first end top bottom i j e = grind (arith, nat_tests)

-- the pairs of a strip's block
abbrev pub block_pairs : ℕ → ℕ → ℕ → ℕ → ℕ → ℕ → ℕ → Bool
block_pairs first end row count g =
    in_block (max first (8 * g - row)) (min end (8 * g + 8 - row)) row (row + count)

row_is : (i j r c : ℕ) → only i j r c ≡ true → i ≡ r
row_is i j r c e = grind (arith, nat_tests)

column_is : (i j r c : ℕ) → only i j r c ≡ true → j ≡ c
column_is i j r c e = grind (arith, nat_tests)

some_of : (x : Option ℕ) → IsSome x → (d : ℕ) × (x ≡ Some d)
some_of None is = absurd (cc)
some_of (Some d) is = (d, refl)

some_same : (a b : ℕ) → Some a ≡ Some b → a ≡ b
some_same a b e = cc

module _ {Into : Type 0} {least : ℕ} {fits : ℕ → Series → Series → Into → Type 0}
    {is_scanned : ℕ → Series → Series → (ℕ → ℕ → Bool) → Into → Into → Type 0}
    {keeps_row keeps_column : Into → ℕ → ℕ → ℕ → Type 0}
    (laws : IsLimiting least fits is_scanned keeps_row keeps_column) (coarse : Coarse) (into : Into) where
  quiet_pair : (first row count place width need i j d : ℕ) → count ≤ height coarse
      → IsRowsNeed coarse (keeps_row into) (row + first) row count need
      → ((c : ℕ) → c < width + height coarse → IsColumnNeed coarse (keeps_column into) row (place + c) need)
      → AreApart coarse row place width need → need < NO_NEED
      → i < row_windows coarse.plan.grid → j < column_windows coarse.plan.grid → row + first ≤ j
      → place + i ≤ j + row → j + row < place + width + i → row ≤ i → i < row + count
      → distance_in coarse.plan.grid i j ≡ Some d → keeps_row into i j d × keeps_column into j i d
  quiet_pair first row count place width need i j d few rows columns apart some iw jw later after before from above is =
      let r = i - row in
      let u = j + row - i - place in
      let c = j - place in
      let rowed : row + r ≡ i = omega (arith, from) in
      let lane : u < width = omega (arith, before, after, from) in
      let placed : place + u + r ≡ j = omega (arith, after, from) in
      let behind : place + c ≡ j = omega (arith, after, from) in
      let here : distance_in coarse.plan.grid (row + r) (place + u + r) ≡ Some d =
      ap (λ n. distance_in coarse.plan.grid n (place + u + r)) rowed ∙ ap (distance_in coarse.plan.grid i) placed
      ∙ is in
      let reach = apart.each r u d (omega (arith, above, few, from)) lane here in
      let row_need = subst (λ n. IsRowNeed coarse (keeps_row into) (row + first) n need) rowed
      (rows.each r (omega (arith, above, from))) in
      let column_need = subst (λ n. IsColumnNeed coarse (keeps_column into) row n need) behind
      (columns c (omega (arith, lane, placed, above, few, from))) in
      (row_need.nothing j d iw later is some reach, column_need.nothing i d jw from is some reach)

  -- a block that is told to be far apart gives nothing
  pub quiet_block : (first end row count g need : ℕ) → least ≤ first → count ≤ height coarse
      → IsRowsNeed coarse (keeps_row into) (row + first) row count need
      → ((c : ℕ) → c < 8 + height coarse → IsColumnNeed coarse (keeps_column into) row (8 * g + c) need)
      → AreApart coarse row (8 * g) 8 need → need < NO_NEED → FitIn fits coarse.plan.grid into
      → AreScannedIn is_scanned coarse.plan.grid (block_pairs first end row count g) into into
  quiet_block first end row count g need far few rows columns apart some there =
      let f = max first (8 * g - row) in
      let e = min end (8 * g + 8 - row) in
      laws.quiet _ _ _ (block_pairs first end row count g) into there
      (λ i j is. omega (arith, far, after_row f e row (row + count) i j is))
      (λ i j d iw jw is at. quiet_pair first row count (8 * g) 8 need i j d few rows columns apart some iw jw
      (omega (arith, after_row f e row (row + count) i j is, from_top f e row (row + count) i j is))
      (omega (arith, after_row f e row (row + count) i j is, from_top f e row (row + count) i j is))
      (omega (arith, before_end f e row (row + count) i j is, after_row f e row (row + count) i j is))
      (from_top f e row (row + count) i j is) (above_bottom f e row (row + count) i j is) at)

  -- the same of its rows on one diagonal
  pub quiet_diagonal : (first row count k need : ℕ) → least ≤ first → first ≤ k → count ≤ height coarse
      → IsRowsNeed coarse (keeps_row into) (row + first) row count need
      → ((c : ℕ) → c < 1 + height coarse → IsColumnNeed coarse (keeps_column into) row (row + k + c) need)
      → AreApart coarse row (row + k) 1 need → need < NO_NEED → FitIn fits coarse.plan.grid into
      → AreScannedIn is_scanned coarse.plan.grid (in_block k (k + 1) row (row + count)) into into
  quiet_diagonal first row count k need far behind few rows columns apart some there =
      let bottom = row + count in
      laws.quiet _ _ _ (in_block k (k + 1) row bottom) into there
      (λ i j is. omega (arith, far, behind, after_row k (k + 1) row bottom i j is))
      (λ i j d iw jw is at. quiet_pair first row count (row + k) 1 need i j d few rows columns apart some iw jw
      (omega (arith, behind, after_row k (k + 1) row bottom i j is, from_top k (k + 1) row bottom i j is))
      (omega (arith, after_row k (k + 1) row bottom i j is))
      (omega (arith, before_end k (k + 1) row bottom i j is))
      (from_top k (k + 1) row bottom i j is) (above_bottom k (k + 1) row bottom i j is) at)

  same_pair : (i j r c dist d : ℕ) → i ≡ r → j ≡ c → distance_in coarse.plan.grid i j ≡ Some dist
      → distance_in coarse.plan.grid r c ≡ Some d → keeps_row into i j dist → keeps_column into j i dist
      → keeps_row into r c d × keeps_column into c r d
  same_pair i j r c dist d e f is found row column =
      let here : distance_in coarse.plan.grid i j ≡ distance_in coarse.plan.grid r c =
      ap (λ n. distance_in coarse.plan.grid n j) e ∙ ap (distance_in coarse.plan.grid r) f in
      let same : dist ≡ d = some_same dist d (sym is ∙ here ∙ found) in (
        subst (λ n. keeps_row into n c d) e (subst (λ n. keeps_row into i n d) f (subst (keeps_row into i j) same row)),
        subst (λ n. keeps_column into n r d) f
            (subst (λ n. keeps_column into j n d) e (subst (keeps_column into j i) same column)),
      )

  -- one pair at a distance that gives neither its row nor its column something
  pub quiet_at : (i j dist : ℕ) → FitIn fits coarse.plan.grid into → i + least ≤ j
      → distance_in coarse.plan.grid i j ≡ Some dist → keeps_row into i j dist → keeps_column into j i dist
      → AreScannedIn is_scanned coarse.plan.grid (only i j) into into
  quiet_at i j dist there apart is row column =
      laws.quiet _ _ _ (only i j) into there
      (λ r c e. omega (arith, row_is i j r c e, column_is i j r c e, apart))
      (λ r c d _ _ e found. same_pair i j r c dist d (row_is i j r c e) (column_is i j r c e) is found row column)

  -- one pair that has a distance, and gives nothing at it
  pub quiet_rounded : (i j : ℕ) → FitIn fits coarse.plan.grid into → i + least ≤ j
      → IsSome (distance_in coarse.plan.grid i j)
      → ((d : ℕ) → distance_in coarse.plan.grid i j ≡ Some d → keeps_row into i j d × keeps_column into j i d)
      → AreScannedIn is_scanned coarse.plan.grid (only i j) into into
  quiet_rounded i j there apart free h =
      let found = some_of (distance_in coarse.plan.grid i j) free in
      let both = h found.0 found.1 in
      quiet_at i j found.0 there apart found.1 both.0 both.1

  -- a row and a column whose sum tells that they reach a need of both
  pub quiet_far : (i j need most sum : ℕ) → FitIn fits coarse.plan.grid into → i + least ≤ j
      → IsRowNeed coarse (keeps_row into) j i need → IsColumnNeed coarse (keeps_column into) i j need
      → IsMost coarse need most → sum ≡ squares_in coarse coarse.plan.grid.m i j → most ≤ sum
      → AreScannedIn is_scanned coarse.plan.grid (only i j) into into
  quiet_far i j need most sum there apart row column is e le =
      laws.quiet _ _ _ (only i j) into there
      (λ r c same. omega (arith, row_is i j r c same, column_is i j r c same, apart))
      (λ r c d rw' cw same found.
      let at : i ≡ r = row_is i j r c same in
      let beside : j ≡ c = column_is i j r c same in
      let here : distance_in coarse.plan.grid i j ≡ Some d =
      ap (λ n. distance_in coarse.plan.grid n j) at ∙ ap (distance_in coarse.plan.grid r) beside ∙ found in
      let small : sum < 2 ^ 63 = sum_has_bits coarse i j sum e in
      let reach = is.far sum d small le (sum_is_least coarse i j d sum e here) in
      let some = is.some sum small le in
      same_pair i j r c d d at beside here found
      (row.nothing j d (omega (arith, at, rw')) (omega arith) here some reach)
      (column.nothing i d (omega (arith, beside, cw)) (omega arith) here some reach))

-- ---- the pairs of a diagonal

pub pair_next : (k row r column i j : ℕ) → column ≡ row + k
    → (in_block k (k + 1) row (row + r) i j || only (row + r) (column + r) i j)
    ≡ in_block k (k + 1) row (row + (r + 1)) i j
pair_next k row r column i j e = grind (arith, nat_tests)

pub diagonal_cut : (k row count less column wb i j : ℕ) → column ≡ row + k → less ≡ min count (wb - column) → j < wb
    → in_block k (k + 1) row (row + less) i j ≡ in_block k (k + 1) row (row + count) i j
diagonal_cut k row count less column wb i j e is lt = grind (arith, nat_tests)

-- ---- groups of a strip, one behind the other

pub groups_next : (first end row bottom group l i j : ℕ)
    → (in_block (max first (8 * group - row)) (min end (8 * (group + l) - row)) row bottom i j
    || in_block (max first (8 * (group + l) - row)) (min end (8 * (group + l) + 8 - row)) row bottom i j)
    ≡ in_block (max first (8 * group - row)) (min end (8 * (group + (l + 1)) - row)) row bottom i j
groups_next first end row bottom group l i j =
    let p = 8 * group - row in
    let q = 8 * (group + l) - row in
    let e : 8 * (group + l) + 8 - row ≡ 8 * (group + (l + 1)) - row = omega arith in
    let f : max first q ≡ max (max first p) q = omega arith in
    ap (λ n. in_block (max first p) (min end q) row bottom i j
    || in_block n (min end (8 * (group + l) + 8 - row)) row bottom i j) f
    ∙ blocks_next (max first p) end q (8 * (group + l) + 8 - row) row bottom i j (omega arith)
    ∙ ap (λ n. in_block (max first p) (min end n) row bottom i j) e

pub strip_next : (first end row bottom group next i j : ℕ) → group ≤ next
    → (in_block first (min end (8 * group - row)) row bottom i j
    || in_block (max first (8 * group - row)) (min end (8 * next - row)) row bottom i j)
    ≡ in_block first (min end (8 * next - row)) row bottom i j
strip_next first end row bottom group next i j le =
    blocks_next first end (8 * group - row) (8 * next - row) row bottom i j (omega (arith, le))

module _ {Into : Type 0} {least : ℕ} {fits : ℕ → Series → Series → Into → Type 0} {may : Into → ℕ → ℕ → ℕ → Type 0}
    {is_scanned : ℕ → Series → Series → (ℕ → ℕ → Bool) → Into → Into → Type 0}
    (laws : IsOffering least fits may is_scanned) (coarse : Coarse) (into : Into)
    (there : FitIn fits coarse.plan.grid into) where
  -- if each of them gives nothing, then they all do
  pub groups_quiet : (first end row count group n : ℕ)
      → ((l : ℕ) → l < n → AreScannedIn is_scanned coarse.plan.grid (block_pairs first end row count (group + l)) into
      into)
      → AreScannedIn is_scanned coarse.plan.grid
      (in_block (max first (8 * group - row)) (min end (8 * (group + n) - row)) row (row + count)) into into
  groups_quiet first end row count group zero h =
      laws.none _ _ _ _ into there
      (λ i j. no_pairs (max first (8 * group - row)) (min end (8 * (group + 0) - row)) row (row + count) i j
      (inl (omega arith)))
  groups_quiet first end row count group (suc n) h =
      let e : n + 1 ≡ suc n = omega arith in
      subst (λ l. AreScannedIn is_scanned coarse.plan.grid
      (in_block (max first (8 * group - row)) (min end (8 * (group + l) - row)) row (row + count)) into into) e
      (scanned_next laws coarse.plan.grid
      (in_block (max first (8 * group - row)) (min end (8 * (group + n) - row)) row (row + count))
      (block_pairs first end row count (group + n))
      (in_block (max first (8 * group - row)) (min end (8 * (group + (n + 1)) - row)) row (row + count)) into into into
      there (groups_quiet first end row count group n (λ l lt. h l (omega (arith, lt)))) (h n (omega arith))
      (λ i j _ _. groups_next first end row (row + count) group n i j))

pub group_needs_later : (coarse : Coarse) (keeps : ℕ → ℕ → ℕ → Type 0) (first later group n : ℕ)
    (needs : List ℕ) → first ≤ later → AreGroupNeeds coarse keeps first group n needs
    → AreGroupNeeds coarse keeps later group n needs
group_needs_later coarse keeps first later group n needs le h = record {
  each = λ g c gn lt.
      column_need_later coarse keeps first later (8 * (group + g) + c) (number_in needs g) le (h.each g c gn lt);
}

-- what a column of a group's blocks needs
pub group_column_need : (coarse : Coarse) (keeps : ℕ → ℕ → ℕ → Type 0) (first base group n : ℕ) (needs : List ℕ)
    (more c : ℕ) → AreGroupNeeds coarse keeps first base n needs → base ≤ group → group < base + n
    → number_in needs (group - base) ≤ more → c < 8 + height coarse
    → IsColumnNeed coarse keeps first (8 * group + c) more
group_column_need coarse keeps first base group n needs more c h after before le few =
    let e : base + (group - base) ≡ group = omega (arith, after) in
    subst (λ q. IsColumnNeed coarse keeps first (8 * q + c) more) e
    (column_need_more coarse keeps first (8 * (base + (group - base)) + c) (number_in needs (group - base)) more le
    (h.each (group - base) c (omega (arith, after, before)) few))

-- ---- the needs of a strip

pub strip_row_need : (coarse : Coarse) (keeps_row keeps_column : ℕ → ℕ → ℕ → Type 0) (first row n base need : ℕ)
    (needs : List ℕ) (more : ℕ) → AreStripNeeds coarse keeps_row keeps_column first row n base need needs → need ≤ more
    → IsRowsNeed coarse keeps_row (row + first) row n more
strip_row_need coarse keeps_row keeps_column first row n base need needs more h le =
    rows_need_more coarse keeps_row (row + first) row n need more le h.rows

pub strip_column_need : (coarse : Coarse) (keeps_row keeps_column : ℕ → ℕ → ℕ → Type 0)
    (first row n base need : ℕ) (needs : List ℕ) (group more c : ℕ)
    → AreStripNeeds coarse keeps_row keeps_column first row n base need needs → base ≤ group
    → group < base + length needs → number_in needs (group - base) ≤ more → c < 8 + height coarse
    → IsColumnNeed coarse keeps_column row (8 * group + c) more
strip_column_need coarse keeps_row keeps_column first row n base need needs group more c h after before le few =
    group_column_need coarse keeps_column row base group (length needs) needs more c h.columns after before le few

module _ {Into : Type 0} {least : ℕ} {fits : ℕ → Series → Series → Into → Type 0}
    {is_scanned : ℕ → Series → Series → (ℕ → ℕ → Bool) → Into → Into → Type 0}
    {keeps_row keeps_column : Into → ℕ → ℕ → ℕ → Type 0}
    (laws : IsLimiting least fits is_scanned keeps_row keeps_column) (coarse : Coarse) (pairs : ℕ → ℕ → Bool)
    (old new : Into) (there : FitIn fits coarse.plan.grid old)
    (done : AreScannedIn is_scanned coarse.plan.grid pairs old new) where
  pub strip_needs_stay : (first row n base need : ℕ) (needs : List ℕ)
      → AreStripNeeds coarse (keeps_row old) (keeps_column old) first row n base need needs
      → AreStripNeeds coarse (keeps_row new) (keeps_column new) first row n base need needs
  strip_needs_stay first row n base need needs h = record {
    rows = rows_need_stays laws coarse pairs old new there done (row + first) row n need h.rows;
    columns = group_needs_stay laws coarse pairs old new there done row base (length needs) needs h.columns;
    small_rows = h.small_rows;
    small_columns = h.small_columns;
  }
