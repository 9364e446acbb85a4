-- From which coarse sum on a pair gives nothing.
use Rattle.std.proofs.Common.{◌≡◌, ℕ, ◌+◌, ◌*◌, ◌/◌, ◌^◌, ◌<◌, ◌≤◌, inl, inr, List, length, set, Bool, true, false}
use Rattle.std.proofs.Common.{refl, sym, ap, ◌∙◌, arith}
use Rattle.std.proofs.Common.{subst}
use Rattle.std.specs.Prelude.{Option, Some, None, IsSome, IsTrue, slice_index_or, ◌&&◌, ◌↔◌}
use Rattle.std.proofs.Math.Nat.{mul_left_comm, add-mul}
use Rattle.std.proofs.lemmas.Nat.{mul-le, pow-add, div-add-mod', mod_below}
use Rattle.std.proofs.lemmas.List.{get_or-set_same, get_or-set_other}
use Rattle.std.proofs.lemmas.Bool.{cases_lt, cases_eq}
use Rattle.mp_defs.specs.Series.{Series, series_of}
use Rattle.mp_defs.specs.Window.{is_free}
use Rattle.mp_defs.specs.DistanceLaws.{of_free_windows}
use Rattle.mp_sums.specs.declared.distances.Grid.{Grid}
use Rattle.mp_sums.specs.declared.limits.Limit.{Limit}
use Rattle.mp_sums.specs.Limits.{IsBeyond}
use Rattle.mp_sums.specs.Grids.{distance_in}
use Rattle.mp_scans.specs.Offering.{IsLimiting}
use Rattle.mp_scans.specs.Windows.{row_windows, column_windows, FitIn, AreScannedIn}
use Rattle.mp_skips.specs.declared.sums.Coarse.{Coarse}
use Rattle.mp_skips.specs.declared.sums.TheConstants.{NO_NEED}
use Rattle.mp_skips.specs.Sums.{number_in}
use Rattle.mp_skips.proofs.SideLemmas.{row_marks, column_marks, row_places, column_places}
use Rattle.mp_skips.specs.Blocks.{Reaches, height}
use Rattle.mp_skips.specs.Needs.{IsNeedOf, IsRowNeed, IsColumnNeed, IsRowsNeed, AreColumnNeeds}
use Rattle.mp_skips.specs.Needs.{AreGreatest, AreGroupNeeds}

pub above_by : (k square dist d need : ℕ) → k * dist < need * square → need * square ≤ k * d → dist < d
above_by k square dist d need lt le = elim (cases_lt dist d) [
  | inl less ↦ less
  | inr more ↦ absurd (omega (arith, lt, le, mul-le k d k dist (omega arith) more))
]

pub units_above : (z by square : ℕ) → by ≡ square → 1 ≤ square → z < (z / by + 1) * square
units_above z by square e some =
    subst (λ n. z < (z / n + 1) * square) (sym e)
    (omega (arith, div-add-mod' z square, mod_below z square some, add-mul (z / square) 1 square))

pub product_fits : (eights dist : ℕ) → eights ≤ 8 → dist < 2 ^ 120 → 8 * eights * dist < 2 ^ 127
product_fits eights dist few lt =
    omega (arith, mul-le (8 * eights) dist 64 (2 ^ 120) (omega (arith, few)) (omega (arith, lt)))

pub some_square : (grain : ℕ) → 1 ≤ grain → 1 ≤ grain * grain
some_square grain some = omega (arith, mul-le 1 1 grain grain some some)

-- the square of a power of two
pub square_of_power : (size shift : ℕ) → size ≡ 2 ^ shift → 2 ^ (2 * shift) ≡ size * size
square_of_power size shift is =
    let e : 2 * shift ≡ shift + shift = omega arith in
    ap (λ n. 2 ^ n) e ∙ pow-add 2 shift shift ∙ sym (ap (λ n. size * n) is ∙ ap (λ n. n * 2 ^ shift) is)

pub most_reaches : (coarse : Coarse) (need sum d square steps : ℕ)
    → square ≡ coarse.rows.units.grain.size * coarse.rows.units.grain.size
    → steps ≡ coarse.rows.units.step.size * coarse.rows.units.step.size → 1 ≤ steps
    → need * square / (height coarse * steps) + 1 ≤ sum
    → sum * (coarse.rows.units.step.size * coarse.rows.units.step.size) ≤ d → Reaches coarse need d
most_reaches coarse need sum d square steps is are some le below =
    let k = height coarse in
    let q = need * square / (k * steps) + 1 in
    let whole : 1 ≤ k * steps = omega (arith, mul-le 1 1 k steps (omega (arith, coarse.rows.units.some)) some) in
    let units : need * square < q * (k * steps) = units_above (need * square) (k * steps) (k * steps) refl whole in
    let turn : q * (k * steps) ≡ k * (q * steps) = mul_left_comm q k steps in
    let squares : q * steps ≤ d =
    omega (arith, mul-le q steps sum steps le (omega arith), ap (λ n. sum * n) are, below) in
    let times : k * (q * steps) ≤ k * d = mul-le k (q * steps) k d (omega arith) squares in
    let same : need * square ≡ need * (coarse.rows.units.grain.size * coarse.rows.units.grain.size) =
    ap (λ n. need * n) is in
    omega (arith, units, turn, times, same)

pub need_product : (need from square : ℕ) → need < NO_NEED → from ≡ need → square ≤ 2 ^ 62
    → from * square ≤ 2 ^ 124
need_product need from square lt e small =
    omega (arith, mul-le from square (2 ^ 62) (2 ^ 62) (omega (arith, lt, e)) small)

-- a greater need does too
reaches_less : (coarse : Coarse) (need more d : ℕ) → need ≤ more → Reaches coarse more d → Reaches coarse need d
reaches_less coarse need more d le h =
    omega (
      arith,
      h,
      mul-le need (coarse.rows.units.grain.size * coarse.rows.units.grain.size) more
          (coarse.rows.units.grain.size * coarse.rows.units.grain.size) le (omega arith),
    )

pub row_need_more : (coarse : Coarse) (keeps : ℕ → ℕ → ℕ → Type 0) (first row need more : ℕ) → need ≤ more
    → IsRowNeed coarse keeps first row need → IsRowNeed coarse keeps first row more
row_need_more coarse keeps first row need more le h = record {
  nothing = λ column d there after is some reach.
      h.nothing column d there after is (omega (arith, le, some)) (reaches_less coarse need more d le reach);
}

pub column_need_more : (coarse : Coarse) (keeps : ℕ → ℕ → ℕ → Type 0) (first column need more : ℕ) → need ≤ more
    → IsColumnNeed coarse keeps first column need → IsColumnNeed coarse keeps first column more
column_need_more coarse keeps first column need more le h = record {
  nothing = λ row d there after is some reach.
      h.nothing row d there after is (omega (arith, le, some)) (reaches_less coarse need more d le reach);
}

pub rows_need_more : (coarse : Coarse) (keeps : ℕ → ℕ → ℕ → Type 0) (first row n need more : ℕ) → need ≤ more
    → IsRowsNeed coarse keeps first row n need → IsRowsNeed coarse keeps first row n more
rows_need_more coarse keeps first row n need more le h = record {
  each = λ r lt. row_need_more coarse keeps first (row + r) need more le (h.each r lt);
}

-- rows further down are among those from a first one on
pub column_need_later : (coarse : Coarse) (keeps : ℕ → ℕ → ℕ → Type 0) (first later column need : ℕ) → first ≤ later
    → IsColumnNeed coarse keeps first column need → IsColumnNeed coarse keeps later column need
column_need_later coarse keeps first later column need le h = record {
  nothing = λ row d there after is some reach. h.nothing row d there (omega (arith, le, after)) is some reach;
}

-- and columns further on
pub row_need_later : (coarse : Coarse) (keeps : ℕ → ℕ → ℕ → Type 0) (first later row need : ℕ) → first ≤ later
    → IsRowNeed coarse keeps first row need → IsRowNeed coarse keeps later row need
row_need_later coarse keeps first later row need le h = record {
  nothing = λ column d there after is some reach. h.nothing column d there (omega (arith, le, after)) is some reach;
}

pub rows_need_later : (coarse : Coarse) (keeps : ℕ → ℕ → ℕ → Type 0) (first later row n count need : ℕ)
    → first ≤ later → count ≤ n → IsRowsNeed coarse keeps first row n need
    → IsRowsNeed coarse keeps later row count need
rows_need_later coarse keeps first later row n count need le few h = record {
  each = λ r lt. row_need_later coarse keeps first later (row + r) need le (h.each r (omega (arith, lt, few)));
}

-- a window of which a sample is missing has no distance
no_distance : (grid : Grid) (i j d : ℕ) → distance_in grid i j ≡ Some d
    → (is_free grid.m (series_of grid.rows.now) i ≡ true) × (is_free grid.m (series_of grid.columns.now) j ≡ true)
no_distance grid i j d is =
    (of_free_windows grid.m (series_of grid.rows.now) i (series_of grid.columns.now) j).0 (there _ d is)
  where
    there : (x : Option ℕ) (d : ℕ) → x ≡ Some d → IsSome x
    there None d e = absurd (cc)
    there (Some y) d e = refl

both_true : (s t : Bool) → s ≡ true → t ≡ true → IsTrue (s && t)
both_true s t e f = rw (e, f) refl

both_hold : (s t : Bool) → IsTrue (s && t) → (s ≡ true) × (t ≡ true)
both_hold true t is = (refl, is)
both_hold false t is = absurd (cc)

-- windows without missing samples have a distance
pub both_free : (grid : Grid) (i j : ℕ) (s t : Bool) → s ≡ is_free grid.m (series_of grid.rows.now) i
    → t ≡ is_free grid.m (series_of grid.columns.now) j → IsTrue (s && t) ↔ IsSome (distance_in grid i j)
both_free grid i j s t e f =
    let both = of_free_windows grid.m (series_of grid.rows.now) i (series_of grid.columns.now) j in (
      λ is. let h = both_hold s t is in both.1 (sym e ∙ h.0, sym f ∙ h.1),
      λ is. let h = both.0 is in both_true s t (e ∙ h.0) (f ∙ h.1),
    )

-- a number that is the distance where there is one
pub free_sum : (x : Option ℕ) (sum : ℕ) → IsSome x → ((d : ℕ) → x ≡ Some d → sum ≡ d) → x ≡ Some sum
free_sum None sum is h = absurd (cc)
free_sum (Some d) sum is h = ap Some (sym (h d refl))

pub none_there : (b : Bool) (x : Option ℕ) → b ≡ false → (IsTrue b ↔ IsSome x) → x ≡ None
none_there b None e h = refl
none_there b (Some d) e h = let is : IsTrue b = h.1 refl in absurd (cc)

both_ways : (b : Bool) → b ≡ true → b ≡ false → ⊥
both_ways b e f = cc

pub no_row : (coarse : Coarse) (keeps : ℕ → ℕ → ℕ → Type 0) (first row need : ℕ)
    → is_free coarse.plan.grid.m (series_of coarse.plan.grid.rows.now) row ≡ false
    → IsRowNeed coarse keeps first row need
no_row coarse keeps first row need gap = record {
  nothing = λ column d _ _ is _ _. absurd (both_ways _ (no_distance coarse.plan.grid row column d is).0 gap);
}

pub no_column : (coarse : Coarse) (keeps : ℕ → ℕ → ℕ → Type 0) (first column need : ℕ)
    → (column < column_windows coarse.plan.grid
    → is_free coarse.plan.grid.m (series_of coarse.plan.grid.columns.now) column ≡ false)
    → IsColumnNeed coarse keeps first column need
no_column coarse keeps first column need gap = record {
  nothing = λ row d there _ is _ _.
      absurd (both_ways _ (no_distance coarse.plan.grid row column d is).1 (gap there));
}

-- the mark of a row, and of a column
pub row_marked : (coarse : Coarse) (row : ℕ) → row < row_windows coarse.plan.grid
    → slice_index_or coarse.rows.free.now row false
    ≡ is_free coarse.plan.grid.m (series_of coarse.plan.grid.rows.now) row
row_marked coarse row lt =
    let e : 0 + row ≡ row = omega arith in
    (row_marks coarse).each row (omega (arith, lt, row_places coarse))
    ∙ ap (is_free coarse.plan.grid.m (series_of coarse.plan.grid.rows.now)) e

pub column_marked : (coarse : Coarse) (column : ℕ) → column < column_windows coarse.plan.grid
    → slice_index_or coarse.columns.free.now column false
    ≡ is_free coarse.plan.grid.m (series_of coarse.plan.grid.columns.now) column
column_marked coarse column lt =
    let e : 0 + column ≡ column = omega arith in
    (column_marks coarse).each column (omega (arith, lt, column_places coarse))
    ∙ ap (is_free coarse.plan.grid.m (series_of coarse.plan.grid.columns.now)) e

pub row_there : (coarse : Coarse) (row : ℕ) → row < row_windows coarse.plan.grid → row < length coarse.rows.free.now
row_there coarse row lt = omega (arith, lt, row_places coarse)

pub column_there : (coarse : Coarse) (column : ℕ) → column < column_windows coarse.plan.grid
    → column < length coarse.columns.free.now
column_there coarse column lt = omega (arith, lt, column_places coarse)

pub row_told : (coarse : Coarse) (keeps : ℕ → ℕ → ℕ → Type 0) (first row need : ℕ) (limit : Limit)
    → IsNeedOf coarse limit need
    → ((column d : ℕ) → first ≤ column → IsBeyond limit d → keeps row column d)
    → IsRowNeed coarse keeps first row need
row_told coarse keeps first row need limit h tell = record {
  nothing = λ column d _ after _ some reach. tell column d after (h.beyond d some reach);
}

pub column_told : (coarse : Coarse) (keeps : ℕ → ℕ → ℕ → Type 0) (first column need : ℕ) (limit : Limit)
    → IsNeedOf coarse limit need
    → ((row d : ℕ) → first ≤ row → IsBeyond limit d → keeps column row d)
    → IsColumnNeed coarse keeps first column need
column_told coarse keeps first column need limit h tell = record {
  nothing = λ row d _ after _ some reach. tell row d after (h.beyond d some reach);
}

-- ---- needs of several rows and columns

below_it : (q p : ℕ) → q < p + 1 → (q ≡ p → ⊥) → q < p
below_it q p less n = elim (cases_lt q p) [ inl lt ↦ lt | inr le ↦ absurd (n (omega arith)) ]

pub rows_need_next : (coarse : Coarse) (keeps : ℕ → ℕ → ℕ → Type 0) (first row n need one more : ℕ)
    → IsRowsNeed coarse keeps first row n need → IsRowNeed coarse keeps first (row + n) one → need ≤ more
    → one ≤ more → IsRowsNeed coarse keeps first row (n + 1) more
rows_need_next coarse keeps first row n need one more h here le le' = record {
  each = λ r lt. elim (cases_eq r n) [
    | inl e ↦ subst (λ q. IsRowNeed coarse keeps first (row + q) more) (sym e)
        (row_need_more coarse keeps first (row + n) one more le' here)
    | inr other ↦ row_need_more coarse keeps first (row + r) need more le (h.each r (below_it r n lt other))
  ];
}

pub column_needs_next : (coarse : Coarse) (keeps : ℕ → ℕ → ℕ → Type 0) (first column n : ℕ) (needs : List ℕ)
    (need : ℕ) → AreColumnNeeds coarse keeps first column n needs
    → IsColumnNeed coarse keeps first (column + n) need → n < length needs
    → AreColumnNeeds coarse keeps first column (n + 1) (set needs n need)
column_needs_next coarse keeps first column n needs need h here lt = record {
  each = λ c less. elim (cases_eq c n) [
    | inl e ↦ subst (λ q. IsColumnNeed coarse keeps first (column + q) (number_in (set needs n need) q)) (sym e)
        (subst (IsColumnNeed coarse keeps first (column + n)) (sym (get_or-set_same needs n need 0 lt)) here)
    | inr other ↦ subst (IsColumnNeed coarse keeps first (column + c)) (sym (get_or-set_other needs n c need 0 other))
        (h.each c (below_it c n less other))
  ];
}

pub greatest_next : (numbers : List ℕ) (more n : ℕ) (greatest : List ℕ) (number : ℕ)
    → AreGreatest numbers more n greatest
    → ((c : ℕ) → c < 8 + more → number_in numbers (8 * n + c) ≤ number) → n < length greatest
    → AreGreatest numbers more (n + 1) (set greatest n number)
greatest_next numbers more n greatest number h here lt = record {
  each = λ g c less few. elim (cases_eq g n) [
    | inl e ↦ subst (λ q. number_in numbers (8 * q + c) ≤ number_in (set greatest n number) q) (sym e)
        (omega (arith, get_or-set_same greatest n number 0 lt, here c few))
    | inr other ↦ omega (arith, get_or-set_other greatest n g number 0 other, h.each g c (below_it g n less other) few)
  ];
}

pub group_needs_are : (coarse : Coarse) (keeps : ℕ → ℕ → ℕ → Type 0) (first group n all : ℕ) (columns needs : List ℕ)
    → AreColumnNeeds coarse keeps first (8 * group) all columns → AreGreatest columns (height coarse) n needs
    → 8 * n + height coarse ≤ all → AreGroupNeeds coarse keeps first group n needs
group_needs_are coarse keeps first group n all columns needs h greatest room = record {
  each = λ g c lt few.
      let e : 8 * group + (8 * g + c) ≡ 8 * (group + g) + c = omega arith in
      subst (λ q. IsColumnNeed coarse keeps first q (number_in needs g)) e
      (column_need_more coarse keeps first (8 * group + (8 * g + c)) (number_in columns (8 * g + c))
      (number_in needs g) (greatest.each g c lt few) (h.each (8 * g + c) (omega (arith, lt, few, room))));
}

-- ---- needs that none reaches are lowered

pub lowered_next : (needs first : List ℕ) (g need : ℕ)
    → ((k : ℕ) → number_in needs k < NO_NEED → number_in needs k ≡ number_in first k)
    → (need < NO_NEED → need ≡ number_in needs g) → g < length needs
    → (k : ℕ) → number_in (set needs g need) k < NO_NEED → number_in (set needs g need) k ≡ number_in first k
lowered_next needs first g need h here lt k small = elim (cases_eq k g) [
  | inl e ↦
      let is : number_in (set needs g need) k ≡ need =
      ap (number_in (set needs g need)) e ∙ get_or-set_same needs g need 0 lt in
      let less : need < NO_NEED = omega (arith, is, small) in
      let before : need ≡ number_in needs k = here less ∙ ap (number_in needs) (sym e) in
      is ∙ before ∙ h k (omega (arith, before, less))
  | inr other ↦
      let is : number_in (set needs g need) k ≡ number_in needs k = get_or-set_other needs g k need 0 other in
      is ∙ h k (omega (arith, is, small))
]

pub rows_need_lowered : (coarse : Coarse) (keeps : ℕ → ℕ → ℕ → Type 0) (first row n need lower : ℕ)
    → (lower < NO_NEED → lower ≡ need) → IsRowsNeed coarse keeps first row n need
    → IsRowsNeed coarse keeps first row n lower
rows_need_lowered coarse keeps first row n need lower same h = record {
  each = λ r lt. record {
    nothing = λ column d there after is some reach.
        (h.each r lt).nothing column d there after is (omega (arith, same some, some))
        (subst (λ k. Reaches coarse k d) (same some) reach);
  };
}

pub group_needs_lowered : (coarse : Coarse) (keeps : ℕ → ℕ → ℕ → Type 0) (first group n : ℕ) (needs lower : List ℕ)
    → ((g : ℕ) → number_in lower g < NO_NEED → number_in lower g ≡ number_in needs g)
    → AreGroupNeeds coarse keeps first group n needs → AreGroupNeeds coarse keeps first group n lower
group_needs_lowered coarse keeps first group n needs lower same h = record {
  each = λ g c gn lt. record {
    nothing = λ row d there after is some reach.
        (h.each g c gn lt).nothing row d there after is (omega (arith, same g some, some))
        (subst (λ k. Reaches coarse k d) (same g some) reach);
  };
}

-- ---- needs stay, whatever is offered

module _ {Into : Type 0} {least : ℕ} {fits : ℕ → Series → Series → Into → Type 0}
    {is_scanned : ℕ → Series → Series → (ℕ → ℕ → Bool) → Into → Into → Type 0}
    {keeps_row keeps_column : Into → ℕ → ℕ → ℕ → Type 0}
    (laws : IsLimiting least fits is_scanned keeps_row keeps_column) (coarse : Coarse) (pairs : ℕ → ℕ → Bool)
    (old new : Into) (there : FitIn fits coarse.plan.grid old)
    (done : AreScannedIn is_scanned coarse.plan.grid pairs old new) where
  pub row_need_stays : (first row need : ℕ) → IsRowNeed coarse (keeps_row old) first row need
      → IsRowNeed coarse (keeps_row new) first row need
  row_need_stays first row need h = record {
    nothing = λ column d within after is some reach.
        laws.row_stays _ _ _ pairs old new there done row column d within
        (h.nothing column d within after is some reach);
  }

  pub column_need_stays : (first column need : ℕ) → IsColumnNeed coarse (keeps_column old) first column need
      → IsColumnNeed coarse (keeps_column new) first column need
  column_need_stays first column need h = record {
    nothing = λ row d within after is some reach.
        laws.column_stays _ _ _ pairs old new there done column row d within
        (h.nothing row d within after is some reach);
  }

  pub rows_need_stays : (first row n need : ℕ) → IsRowsNeed coarse (keeps_row old) first row n need
      → IsRowsNeed coarse (keeps_row new) first row n need
  rows_need_stays first row n need h = record { each = λ r lt. row_need_stays first (row + r) need (h.each r lt) }

  pub group_needs_stay : (first group n : ℕ) (needs : List ℕ)
      → AreGroupNeeds coarse (keeps_column old) first group n needs
      → AreGroupNeeds coarse (keeps_column new) first group n needs
  group_needs_stay first group n needs h = record {
    each = λ g c gn lt. column_need_stays first (8 * (group + g) + c) (number_in needs g) (h.each g c gn lt);
  }
