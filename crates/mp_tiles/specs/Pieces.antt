-- Tiles as the pieces of a kernel.
use Rattle.std.proofs.Common.{◌≡◌, ◌+◌, ◌-◌, ℕ, zero, suc, List, ◌∷◌, [], length, Bool, refl, sym, ◌∙◌, arith}
use Rattle.std.specs.Prelude.{All, slice_index_or}
use Rattle.mp_nums.specs.declared.samples.Sample.{Sample}
use Rattle.mp_defs.specs.Series.{series_of}
use Rattle.mp_defs.specs.Window.{windows, excl}
use Rattle.mp_defs.specs.Profile.{Columns, matrix_profile, windows_of, nearest, nearest_column, ab_join}
use Rattle.mp_defs.specs.Profile.{left_entry, right_entry}
use Rattle.mp_defs.specs.SeriesLaws.{series_are_of_samples}
use Rattle.mp_defs.specs.ColumnLaws.{columns_have_places}
use Rattle.mp_partial.specs.Values.{Column, Value, HasColumns, merged_columns, empty_columns, merged_below}
use Rattle.mp_partial.specs.Profiled.{Profiled}
use Rattle.mp_cuts.specs.declared.cuts.Tile.{Tile}
use Rattle.mp_cuts.specs.Pairs.{has_pair, IsTileBetween, no_tile}
use Rattle.mp_cuts.specs.Cutting.{diagonals_between}
use Rattle.mp_scans.specs.declared.plans.Plan.{Plan}
use Rattle.mp_tiles.specs.Among.{either_way, profile_among}
use Rattle.mp_tiles.specs.Scanning.{HasPlaces}

-- ---- of one series

-- what is seen of the kernel: the samples, the length of a window, and the tiles
pub record OwnTiling : Type 0 where
  pub samples : List Sample
  pub m : ℕ
  pub tiles : List Tile

-- what its fields keep to
pub record IsOwnTiling (plan : Plan) (tiles : List Tile) : Type 0 where
  pub same : plan.grid.columns.now ≡ plan.grid.rows.now
  pub each : All (IsTileBetween (excl plan.grid.m + 1) (windows (length plan.grid.rows.now) plan.grid.m)
      (windows (length plan.grid.rows.now) plan.grid.m)) tiles

-- the number of windows
abbrev pub own_size : OwnTiling → ℕ
own_size own = windows (length own.samples) own.m

-- the nearest windows on both sides, as the value of a part
abbrev pub sides_value : Columns → Value
sides_value c = c.left ∷ c.right ∷ []

-- the value of piece k: both sides of the profile of the pairs of tile k
abbrev pub own_value : OwnTiling → ℕ → Value
own_value own k =
    sides_value (profile_among (has_pair 0 (slice_index_or own.tiles k no_tile)) own.m (series_of own.samples))

-- the values of all pieces together
abbrev pub own_together : OwnTiling → Value
own_together own = merged_below merged_columns (empty_columns 2 (own_size own)) (own_value own) (length own.tiles)

-- the values of all pairs of windows together
abbrev pub own_whole : OwnTiling → Value
own_whole own = sides_value (matrix_profile own.m (series_of own.samples))

-- ---- of two series

-- what is seen of the kernel: the samples of both, the length of a window, and the tiles
pub record JoinTiling : Type 0 where
  pub a : List Sample
  pub b : List Sample
  pub m : ℕ
  pub tiles : List Tile

-- what its fields keep to
pub record IsJoinTiling (plan : Plan) (tiles : List Tile) : Type 0 where
  pub each : All (IsTileBetween 0 (diagonals_between (windows (length plan.grid.rows.now) plan.grid.m)
      (windows (length plan.grid.columns.now) plan.grid.m)) (windows (length plan.grid.rows.now) plan.grid.m)) tiles

-- the number of windows of a
abbrev pub join_size : JoinTiling → ℕ
join_size join = windows (length join.a) join.m

-- the value of piece k: for each window of a the nearest of those of b that make a pair of tile k with it
abbrev pub join_value : JoinTiling → ℕ → Value
join_value join k =
    nearest_column (has_pair (join_size join - 1) (slice_index_or join.tiles k no_tile)) join.m (series_of join.a)
    (series_of join.b) ∷ []

-- the values of all pieces together
abbrev pub join_together : JoinTiling → Value
join_together join =
    merged_below merged_columns (empty_columns 1 (join_size join)) (join_value join) (length join.tiles)

-- the values of all pairs of windows together
abbrev pub join_whole : JoinTiling → Value
join_whole join = ab_join join.m (series_of join.a) (series_of join.b) ∷ []

-- ---- values have the places of the series

all_three : (P : Column → Type 0) (a b c : Column) → P a → P b → P c → All P (a ∷ b ∷ c ∷ [])
all_three P a b c p q r zero d lt = p
all_three P a b c p q r (suc zero) d lt = q
all_three P a b c p q r (suc (suc zero)) d lt = r
all_three P a b c p q r (suc (suc (suc k))) d lt = absurd (omega (arith, lt))

pub profile_has_columns : (w : ℕ) (p : Profiled) → HasPlaces w p
    → HasColumns 3 (length p.all) (p.all ∷ p.left ∷ p.right ∷ [])
profile_has_columns w p h = record {
  columns = refl;
  places = all_three (λ column. length column ≡ length p.all) p.all p.left p.right refl (h.sides.left ∙ sym h.all)
      (h.sides.right ∙ sym h.all);
}

all_two : (P : Column → Type 0) (a b : Column) → P a → P b → All P (a ∷ b ∷ [])
all_two P a b p q zero d lt = p
all_two P a b p q (suc zero) d lt = q
all_two P a b p q (suc (suc k)) d lt = absurd (omega (arith, lt))

pub two_columns : (w : ℕ) (a b : Column) → length a ≡ w → length b ≡ w → HasColumns 2 w (a ∷ b ∷ [])
two_columns w a b l r = record {
  columns = refl;
  places = all_two (λ column. length column ≡ w) a b l r;
}

pub sides_have_columns : (pairs : ℕ → ℕ → Bool) (m : ℕ) (samples : List Sample)
    → HasColumns 2 (windows (length samples) m) (sides_value (profile_among pairs m (series_of samples)))
sides_have_columns pairs m samples =
    let a = series_of samples in
    let same = series_are_of_samples.windows_are m samples in
    let p = profile_among pairs m a in
    two_columns (windows (length samples) m) p.left p.right
    (columns_have_places.count (left_entry (either_way pairs) m a) (windows_of m a) ∙ same)
    (columns_have_places.count (right_entry (either_way pairs) m a) (windows_of m a) ∙ same)

all_one : (P : Column → Type 0) (a : Column) → P a → All P (a ∷ [])
all_one P a p zero d lt = p
all_one P a p (suc k) d lt = absurd (omega (arith, lt))

pub one_column : (w : ℕ) (a : Column) → length a ≡ w → HasColumns 1 w (a ∷ [])
one_column w a l = record {
  columns = refl;
  places = all_one (λ column. length column ≡ w) a l;
}

pub column_has_places : (pairs : ℕ → ℕ → Bool) (m : ℕ) (a b : List Sample)
    → HasColumns 1 (windows (length a) m) (nearest_column pairs m (series_of a) (series_of b) ∷ [])
column_has_places pairs m a b = record {
  columns = refl;
  places = all_one (λ column. length column ≡ windows (length a) m)
      (nearest_column pairs m (series_of a) (series_of b))
      (columns_have_places.count (λ i. nearest m (pairs i) (series_of a) i (series_of b)) (windows_of m (series_of a))
      ∙ series_are_of_samples.windows_are m a);
}
