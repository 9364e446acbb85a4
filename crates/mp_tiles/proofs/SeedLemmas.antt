-- Pairs that are offered ahead of all others leave the whole profile as it is.
use Rattle.std.proofs.Common.{◌≡◌, ℕ, ◌+◌, ◌<◌, List, [], ◌∷◌, ◌++◌, length, Bool, true, false, refl, sym, ap, ◌∙◌, arith}
use Rattle.std.specs.Prelude.{◌&&◌, ◌||◌, ◌==◌, nat_lt}
use Rattle.std.specs.List.{range_with_len}
use Rattle.std.specs.Int.{abs_diff}
use Rattle.std.proofs.lemmas.Bool.Decides.{nat_tests}
use Rattle.mp_nums.specs.declared.samples.Sample.{Sample}
use Rattle.mp_defs.specs.Series.{Series, series_of}
use Rattle.mp_defs.specs.SeriesLaws.{series_are_of_samples}
use Rattle.mp_defs.specs.Window.{is_allowed, windows}
use Rattle.mp_defs.specs.Profile.{matrix_profile, windows_of, left_entry, right_entry}
use Rattle.mp_defs.specs.ColumnLaws.{columns_by_choice, columns_have_places}
use Rattle.mp_partial.specs.Values.{Value, HasColumns, merged_column, merged_columns, merged_below, empty_columns}
use Rattle.mp_partial.specs.Together.{has_piece}
use Rattle.mp_partial.specs.TogetherLaws.{merges_by_pieces, pieces_of_lists}
use Rattle.mp_partial.specs.MergeLaws.{columns_merge}
use Rattle.mp_cuts.specs.declared.cuts.Tile.{Tile}
use Rattle.mp_scans.specs.Offering.{in_block}
use Rattle.mp_tiles.specs.Among.{either_way, profile_among}
use Rattle.mp_tiles.specs.Sides.{Sided}
use Rattle.mp_tiles.specs.Scanning.{AreSided}
use Rattle.mp_tiles.specs.Pieces.{OwnTiling, own_together, sides_value, two_columns}

-- all rows and the columns behind them outside a zone
pub all_pairs : (e w i j : ℕ) → i < w → j < w → either_way (in_block (e + 1) w 0 w) i j ≡ nat_lt e (abs_diff i j)
all_pairs e w i j lt lt' = grind (arith, nat_tests)

-- the columns of some pairs, where these are all that may be compared
abbrev AreAllowed : (ℕ → ℕ → Bool) → ℕ → Series → Type 0
AreAllowed pairs m a =
    (i j : ℕ) → i < windows_of m a → j < windows_of m a → either_way pairs i j ≡ is_allowed m i j

left_of_all : (pairs : ℕ → ℕ → Bool) (m : ℕ) (a : Series) → AreAllowed pairs m a
    → (profile_among pairs m a).left ≡ (matrix_profile m a).left
left_of_all pairs m a same =
    columns_by_choice.same m (λ i j. either_way pairs i j && nat_lt j i) (λ i j. is_allowed m i j && nat_lt j i) a a
    (λ i j lt lt'. ap (λ t. t && nat_lt j i) (same i j lt lt'))

right_of_all : (pairs : ℕ → ℕ → Bool) (m : ℕ) (a : Series) → AreAllowed pairs m a
    → (profile_among pairs m a).right ≡ (matrix_profile m a).right
right_of_all pairs m a same =
    columns_by_choice.same m (λ i j. either_way pairs i j && nat_lt i j) (λ i j. is_allowed m i j && nat_lt i j) a a
    (λ i j lt lt'. ap (λ t. t && nat_lt i j) (same i j lt lt'))

-- both sides with what these pairs give
abbrev with_pairs : (ℕ → ℕ → Bool) → ℕ → Series → Sided → Sided
with_pairs pairs m a s = record {
  left = merged_column s.left (profile_among pairs m a).left;
  right = merged_column s.right (profile_among pairs m a).right;
  room = s.room;
}

-- what all pairs make of the new sides they make of the old ones too
abbrev pub AreAhead : (ℕ → ℕ → Bool) → ℕ → Series → Sided → Sided → Type 0
AreAhead pairs m a old new = (after : Sided) → AreSided pairs m a new after → AreSided pairs m a old after

taken_then : (pairs : ℕ → ℕ → Bool) (m : ℕ) (a : Series) (old new : Sided) → AreAhead pairs m a old new
    → AreSided pairs m a old (with_pairs pairs m a new)
taken_then pairs m a old new h =
    h (with_pairs pairs m a new) (record { left = refl; right = refl; room = refl })

pub ahead_left : (pairs : ℕ → ℕ → Bool) (m : ℕ) (a : Series) (old new : Sided) → AreAhead pairs m a old new
    → AreAllowed pairs m a
    → merged_column new.left (matrix_profile m a).left ≡ merged_column old.left (matrix_profile m a).left
ahead_left pairs m a old new h same =
    ap (merged_column new.left) (sym (left_of_all pairs m a same)) ∙ (taken_then pairs m a old new h).left
    ∙ ap (merged_column old.left) (left_of_all pairs m a same)

pub ahead_right : (pairs : ℕ → ℕ → Bool) (m : ℕ) (a : Series) (old new : Sided) → AreAhead pairs m a old new
    → AreAllowed pairs m a
    → merged_column new.right (matrix_profile m a).right ≡ merged_column old.right (matrix_profile m a).right
ahead_right pairs m a old new h same =
    ap (merged_column new.right) (sym (right_of_all pairs m a same)) ∙ (taken_then pairs m a old new h).right
    ∙ ap (merged_column old.right) (right_of_all pairs m a same)

pub ahead_room : (pairs : ℕ → ℕ → Bool) (m : ℕ) (a : Series) (old new : Sided) → AreAhead pairs m a old new
    → new.room ≡ old.room
ahead_room pairs m a old new h = (taken_then pairs m a old new h).room

-- ---- sides that begin with nothing

pub profile_has_places : (m : ℕ) (samples : List Sample)
    → HasColumns 2 (windows (length samples) m) (sides_value (matrix_profile m (series_of samples)))
profile_has_places m samples =
    let a = series_of samples in
    let same = series_are_of_samples.windows_are m samples in
    let p = matrix_profile m a in
    two_columns (windows (length samples) m) p.left p.right
    (columns_have_places.count (left_entry (is_allowed m) m a) (windows_of m a) ∙ same)
    (columns_have_places.count (right_entry (is_allowed m) m a) (windows_of m a) ∙ same)

-- the same tiles of the same series have the same values together
pub same_together : (a b : OwnTiling) → a.samples ≡ b.samples → a.m ≡ b.m → a.tiles ≡ b.tiles
    → own_together a ≡ own_together b
same_together a b samples m tiles =
    ap (λ (xs : List Sample). own_together (record { samples = xs; m = a.m; tiles = a.tiles })) samples
    ∙ ap (λ (k : ℕ). own_together (record { samples = b.samples; m = k; tiles = a.tiles })) m
    ∙ ap (λ (ts : List Tile). own_together (record { samples = b.samples; m = b.m; tiles = ts })) tiles

-- ---- one piece more

one_last : (n k : ℕ) → nat_lt k (n + 1) ≡ (nat_lt k n || ((n == k) || false))
one_last n k = grind (arith, nat_tests)

below_has : (n k : ℕ) → has_piece (range_with_len 0 n) k ≡ true → k < n
below_has n k e = below (sym (pieces_of_lists.below n k) ∙ e)
  where
    below : nat_lt k n ≡ true → k < n
    below is = grind (arith, nat_tests)

last_has : (n k : ℕ) → has_piece (n ∷ []) k ≡ true → k ≡ n
last_has n k e = grind (arith, nat_tests)

with_last : (columns size : ℕ) (value : ℕ → Value) (n : ℕ) → ((k : ℕ) → k < n + 1 → HasColumns columns size (value k))
    → merged_below merged_columns (empty_columns columns size) value (n + 1)
    ≡ merged_columns (merged_below merged_columns (empty_columns columns size) value n) (value n)
with_last columns size value n h =
    let laws = merges_by_pieces (HasColumns columns) (empty_columns columns) merged_columns (columns_merge columns) in
    let below = range_with_len 0 n in
    laws.same size value (range_with_len 0 (n + 1)) (below ++ n ∷ []) (λ k there. h k (below_has (n + 1) k there))
    (λ k. pieces_of_lists.below (n + 1) k ∙ one_last n k
    ∙ sym (pieces_of_lists.joined below (n ∷ []) k
    ∙ ap (λ b. b || ((n == k) || false)) (pieces_of_lists.below n k)))
    ∙ laws.joined size value below (n ∷ [])
    (λ k there. (let lt = below_has n k there in h k (omega (arith, lt))))
    (λ k there. (let e = last_has n k there in h k (omega (arith, e))))
    ∙ ap (merged_columns (merged_below merged_columns (empty_columns columns size) value n))
    ((columns_merge columns).unit_last size (value n) (h n (omega arith)))

-- behind what there was before
pub onto_more : (columns size : ℕ) (value : ℕ → Value) (n : ℕ)
    → ((k : ℕ) → k < n + 1 → HasColumns columns size (value k))
    → (start old new : Value) → HasColumns columns size start
    → old ≡ merged_columns start (merged_below merged_columns (empty_columns columns size) value n)
    → new ≡ merged_columns old (value n)
    → new ≡ merged_columns start (merged_below merged_columns (empty_columns columns size) value (n + 1))
onto_more columns size value n h start old new is e f =
    let below = merged_below merged_columns (empty_columns columns size) value n in
    let laws = merges_by_pieces (HasColumns columns) (empty_columns columns) merged_columns (columns_merge columns) in
    f ∙ ap (λ v. merged_columns v (value n)) e
    ∙ (columns_merge columns).associative size start below (value n) is
    (laws.is_value size value (range_with_len 0 n)
    (λ k there. (let lt = below_has n k there in h k (omega (arith, lt)))))
    (h n (omega arith))
    ∙ ap (merged_columns start) (sym (with_last columns size value n h))
