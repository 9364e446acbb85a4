-- What workers share of several channels, and what one has behind a piece.
use Rattle.std.proofs.Common.{◌≡◌, ℕ, ◌+◌, ◌<◌, min, List, [], ◌∷◌, length, get_or, map, false}
use Rattle.std.proofs.Common.{sym, ap, subst, ◌∙◌, arith}
use Rattle.std.specs.Prelude.{◌||◌, Bool, ◌&&◌, nat_le, None, Some, IfSome, Option, slice_set}
use Rattle.mp_nums.specs.Near.{nearer_of}
use Rattle.std.proofs.lemmas.Bool.Decides.{nat_tests}
use Rattle.mp_nums.specs.declared.nearest.Near.{Near}
use Rattle.mp_nums.specs.declared.samples.Sample.{Sample}
use Rattle.mp_defs.specs.Series.{series_of}
use Rattle.mp_defs.specs.ColumnLaws.{columns_have_places}
use Rattle.mp_results.specs.Multi.{multi_entry, pair_value, windows_in}
use Rattle.mp_partial.specs.Values.{Column, HasColumns, Value, empty_columns, merged_column, merged_below}
use Rattle.mp_partial.specs.Values.{merged_columns, offered}
use Rattle.mp_partial.specs.MergeLaws.{columns_merge}
use Rattle.mp_cuts.specs.declared.cuts.Tile.{Tile}
use Rattle.mp_cuts.specs.Limits.{band_rows}
use Rattle.mp_cuts.specs.Pairs.{has_pair, no_tile, on_its_diagonals}
use Rattle.mp_tiles.specs.Among.{either_way}
use Rattle.mp_tiles.specs.Compact.{slot_of_word}
use Rattle.mp_tiles.specs.PairLaws.{some_has}
use Rattle.mp_tiles.specs.RowParts.{parts_of}
use Rattle.mp_tiles.specs.RowPartLaws.{few_rows, parts_have_pairs}
use Rattle.mp_workers.specs.Entries.{HasMore, IsWithin, IsWithinColumn}
use Rattle.mp_workers.specs.EntryLaws.{lowered, one_taken}
use Rattle.mp_workers.specs.SharingLaws.{one_more_run, piece_within}
use Rattle.mp_multi.specs.Among.{multi_among}
use Rattle.mp_multi.specs.Tiles.{tile_value}
use Rattle.mp_multi.specs.Sharing.{AreEntriesOf, AreShared, Finds, Lowers, in_parts, profile_of, view_of}
use Rattle.mp_multi.specs.Tiling.{IsMultiTiling, MultiTiling, multi_size, multi_together, multi_value, multi_whole}
use Rattle.mp_multi.specs.Tiling.{window_count}
use Rattle.mp_multi.specs.TilingLaws.{among_has_places, one_column, windows_of_channels}
use Rattle.mp_multi.specs.declared.entries.EntriesView.{EntriesView}
use Rattle.mp_multi.proofs.ColumnLemmas.{least_same, takes_none}
use Rattle.mp_multi.proofs.TileLaws.{among_tiles}
use Rattle.atomic_table.specs.Table.{Me, Allows, Enters, step, keeps}
use mathlib.Core.Option.{none}

-- ---- words

pub enters : (whole : Column) (slots place : ℕ) → place < length whole
    → Enters (AreEntriesOf whole) slots place
    (λ n w. Finds (step slots place 0 0 none) (view_of whole, []) n (w, []))
enters whole slots place lt state holds homes fits = (view_of whole, holds, holds.each place lt)

pub allows_lower : (whole : Column) (slots id place word : ℕ) (me : Me (Unit {0}) EntriesView)
    → place < length whole → IsWithin word (get_or whole place None)
    → Allows (AreEntriesOf whole) slots id me place (λ n. min n word) (Lowers (step slots place word 0 none) me)
allows_lower whole slots id place word me lt is state holds homes there fits =
    (me.0, keeps, tt, lowered whole state.words place word holds lt is, tt)

-- a window that is taken
pub near_taken : (whole first old new : Column) (place word : ℕ) (near : Near) → HasMore whole first old
    → IsWithin word (get_or whole place None) → slot_of_word word ≡ Some near → new ≡ offered old place near
    → HasMore whole first new
near_taken whole first old new place word near h is e f =
    subst (HasMore whole first) (sym f)
    (subst (λ (s : Option Near). HasMore whole first (slice_set old place (nearer_of (get_or old place None) s))) e
    (one_taken whole first old place word h is))

-- ---- places

pub profile_count : (multi : MultiTiling) → length (profile_of multi) ≡ multi_size multi
profile_count multi =
    let all = map series_of multi.channels in
    columns_have_places.count (multi_entry multi.m multi.k all) (windows_in multi.m all)
    ∙ sym (windows_of_channels multi.m multi.channels)

-- the entries are of the channels of the parts
pub of_whole : (parts : ℕ) (multi own : MultiTiling) (entries : Option Column) (whole : Column)
    → AreShared parts multi entries → in_parts parts multi ≡ own → entries ≡ Some whole → whole ≡ profile_of own
of_whole parts multi own entries whole h same is =
    subst (λ o. IfSome o (λ (w : Column). w ≡ profile_of multi)) is h.of_channels ∙ ap profile_of same

-- they have so many places
pub whole_count : (own : MultiTiling) (whole found : Column) → whole ≡ profile_of own
    → length found ≡ multi_size own → length found ≡ length whole
whole_count own whole found is long = long ∙ sym (profile_count own) ∙ sym (ap length is)

-- ---- parts of tiles

among_parts : (parts : ℕ) (multi : MultiTiling) → 0 < parts
    → ((k : ℕ) → (get_or multi.tiles k no_tile).last_row < (get_or multi.tiles k no_tile).first_row + band_rows)
    → multi_among (some_has 0 (parts_of parts multi.tiles)) multi.m multi.k (map series_of multi.channels)
    ≡ multi_among (some_has 0 multi.tiles) multi.m multi.k (map series_of multi.channels)
among_parts parts multi some few =
    let all = map series_of multi.channels in
    let parted = some_has 0 (parts_of parts multi.tiles) in
    let whole = some_has 0 multi.tiles in
    least_same (either_way parted) (either_way whole) (pair_value multi.m multi.k all) (windows_in multi.m all)
    (λ i j _ _. ap (λ p. p || parted j i) (parts_have_pairs parts multi.tiles i j some few)
    ∙ ap (λ p. whole i j || p) (parts_have_pairs parts multi.tiles j i some few))

-- the values of all tiles together are the profile of their pairs
together_is : (multi : MultiTiling) → multi_together multi
    ≡ multi_among (some_has 0 multi.tiles) multi.m multi.k (map series_of multi.channels) ∷ []
together_is multi =
    let all = map series_of multi.channels in
    ap (λ w. merged_below merged_columns (empty_columns 1 w) (tile_value multi.m multi.k all multi.tiles)
    (length multi.tiles)) (windows_of_channels multi.m multi.channels)
    ∙ among_tiles multi.m multi.k all multi.tiles

-- the parts have together what the tiles have
pub parts_together : (parts number : ℕ) (multi : MultiTiling) → 0 < parts → IsMultiTiling number multi
    → multi_together (in_parts parts multi) ≡ multi_together multi
parts_together parts number multi some is =
    together_is (in_parts parts multi)
    ∙ ap (λ (c : Column). c ∷ [])
    (among_parts parts multi some (few_rows multi.tiles (λ k d lt. (is.each k d lt).few_rows)))
    ∙ sym (together_is multi)

-- a tile without rows gives nothing
pub no_row_taken : (m k : ℕ) (channels : List (List Sample)) (tile : Tile) (old : Column)
    → tile.last_row < tile.first_row → length old ≡ window_count m channels
    → old ≡ merged_column old (multi_among (has_pair 0 tile) m k (map series_of channels))
no_row_taken m k channels tile old no_row long =
    let all = map series_of channels in
    let never = λ (i j : ℕ). no_pair (on_its_diagonals 0 tile i j) tile.first_row tile.last_row i no_row in
    takes_none (either_way (has_pair 0 tile)) (pair_value m k all) (windows_in m all) old
    (long ∙ windows_of_channels m channels)
    (λ i j _ _. ap (λ p. p || has_pair 0 tile j i) (never i j) ∙ never j i)
  where
    no_pair : (on : Bool) (first last i : ℕ) → last < first → (on && (nat_le first i && nat_le i last)) ≡ false
    no_pair on first last i lt = grind (arith, nat_tests)

-- ---- what a worker has

abbrev single : Column → Value
single column = column ∷ []

same_column : (a b : Column) → ◌≡◌ {A = Value} (a ∷ []) (b ∷ []) → a ≡ b
same_column a b e = cc e

-- what makes the whole with the whole is within it
pub within_whole : (multi : MultiTiling) (found : Column)
    → merged_columns (found ∷ []) (multi_whole multi) ≡ multi_whole multi → IsWithinColumn (profile_of multi) found
within_whole multi found h = same_column (merged_column found (profile_of multi)) (profile_of multi) h

-- a worker takes what others found, and then the pairs of a piece
pub piece_run : (multi : MultiTiling) (old found new : Column) (piece : ℕ) → multi_together multi ≡ multi_whole multi
    → piece < length multi.tiles → length old ≡ multi_size multi → HasMore (profile_of multi) old found
    → new ≡ merged_column found
    (multi_among (has_pair 0 (get_or multi.tiles piece no_tile)) multi.m multi.k (map series_of multi.channels))
    → (merged_columns (new ∷ []) (multi_value multi piece) ≡ new ∷ [])
    × (merged_columns (new ∷ []) (old ∷ []) ≡ new ∷ [])
    × (merged_columns (new ∷ []) (multi_whole multi) ≡ multi_whole multi)
piece_run multi old found new piece together lt places more e =
    let size = multi_size multi in
    let values = λ (k : ℕ) (_ : k < length multi.tiles).
    among_has_places (has_pair 0 (get_or multi.tiles k no_tile)) multi.m multi.k multi.channels in
    let piece_is = subst (λ v. merged_columns (multi_value multi piece) v ≡ v) together
    (piece_within (HasColumns 1) (empty_columns 1) merged_columns (columns_merge 1) size (multi_value multi)
    (length multi.tiles) piece values lt) in
    one_more_run (HasColumns 1) (empty_columns 1) merged_columns (columns_merge 1) size (multi_whole multi)
    (old ∷ []) (found ∷ []) (multi_value multi piece) (new ∷ [])
    (one_column size (profile_of multi) (profile_count multi)) (one_column size old places)
    (one_column size found (more.places ∙ places)) (values piece lt) (ap single more.more) (ap single more.within)
    piece_is (ap single e)
