-- What the scan of a block's rows gives.
use Rattle.std.proofs.Common.{◌≡◌, ℕ, ◌+◌, ◌-◌, ◌*◌, ◌/◌, ◌%◌, ◌<◌, ◌≤◌, true, List, []}
use Rattle.std.proofs.Common.{length, get_or, map, arith, ap, ◌∙◌, sym}
use Rattle.std.specs.Prelude.{Option, Some, None, slice_get}
use Rattle.std.specs.Int.{div_ceil}
use Rattle.std.specs.List.{between}
use Rattle.std.proofs.Math.Nat.{mul-le-mul_right, div-mul-le_self, lt-div-mul-add}
use Rattle.std.proofs.Math.ListN.{get_or-map}
use Rattle.std.proofs.lemmas.Grind.{div_ceil_times}
use Rattle.std.proofs.lemmas.Nat.{div-mul-add, div-add-mod'}
use Rattle.std.proofs.lemmas.Bool.Decides.{nat_tests}
use Rattle.std.proofs.lemmas.Option.{get_or_from_slice_get}
use Rattle.std.proofs.lemmas.Simd.{get_or-zip2}
use Rattle.mp_nums.specs.declared.nearest.Near.{Near}
use Rattle.mp_nums.specs.declared.samples.Sample.{Sample}
use Rattle.mp_nums.specs.Near.{nearer_of}
use Rattle.mp_nums.specs.NearLaws.{nearer_with_none}
use Rattle.mp_defs.specs.Series.{series_of}
use Rattle.mp_defs.specs.SeriesLaws.{series_are_of_samples}
use Rattle.mp_defs.specs.Window.{windows}
use Rattle.mp_defs.specs.Distance.{distance}
use Rattle.mp_defs.specs.Least.{at_distance, candidate, near}
use Rattle.mp_defs.specs.LeastLaws.{near_same, grows_by_one_candidate}
use Rattle.mp_defs.specs.ColumnLaws.{columns_have_places}
use Rattle.mp_defs.specs.NearestLaws.{nearest_by_choice}
use Rattle.mp_defs.specs.Profile.{windows_of, nearest, nearest_column, join_entry}
use Rattle.mp_partial.specs.Values.{Column, merged_column}
use Rattle.mp_results.specs.Consensus.{series_at, counterpart}
use Rattle.mp_cuts.specs.declared.cuts.Tile.{Tile}
use Rattle.mp_cuts.specs.Pairs.{has_pair}
use Rattle.mp_tiles.proofs.RowLemmas.{part_distance}
use Rattle.mp_consensus.proofs.Radii.{counterpart_other}

-- ---- a tile of all pairs

all_pairs : (tile : Tile) (w v i j : ℕ) → tile.first ≡ 0 → tile.last + 2 ≡ w + v → tile.first_row ≡ 0
    → tile.last_row + 1 ≡ w → i < w → j < v → has_pair (w - 1) tile i j ≡ true
all_pairs tile w v i j first last first_row last_row row column = grind (arith, nat_tests)

-- each row's slot then has the nearer of what stood there and of its nearest window
pub all_scanned : (m : ℕ) (a b : List Sample) (tile : Tile) (old new : Column)
    → new ≡ merged_column old
    (nearest_column (has_pair (windows (length a) m - 1) tile) m (series_of a) (series_of b))
    → length old ≡ windows (length a) m → tile.first ≡ 0 → tile.last + 2 ≡ windows (length a) m + windows (length b) m
    → tile.first_row ≡ 0 → tile.last_row + 1 ≡ windows (length a) m → (i : ℕ) → i < length old
    → get_or new i None ≡ nearer_of (get_or old i None) (join_entry m (series_of a) (series_of b) i)
all_scanned m a b tile old new e places first last first_row last_row i lt =
    let pairs = has_pair (windows (length a) m - 1) tile in
    let f = λ (k : ℕ). nearest m (pairs k) (series_of a) k (series_of b) in
    let count = series_are_of_samples.windows_are m a in
    let row : i < windows_of m (series_of a) = omega (arith, lt, places, count) in
    let there : i < length (nearest_column pairs m (series_of a) (series_of b)) =
    omega (arith, row, columns_have_places.count f (windows_of m (series_of a))) in
    ap (λ xs. get_or xs i None) e
    ∙ get_or-zip2 nearer_of old (nearest_column pairs m (series_of a) (series_of b)) i None None None lt there
    ∙ ap (nearer_of (get_or old i None)) (columns_have_places.at_place f (windows_of m (series_of a)) i row
    ∙ nearest_by_choice.same m (pairs i) (λ _. true) (series_of a) i (series_of b)
    (λ j below. all_pairs tile (windows (length a) m) (windows (length b) m) i j first last first_row last_row
    (omega (arith, lt, places)) (omega (arith, below, series_are_of_samples.windows_are m b))))

-- a series without windows gives nothing
pub none_scanned : (m : ℕ) (a b : List Sample) (slot : Option Near) (i : ℕ) → windows (length b) m ≡ 0
    → slot ≡ nearer_of slot (join_entry m (series_of a) (series_of b) i)
none_scanned m a b slot i none =
    let c = candidate (λ _. true) (λ j. distance m (series_of a) i (series_of b) j) in
    let entry : join_entry m (series_of a) (series_of b) i ≡ None =
    ap (near c) (series_are_of_samples.windows_are m b ∙ none) ∙ grows_by_one_candidate.no_candidates c in
    sym (ap (nearer_of slot) entry ∙ (nearer_with_none slot).1)

-- ---- rows that are a part of a series

pub series_there : (list : List (List Sample)) (p : ℕ) → series_at (map series_of list) p ≡ series_of (get_or list p [])
series_there list p = get_or-map series_of list p []

-- what stands at another place is nearest to the row too
pub row_entry : (m : ℕ) (list : List (List Sample)) (p q start end k : ℕ) (b : List Sample) → k + m ≤ end - start
    → (q ≡ p → ⊥) → slice_get list q ≡ Some b
    → counterpart m (map series_of list) p (start + k) q
    ≡ join_entry m (series_of (between start end (get_or list p []))) (series_of b) k
row_entry m list p q start end k b within ne there =
    let a = get_or list p [] in
    counterpart_other m (map series_of list) p (start + k) q ne
    ∙ ap (λ x. join_entry m x (series_at (map series_of list) q) (start + k)) (series_there list p)
    ∙ ap (λ y. join_entry m (series_of a) y (start + k))
    (series_there list q ∙ ap series_of (get_or_from_slice_get list q b [] there))
    ∙ near_same (candidate (λ _. true) (λ j. distance m (series_of a) (start + k) (series_of b) j))
    (candidate (λ _. true) (λ j. distance m (series_of (between start end a)) k (series_of b) j))
    (windows_of m (series_of b))
    (λ j lt. ap (at_distance j) (sym (part_distance m a start end k (series_of b) j within)))

-- ---- the pieces

-- the block of a window
pub block_of : (places p i piece : ℕ) → p < places → i / 64 * places + p ≡ piece
    → (piece / places ≡ i / 64) × (piece % places ≡ p) × (i / 64 * 64 ≤ i) × (i < i / 64 * 64 + 64)
block_of places p i piece lt e =
    let split = div-add-mod' piece places in
    let block : piece / places ≡ i / 64 =
    ap (λ n. n / places) (sym e) ∙ div-mul-add (i / 64) places p lt in (
      block,
      omega (arith, split, e, ap (λ n. n * places) block),
      div-mul-le_self i 64,
      lt-div-mul-add {a = i} {b = 64} (omega arith),
    )

-- a window stands in one of so many blocks
pub in_blocks : (count i : ℕ) → i < count → i / 64 < div_ceil count 64
in_blocks count i lt =
    let most = div_ceil_times count 64 (omega arith) in
    let starts = div-mul-le_self i 64 in
    omega (arith, lt, most.0, starts)

pub few_blocks : (count : ℕ) → count ≤ 262144 → div_ceil count 64 ≤ 4096
few_blocks count le = let most = div_ceil_times count 64 (omega arith) in omega (arith, le, most.1)

pub few_pieces : (most places : ℕ) → most ≤ 4096 → places ≤ 64 → most * places ≤ 262144
few_pieces most places le few =
    let first : most * places ≤ 4096 * places = mul-le-mul_right places le in omega (arith, first, few)

pub is_piece : (most places p i : ℕ) → p < places → i / 64 < most → i / 64 * places + p < most * places
is_piece most places p i lt below =
    let x : ℕ = i / 64 in
    let le : x + 1 ≤ most = omega (arith, below) in
    let more : (x + 1) * places ≤ most * places = mul-le-mul_right places le in omega (arith, more, lt)
