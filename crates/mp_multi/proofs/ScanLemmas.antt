-- What is offered along a diagonal, and on the diagonals of a tile.
use Rattle.std.proofs.Common.{◌≡◌, ℕ, ◌+◌, ◌-◌, ◌<◌, ◌≤◌, List, [], length, get_or, map, Bool, false, refl}
use Rattle.std.proofs.Common.{sym, ap, ◌∙◌, arith, subst, min}
use Rattle.std.specs.Prelude.{Option, ◌&&◌, ◌||◌, nat_le, nat_lt}
use Rattle.std.specs.Option.{option_map}
use Rattle.std.proofs.lemmas.Bool.Decides.{nat_tests}
use Rattle.mp_nums.specs.declared.nearest.Sq.{Sq}
use Rattle.mp_nums.specs.declared.samples.Sample.{Sample}
use Rattle.mp_defs.specs.Series.{Series, series_of}
use Rattle.mp_defs.specs.Window.{windows}
use Rattle.mp_defs.specs.DistanceLaws.{symmetric}
use Rattle.mp_defs.specs.Least.{at_distance}
use Rattle.mp_results.specs.Rising.{sum_of_first}
use Rattle.mp_results.specs.Multi.{channel_at, windows_in, distance_in, pair_value}
use Rattle.mp_results.specs.Slide.{square}
use Rattle.mp_partial.specs.Values.{Column}
use Rattle.mp_cuts.specs.declared.cuts.Tile.{Tile}
use Rattle.mp_cuts.specs.Pairs.{has_pair, in_its_rows}
use Rattle.mp_scans.specs.Offering.{only}
use Rattle.mp_tiles.specs.Among.{either_way}
use Rattle.mp_tiles.specs.OfferingLaws.{or_pairs}
use Rattle.mp_tiles.specs.Scanning.{taken}
use Rattle.mp_multi.specs.Running.{AreRunning}
use Rattle.mp_multi.specs.Among.{on_diagonal, TakesAmong}
use Rattle.mp_multi.specs.TilingLaws.{windows_of_channels}
use Rattle.mp_multi.proofs.ChannelLemmas.{rising_same, number_of_square}
use Rattle.mp_multi.proofs.ColumnLemmas.{Takes, takes_places, takes_same, takes_none, takes_then, takes_one}

-- ---- channels

pub value_symmetric : (m k : ℕ) (channels : List Series) (i j : ℕ)
    → pair_value m k channels i j ≡ pair_value m k channels j i
value_symmetric m k channels i j =
    ap (sum_of_first k) (rising_same (distance_in m channels i j) (distance_in m channels j i) (length channels)
    (λ c _. symmetric m (channel_at channels c) i (channel_at channels c) j))

-- the second window, as it moved on
pub second_at : (m : ℕ) (channels : List (List Sample)) (i j j' : ℕ) (running : _) → j ≡ j'
    → AreRunning m channels i j running → AreRunning m channels i j' running
second_at m channels i j j' running e h = subst (λ n. AreRunning m channels i n running) e h

-- ---- one pair

one_more : (row i apart r c : ℕ) → row ≤ i
    → ((either_way (on_diagonal row i apart) r c || only i (i + apart) r c) || only (i + apart) i r c)
    ≡ either_way (on_diagonal row (i + 1) apart) r c
one_more row i apart r c le = grind (arith, nat_tests)

-- both windows are offered to the other
pub pair_offered : (m k : ℕ) (channels : List (List Sample)) (row i apart : ℕ) (old mid new : Column)
    (value : Option Sq) → length old ≡ windows (length (get_or channels 0 [])) m → row ≤ i
    → i + apart < length old → value ≡ option_map square (pair_value m k (map series_of channels) i (i + apart))
    → TakesAmong (on_diagonal row i apart) m k channels old mid
    → new ≡ taken (taken mid i (at_distance (i + apart) (option_map (λ v. v.0) value))) (i + apart)
    (at_distance i (option_map (λ v. v.0) value))
    → TakesAmong (on_diagonal row (i + 1) apart) m k channels old new
pair_offered m k channels row i apart old mid new value long le lt is before e =
    let j = i + apart in
    let w = windows_in m (map series_of channels) in
    let at = pair_value m k (map series_of channels) in
    let p = either_way (on_diagonal row i apart) in
    let long' : length old ≡ w = long ∙ windows_of_channels m channels in
    let v : option_map (λ (s : Sq). s.0) value ≡ at i j =
    ap (option_map (λ (s : Sq). s.0)) is ∙ number_of_square (at i j) in
    let second : Column = taken mid i (at_distance j (option_map (λ (s : Sq). s.0) value)) in
    let places : length mid ≡ w = takes_places p at w old mid long' before in
    let first : Takes (only i j) at w mid second =
    takes_one i j at w mid second (option_map (λ (s : Sq). s.0) value) places (omega (arith, lt, long'))
    (omega (arith, lt, long')) v refl in
    let last : Takes (only j i) at w second new =
    takes_one j i at w second new (option_map (λ (s : Sq). s.0) value)
    (takes_places (only i j) at w mid second places first) (omega (arith, lt, long')) (omega (arith, lt, long'))
    (v ∙ value_symmetric m k (map series_of channels) i j) e in
    takes_same (λ r c. (p r c || only i j r c) || only j i r c) (either_way (on_diagonal row (i + 1) apart)) at w old
    new
    (takes_then (λ r c. p r c || only i j r c) (only j i) at w old second new
    (takes_then p (only i j) at w old mid second before first) last)
    (λ r c _ _. one_more row i apart r c le)

no_rows : (row apart r c : ℕ) → either_way (on_diagonal row row apart) r c ≡ false
no_rows row apart r c = grind (arith, nat_tests)

pub none_offered : (m k : ℕ) (channels : List (List Sample)) (row apart : ℕ) (old : Column)
    → length old ≡ windows (length (get_or channels 0 [])) m
    → TakesAmong (on_diagonal row row apart) m k channels old old
none_offered m k channels row apart old long =
    takes_none (either_way (on_diagonal row row apart)) (pair_value m k (map series_of channels))
    (windows_in m (map series_of channels)) old (long ∙ windows_of_channels m channels)
    (λ r c _ _. no_rows row apart r c)

-- ---- the diagonals of a tile

-- the pairs of a tile on its diagonals before one
abbrev pub before_diagonal : Tile → ℕ → ℕ → ℕ → Bool
before_diagonal tile apart i j = (nat_le (i + tile.first) j && nat_lt j (i + apart)) && in_its_rows tile i

diagonal_more : (tile : Tile) (apart w end i j : ℕ) → j < w → tile.first ≤ apart
    → end ≡ min (tile.last_row + 1) (w - apart)
    → (before_diagonal tile apart i j || on_diagonal tile.first_row end apart i j)
    ≡ before_diagonal tile (apart + 1) i j
diagonal_more tile apart w end i j lt le e = grind (arith, nat_tests)

pub diagonal_taken : (m k : ℕ) (channels : List (List Sample)) (tile : Tile) (apart end : ℕ) (old mid new : Column)
    → length old ≡ windows (length (get_or channels 0 [])) m → tile.first ≤ apart
    → end ≡ min (tile.last_row + 1) (length old - apart)
    → TakesAmong (before_diagonal tile apart) m k channels old mid
    → TakesAmong (on_diagonal tile.first_row end apart) m k channels mid new
    → TakesAmong (before_diagonal tile (apart + 1)) m k channels old new
diagonal_taken m k channels tile apart end old mid new long le is before here =
    let w = windows_in m (map series_of channels) in
    let at = pair_value m k (map series_of channels) in
    let p = before_diagonal tile apart in
    let q = on_diagonal tile.first_row end apart in
    let long' : length old ≡ w = long ∙ windows_of_channels m channels in
    takes_same (λ i j. either_way p i j || either_way q i j) (either_way (before_diagonal tile (apart + 1))) at w old
    new
    (takes_then (either_way p) (either_way q) at w old mid new before here)
    (λ i j lt lt'. or_pairs (p i j) (q i j) (p j i) (q j i)
    ∙ ap (λ t. t || (p j i || q j i)) (diagonal_more tile apart (length old) end i j (omega (arith, lt', long')) le is)
    ∙ ap (λ t. before_diagonal tile (apart + 1) i j || t)
    (diagonal_more tile apart (length old) end j i (omega (arith, lt, long')) le is))

no_pairs : (row end apart i j : ℕ) → end ≤ row → either_way (on_diagonal row end apart) i j ≡ false
no_pairs row end apart i j le = grind (arith, nat_tests)

-- a diagonal without rows
pub diagonal_passed : (m k : ℕ) (channels : List (List Sample)) (row end apart : ℕ) (old : Column)
    → length old ≡ windows (length (get_or channels 0 [])) m → end ≤ row
    → TakesAmong (on_diagonal row end apart) m k channels old old
diagonal_passed m k channels row end apart old long le =
    takes_none (either_way (on_diagonal row end apart)) (pair_value m k (map series_of channels))
    (windows_in m (map series_of channels)) old (long ∙ windows_of_channels m channels)
    (λ i j _ _. no_pairs row end apart i j le)

none_before : (tile : Tile) (i j : ℕ) → either_way (before_diagonal tile tile.first) i j ≡ false
none_before tile i j = grind (arith, nat_tests)

pub tile_begins : (m k : ℕ) (channels : List (List Sample)) (tile : Tile) (old : Column)
    → length old ≡ windows (length (get_or channels 0 [])) m
    → TakesAmong (before_diagonal tile tile.first) m k channels old old
tile_begins m k channels tile old long =
    takes_none (either_way (before_diagonal tile tile.first)) (pair_value m k (map series_of channels))
    (windows_in m (map series_of channels)) old (long ∙ windows_of_channels m channels)
    (λ i j _ _. none_before tile i j)

all_of_tile : (tile : Tile) (apart i j : ℕ) → apart ≡ tile.last + 1
    → before_diagonal tile apart i j ≡ has_pair 0 tile i j
all_of_tile tile apart i j e = grind (arith, nat_tests)

pub tile_ends : (m k : ℕ) (channels : List (List Sample)) (tile : Tile) (apart : ℕ) (old new : Column)
    → apart ≡ tile.last + 1 → TakesAmong (before_diagonal tile apart) m k channels old new
    → TakesAmong (has_pair 0 tile) m k channels old new
tile_ends m k channels tile apart old new e h =
    takes_same (either_way (before_diagonal tile apart)) (either_way (has_pair 0 tile))
    (pair_value m k (map series_of channels)) (windows_in m (map series_of channels)) old new h
    (λ i j _ _. ap (λ t. t || before_diagonal tile apart j i) (all_of_tile tile apart i j e)
    ∙ ap (λ t. has_pair 0 tile i j || t) (all_of_tile tile apart j i e))

pub places_stay : (pairs : ℕ → ℕ → Bool) (m k : ℕ) (channels : List (List Sample)) (old new : Column)
    → length old ≡ windows (length (get_or channels 0 [])) m → TakesAmong pairs m k channels old new
    → length new ≡ length old
places_stay pairs m k channels old new long h =
    let long' = long ∙ windows_of_channels m channels in
    takes_places (either_way pairs) (pair_value m k (map series_of channels)) (windows_in m (map series_of channels))
    old new long' h
    ∙ sym long'
