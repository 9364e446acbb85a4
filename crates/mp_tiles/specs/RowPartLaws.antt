-- The parts of tiles have the pairs of these.
use Rattle.std.proofs.Common.{◌≡◌, ℕ, zero, suc, ◌+◌, ◌-◌, ◌*◌, ◌%◌, ◌<◌, ◌≤◌, min, List, length, get_or, Bool}
use Rattle.std.proofs.Common.{false, inl, inr, refl, sym, ap, ◌∙◌, arith, subst}
use Rattle.std.proofs.Math.Nat.{eq-zero-or-pos, mul_comm}
use Rattle.std.specs.Prelude.{All, ◌&&◌, ◌||◌, nat_le, nat_lt, map}
use Rattle.std.specs.List.{range_with_len}
use Rattle.std.proofs.lemmas.Bool.{cases_lt}
use Rattle.std.proofs.lemmas.Bool.Decides.{nat_tests}
use Rattle.std.proofs.lemmas.Grind.{div_ceil_times}
use Rattle.std.proofs.lemmas.Nat.{div-mul-add, mod-mul-add}
use Rattle.std.proofs.lemmas.List.{get_or_past}
use Rattle.std.proofs.lemmas.List.FromFn.{length-map-range_with_len, get_or-map-range_with_len}
use Rattle.mp_cuts.specs.declared.cuts.Tile.{Tile}
use Rattle.mp_cuts.specs.Limits.{band_rows}
use Rattle.mp_cuts.specs.Pairs.{has_pair, no_tile, on_its_diagonals, IsTileBetween}
use Rattle.mp_tiles.specs.PairLaws.{some_has, some_more, tiles_by_number}
use Rattle.mp_tiles.specs.RowParts.{part_height, part_of, part_at, parts_of}

-- ---- lists of parts

pub parts_count : (parts : ℕ) (tiles : List Tile) → length (parts_of parts tiles) ≡ length tiles * parts
parts_count parts tiles = length-map-range_with_len (part_at parts tiles) 0 (length tiles * parts)

pub part_is : (parts : ℕ) (tiles : List Tile) (k : ℕ) (d : Tile) → k < length tiles * parts
    → get_or (parts_of parts tiles) k d ≡ part_at parts tiles k
part_is parts tiles k d lt =
    get_or-map-range_with_len (part_at parts tiles) 0 (length tiles * parts) k k d lt (omega arith)

-- ---- tiles by successive numbers

-- some tile of n from number k on has the pair
abbrev some_from : (ℕ → Tile) → ℕ → ℕ → ℕ → ℕ → Bool
some_from tile k n i j = some_has 0 (map tile (range_with_len k n)) i j

or_associates : (a b c : Bool) → (a || (b || c)) ≡ ((a || b) || c)
or_associates a b c = grind (arith, nat_tests)

first_of : (tile : ℕ → Tile) (k n i j : ℕ)
    → some_from tile k (suc n) i j ≡ (has_pair 0 (tile k) i j || some_from tile (k + 1) n i j)
first_of tile k n i j = sym (some_more 0 (tile k) (map tile (range_with_len (k + 1) n)) i j)

-- the first ones or the others
some_split : (tile : ℕ → Tile) (k n m i j : ℕ)
    → some_from tile k (n + m) i j ≡ (some_from tile k n i j || some_from tile (k + n) m i j)
some_split tile k zero m i j =
    let none : zero + m ≡ m = omega arith in
    let here : k + zero ≡ k = omega arith in
    ap (λ c. some_from tile k c i j) none ∙ ap (λ c. some_from tile c m i j) (sym here)
some_split tile k (suc n) m i j =
    let more : suc n + m ≡ suc (n + m) = omega arith in
    let next : k + 1 + n ≡ k + suc n = omega arith in
    ap (λ c. some_from tile k c i j) more
    ∙ first_of tile k (n + m) i j
    ∙ ap (λ p. has_pair 0 (tile k) i j || p) (some_split tile (k + 1) n m i j
    ∙ ap (λ c. some_from tile (k + 1) n i j || some_from tile c m i j) next)
    ∙ or_associates (has_pair 0 (tile k) i j) (some_from tile (k + 1) n i j) (some_from tile (k + suc n) m i j)
    ∙ ap (λ p. p || some_from tile (k + suc n) m i j) (sym (first_of tile k n i j))

-- the same tiles by other numbers
some_same : (tile other : ℕ → Tile) (k l n i j : ℕ) → ((q : ℕ) → q < n → tile (k + q) ≡ other (l + q))
    → some_from tile k n i j ≡ some_from other l n i j
some_same tile other k l zero i j same = refl
some_same tile other k l (suc n) i j same =
    let here : tile k ≡ other l =
    ap tile (omega arith) ∙ same 0 (omega arith) ∙ ap other (omega arith) in
    let step = λ (q : ℕ) (lt : q < n).
    ap tile (omega arith) ∙ same (q + 1) (omega (arith, lt)) ∙ ap other (omega arith) in
    first_of tile k n i j
    ∙ ap (λ t. has_pair 0 t i j || some_from tile (k + 1) n i j) here
    ∙ ap (λ p. has_pair 0 (other l) i j || p) (some_same tile other (k + 1) (l + 1) n i j step)
    ∙ sym (first_of other l n i j)

-- ---- the parts of one tile

-- row i is one of a tile's from a first one on, and before an end
abbrev in_rows : ℕ → ℕ → ℕ → ℕ → Bool
in_rows top end last i = nat_le top i && (nat_lt i end && nat_le i last)

no_rows : (on : Bool) (top last i : ℕ) → false ≡ (on && in_rows top top last i)
no_rows on top last i = grind (arith, nat_tests)

next_rows : (on : Bool) (top height end last i : ℕ) → 0 < height → top + height ≤ end
    → ((on && (nat_le top i && nat_le i (min last (top + height - 1)))) || (on && in_rows (top + height) end last i))
    ≡ (on && in_rows top end last i)
next_rows on top height end last i high le = grind (arith, nat_tests)

-- some parts have the pairs of their rows
parts_have : (height : ℕ) (tile : Tile) (i j k n : ℕ) → 0 < height
    → some_from (part_of height tile) k n i j
    ≡ (on_its_diagonals 0 tile i j
    && in_rows (tile.first_row + k * height) (tile.first_row + (k + n) * height) tile.last_row i)
parts_have height tile i j k zero high =
    let same : k + zero ≡ k = omega arith in
    no_rows (on_its_diagonals 0 tile i j) (tile.first_row + k * height) tile.last_row i
    ∙ ap (λ e. on_its_diagonals 0 tile i j
    && in_rows (tile.first_row + k * height) (tile.first_row + e * height) tile.last_row i) (sym same)
parts_have height tile i j k (suc n) high =
    let on = on_its_diagonals 0 tile i j in
    let top = tile.first_row + k * height in
    let next : tile.first_row + (k + 1) * height ≡ top + height = omega arith in
    let last : k + 1 + n ≡ k + suc n = omega arith in
    let end = tile.first_row + (k + suc n) * height in
    let le : top + height ≤ end = omega (arith, times_more k n height) in
    first_of (part_of height tile) k n i j
    ∙ ap (λ p. has_pair 0 (part_of height tile k) i j || p)
    (parts_have height tile i j (k + 1) n high
    ∙ ap (λ t. on && in_rows t (tile.first_row + (k + 1 + n) * height) tile.last_row i) next
    ∙ ap (λ e. on && in_rows (top + height) (tile.first_row + e * height) tile.last_row i) last)
    ∙ next_rows on top height end tile.last_row i high le
  where
    times_more : (k n height : ℕ) → (k + suc n) * height ≡ k * height + height + n * height
    times_more k n height = omega arith

all_rows : (on : Bool) (i first last top end : ℕ) → top ≡ first → last < end
    → (on && in_rows top end last i) ≡ (on && (nat_le first i && nat_le i last))
all_rows on i first last top end z le = grind (arith, nat_tests)

-- all parts have the pairs of the tile
parts_have_all : (parts : ℕ) (tile : Tile) (i j : ℕ) → 0 < parts → tile.last_row < tile.first_row + band_rows
    → some_from (part_of (part_height parts) tile) 0 parts i j ≡ has_pair 0 tile i j
parts_have_all parts tile i j some few =
    let height = part_height parts in
    let covers : band_rows ≤ height * parts = (div_ceil_times band_rows parts some).0 in
    let high : 0 < height = some_height height parts covers in
    parts_have height tile i j 0 parts high
    ∙ all_rows (on_its_diagonals 0 tile i j) i tile.first_row tile.last_row (tile.first_row + 0 * height)
    (tile.first_row + (0 + parts) * height) (omega arith) (omega (arith, few, covers, mul_comm parts height))
  where
    some_height : (height parts : ℕ) → band_rows ≤ height * parts → 0 < height
    some_height height parts covers = elim (eq-zero-or-pos height) [
      | inl none ↦ absurd (omega (arith, covers, ap (λ h. h * parts) none))
      | inr some ↦ some
    ]

-- ---- the parts of all tiles

-- the parts of the first tiles
parts_of_first : (parts : ℕ) (tiles : List Tile) (i j n : ℕ) → 0 < parts
    → ((k : ℕ) → (get_or tiles k no_tile).last_row < (get_or tiles k no_tile).first_row + band_rows)
    → some_from (part_at parts tiles) 0 (n * parts) i j ≡ some_from (λ k. get_or tiles k no_tile) 0 n i j
parts_of_first parts tiles i j zero some few =
    let none : zero * parts ≡ zero = omega arith in
    ap (λ c. some_from (part_at parts tiles) 0 c i j) none
parts_of_first parts tiles i j (suc n) some few =
    let tile = λ (k : ℕ). get_or tiles k no_tile in
    let height = part_height parts in
    let one_more : suc n * parts ≡ n * parts + parts = omega arith in
    let next : suc n ≡ n + 1 = omega arith in
    let number : zero + n * parts ≡ n * parts = omega arith in
    let last : zero + n ≡ n = omega arith in
    ap (λ c. some_from (part_at parts tiles) 0 c i j) one_more
    ∙ some_split (part_at parts tiles) 0 (n * parts) parts i j
    ∙ ap (λ p. p || some_from (part_at parts tiles) (0 + n * parts) parts i j)
    (parts_of_first parts tiles i j n some few)
    ∙ ap (λ p. some_from tile 0 n i j || p)
    (ap (λ c. some_from (part_at parts tiles) c parts i j) number
    ∙ some_same (part_at parts tiles) (part_of height (tile n)) (n * parts) 0 parts i j
    (λ q lt. ap (λ t. part_of height (tile t) ((n * parts + q) % parts)) (div-mul-add n parts q lt)
    ∙ ap (part_of height (tile n)) (mod-mul-add n parts q lt ∙ from_zero q))
    ∙ parts_have_all parts (tile n) i j some (few n)
    ∙ one_tile tile n i j)
    ∙ ap (λ c. some_from tile 0 n i j || some_from tile c 1 i j) (sym last)
    ∙ sym (some_split tile 0 n 1 i j)
    ∙ ap (λ c. some_from tile 0 c i j) (sym next)
  where
    from_zero : (q : ℕ) → q ≡ 0 + q
    from_zero q = omega arith

    or_nothing : (t : Bool) → t ≡ (t || false)
    or_nothing t = grind (arith, nat_tests)

    one_tile : (tile : ℕ → Tile) (n i j : ℕ) → has_pair 0 (tile n) i j ≡ some_from tile n 1 i j
    one_tile tile n i j = or_nothing (has_pair 0 (tile n) i j) ∙ sym (first_of tile n 0 i j)

-- all parts have the pairs of all tiles
pub parts_have_pairs : (parts : ℕ) (tiles : List Tile) (i j : ℕ) → 0 < parts
    → ((k : ℕ) → (get_or tiles k no_tile).last_row < (get_or tiles k no_tile).first_row + band_rows)
    → some_has 0 (parts_of parts tiles) i j ≡ some_has 0 tiles i j
parts_have_pairs parts tiles i j some few =
    parts_of_first parts tiles i j (length tiles) some few ∙ ap (λ ts. some_has 0 ts i j) (tiles_by_number tiles)

-- ---- where parts lie

-- a part with rows lies where the tile does
pub part_between : (start end rows height k : ℕ) (tile : Tile) → IsTileBetween start end rows tile
    → (part_of height tile k).first_row ≤ (part_of height tile k).last_row
    → IsTileBetween start end rows (part_of height tile k)
part_between start end rows height k tile h some = record {
  after = h.after;
  ordered = h.ordered;
  within = h.within;
  some_rows = some;
  few_rows = omega (arith, h.few_rows);
  last_row = omega (arith, h.last_row);
}

-- a tile past the last one has few rows too
pub few_rows : (tiles : List Tile) → All (λ tile. tile.last_row < tile.first_row + band_rows) tiles → (k : ℕ)
    → (get_or tiles k no_tile).last_row < (get_or tiles k no_tile).first_row + band_rows
few_rows tiles low k = elim (cases_lt k (length tiles)) [
  | inl there ↦ low k no_tile there
  | inr past ↦ subst (λ (t : Tile). t.last_row < t.first_row + band_rows) (sym (get_or_past tiles k no_tile past))
      (omega arith)
]
