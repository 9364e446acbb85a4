-- The tiles of a cut by their numbers.
use Rattle.std.proofs.Common.{◌≡◌, ℕ, zero, suc, ◌+◌, ◌-◌, ◌*◌, ◌/◌, ◌<◌, ◌≤◌, inl, inr, min, max, List, [], ◌∷◌, ◌++◌}
use Rattle.std.proofs.Common.{length, get_or, Bool, true, false, refl, sym, ap, ◌∙◌, arith, subst, cond}
use Rattle.std.specs.Prelude.{All, map, filter, nat_le, nat_lt, ◌&&◌, slice_get, Some}
use Rattle.std.specs.List.{range_with_len}
use Rattle.std.specs.Int.{div_ceil}
use Rattle.std.proofs.Math.Nat.{mul-le-mul_right, mul-le-mul_left}
use Rattle.std.proofs.lemmas.Bool.Decides.{nat_tests}
use Rattle.std.proofs.lemmas.Grind.{div_ceil_times}
use Rattle.std.proofs.lemmas.Nat.{div-add-mod'}
use Rattle.std.proofs.lemmas.List.{append-nil, length-append, get_or_append_left, get_or-append-add}
use Rattle.std.proofs.lemmas.List.Elements.{All-append}
use Rattle.std.proofs.lemmas.List.FromFn.{length-map-range_with_len, get_or-map-range_with_len, map-range_with_len_more}
use Rattle.std.proofs.lemmas.List.FromFn.{filter_of_map_range_with_len_more}
use Rattle.std.proofs.lemmas.Option.{slice_get-get_or}
use Rattle.mp_cuts.specs.declared.cuts.Tile.{Tile}
use Rattle.mp_cuts.specs.declared.cuts.Region.{Region}
use Rattle.mp_cuts.specs.Pairs.{IsTileBetween, no_tile}
use Rattle.mp_cuts.specs.Tight.{IsTight}
use Rattle.mp_cuts.specs.Cutting.{chunks_of, bands_of, tile_at, has_rows, tiles_in, tiles_of, own_region, own_tiles}
use Rattle.mp_cuts.specs.Cutting.{both_region, diagonals_between, IsRegion}
use Rattle.mp_cuts.specs.CutLaws.{starts_before, either, tiles_below, bands_more, band_starts}

-- ---- the chunks that have rows in a band

-- the first of them
abbrev pub first_chunk : Region → ℕ → ℕ
first_chunk r band = (r.origin + 1 - (band * 65536 + 65536) - r.first) / r.width

-- and the one behind the last
abbrev pub end_chunk : Region → ℕ → ℕ
end_chunk r band = div_ceil (r.end - band * 65536 - r.first) r.width

has_some : (first end origin rows width lo x z u : ℕ) → first + x < end → origin < end → origin < rows → lo < rows
    → 0 < width → z ≡ origin + 1 - (lo + 65536) - first → u ≡ end - lo - first
    → nat_le (max (origin - (min (first + x + width) end - 1)) lo)
    (min (min rows (end - (first + x))) (lo + 65536) - 1)
    ≡ (nat_lt z (x + width) && nat_lt x u)
has_some first end origin rows width lo x z u lt on row starts pos e f = grind (arith, nat_tests)

from_chunk : (z width k : ℕ) → 0 < width → nat_lt z (k * width + width) ≡ nat_le (z / width) k
from_chunk z width k pos =
    let below : z < z / width * width + width = omega (arith, div-add-mod' z width) in
    let behind : z / width * width ≤ z = omega (arith, div-add-mod' z width) in
    elim (either (z / width) k) [
      | inl le ↦ let low : z / width * width ≤ k * width = mul-le-mul_right width le in grind (arith, nat_tests)
      | inr lt ↦ let high : (k + 1) * width ≤ z / width * width = mul-le-mul_right width lt in
          grind (arith, nat_tests)
    ]

to_chunk : (u width k : ℕ) → 0 < width → nat_lt (k * width) u ≡ nat_lt k (div_ceil u width)
to_chunk u width k pos =
    let d = div_ceil u width in
    let times = div_ceil_times u width pos in
    elim (either d k) [
      | inl le ↦ let low : d * width ≤ k * width = mul-le-mul_right width le in
          let bound : u ≤ k * width = omega (arith, times.0) in
          grind (arith, nat_tests)
      | inr lt ↦ let high : (k + 1) * width ≤ d * width = mul-le-mul_right width lt in
          let bound : k * width < u = omega (arith, times.1) in
          grind (arith, nat_tests)
    ]

in_range : (r : Region) (band k : ℕ) → IsRegion r → band * 65536 < r.rows → r.first + k * r.width < r.end
    → has_rows (tile_at r band k) ≡ (nat_le (first_chunk r band) k && nat_lt k (end_chunk r band))
in_range r band k h starts lt =
    let z = r.origin + 1 - (band * 65536 + 65536) - r.first in
    let u = r.end - band * 65536 - r.first in
    has_some r.first r.end r.origin r.rows r.width (band * 65536) (k * r.width) z u lt
    (h.origin_diagonal (omega (arith, lt))) (h.origin_row (omega (arith, starts))) starts h.wide refl refl
    ∙ ap (λ t. t && nat_lt (k * r.width) u) (from_chunk z r.width k h.wide)
    ∙ ap (λ t. nat_le (z / r.width) k && t) (to_chunk u r.width k h.wide)

one_more : (from to n : ℕ) → (nat_le from n && nat_lt n to) ≡ true → min (n + 1) to - from ≡ min n to - from + 1
one_more from to n e = grind (arith, nat_tests)

next_is : (from to n : ℕ) → (nat_le from n && nat_lt n to) ≡ true → from + (min n to - from) ≡ n
next_is from to n e = grind (arith, nat_tests)

no_more : (from to n : ℕ) → (nat_le from n && nat_lt n to) ≡ false → min (n + 1) to - from ≡ min n to - from
no_more from to n e = grind (arith, nat_tests)

kept_chunks : (r : Region) (band n : ℕ) → IsRegion r → band * 65536 < r.rows
    → ((k : ℕ) → k < n → r.first + k * r.width < r.end)
    → filter has_rows (map (tile_at r band) (range_with_len 0 n))
    ≡ map (tile_at r band)
    (range_with_len (first_chunk r band) (min n (end_chunk r band) - first_chunk r band))
kept_chunks r band zero h starts each =
    let none : min zero (end_chunk r band) - first_chunk r band ≡ 0 = omega arith in
    ap (λ c. map (tile_at r band) (range_with_len (first_chunk r band) c)) (sym none)
kept_chunks r band (suc n) h starts each =
    let f = tile_at r band in
    let from = first_chunk r band in
    let to = end_chunk r band in
    let one : n + 1 ≡ suc n = omega arith in
    let here = in_range r band n h starts (each n (omega arith)) in
    subst (λ m. filter has_rows (map f (range_with_len 0 m)) ≡ map f (range_with_len from (min m to - from))) one
    (filter_of_map_range_with_len_more has_rows f 0 n n (omega arith)
    ∙ ap (λ ts. ts ++ cond (has_rows (f n)) (f n ∷ []) [])
    (kept_chunks r band n h starts (λ k below. each k (omega (arith, below))))
    ∙ step (has_rows (f n)) (sym here))
  where
    step : (t : Bool) → (nat_le (first_chunk r band) n && nat_lt n (end_chunk r band)) ≡ t
        → map (tile_at r band) (range_with_len (first_chunk r band) (min n (end_chunk r band) - first_chunk r band))
        ++ cond t (tile_at r band n ∷ []) []
        ≡ map (tile_at r band)
        (range_with_len (first_chunk r band) (min (n + 1) (end_chunk r band) - first_chunk r band))
    step true e =
        let from = first_chunk r band in
        let to = end_chunk r band in
        sym (map-range_with_len_more (tile_at r band) from (min n to - from) n (next_is from to n e))
        ∙ ap (λ c. map (tile_at r band) (range_with_len from c)) (sym (one_more from to n e))
    step false e =
        let from = first_chunk r band in
        let to = end_chunk r band in
        append-nil (map (tile_at r band) (range_with_len from (min n to - from)))
        ∙ ap (λ c. map (tile_at r band) (range_with_len from c)) (sym (no_more from to n e))

fewer_chunks : (u v width : ℕ) → 0 < width → u ≤ v → div_ceil u width ≤ div_ceil v width
fewer_chunks u v width pos le = elim (either (div_ceil u width) (div_ceil v width)) [
  | inl less ↦ less
  | inr more ↦
      let times : (div_ceil v width + 1) * width ≤ div_ceil u width * width = mul-le-mul_right width more in
      absurd (omega (arith, times, (div_ceil_times u width pos).1, (div_ceil_times v width pos).0))
]

end_within : (r : Region) (band : ℕ) → 0 < r.width → end_chunk r band ≤ chunks_of r
end_within r band pos = fewer_chunks (r.end - band * 65536 - r.first) (r.end - r.first) r.width pos (omega arith)

pub tiles_are : (r : Region) (band : ℕ) → IsRegion r → band < bands_of r
    → tiles_in r band
    ≡ map (tile_at r band) (range_with_len (first_chunk r band) (end_chunk r band - first_chunk r band))
tiles_are r band h lt =
    let some : min (chunks_of r) (end_chunk r band) ≡ end_chunk r band = omega (arith, end_within r band h.wide) in
    kept_chunks r band (chunks_of r) h (band_starts r.rows band lt)
    (λ k below. starts_before r.first r.end r.width k h.wide below)
    ∙ ap (λ n. map (tile_at r band) (range_with_len (first_chunk r band) (n - first_chunk r band))) some

pub chunk_starts : (r : Region) (band k : ℕ) → IsRegion r → k < end_chunk r band - first_chunk r band
    → r.first + (first_chunk r band + k) * r.width < r.end
chunk_starts r band k h lt =
    starts_before r.first r.end r.width (first_chunk r band + k) h.wide (omega (arith, lt, end_within r band h.wide))

-- ---- what each tile keeps to

rows_there : (a b : ℕ) → nat_le a b ≡ true → a ≤ b
rows_there a b e = grind (arith, nat_tests)

is_tile : (r : Region) (band k : ℕ) → IsRegion r → band * 65536 < r.rows → r.first + k * r.width < r.end
    → has_rows (tile_at r band k) ≡ true → IsTileBetween r.first r.end r.rows (tile_at r band k)
is_tile r band k h starts lt e = record {
  after = omega arith;
  ordered = omega (arith, h.wide);
  within = omega arith;
  some_rows = rows_there _ _ e;
  few_rows = omega arith;
  last_row = omega arith;
}

within_range : (from to k : ℕ) → k < to - from → (nat_le from (from + k) && nat_lt (from + k) to) ≡ true
within_range from to k lt = grind (arith, nat_tests)

-- what holds of each chunk that has rows in a band holds of each tile
module _ (P : Tile → Type 0) (r : Region) (h : IsRegion r)
    (is : (band k : ℕ) → band * 65536 < r.rows → r.first + k * r.width < r.end → has_rows (tile_at r band k) ≡ true
    → P (tile_at r band k)) where
  each_in : (band : ℕ) → band < bands_of r → All P (tiles_in r band)
  each_in band lt =
      let from = first_chunk r band in
      let n = end_chunk r band - from in
      let f = tile_at r band in
      subst (All P) (sym (tiles_are r band h lt))
      (λ k d within.
      let below : k < n = subst (λ m. k < m) (length-map-range_with_len f from n) within in
      let starts = chunk_starts r band k h below in
      subst P (sym (get_or-map-range_with_len f from n k (from + k) d below refl))
      (is band (from + k) (band_starts r.rows band lt) starts
      (in_range r band (from + k) h (band_starts r.rows band lt) starts
      ∙ within_range from (end_chunk r band) k below)))

  each_below : (n : ℕ) → n ≤ bands_of r → All P (tiles_below r n)
  each_below zero le = λ k d lt. absurd (omega (arith, lt))
  each_below (suc n) le =
      let one : n + 1 ≡ suc n = omega arith in
      subst (λ m. All P (tiles_below r m)) one
      (subst (All P) (sym (bands_more r n))
      (All-append P (tiles_below r n) (tiles_in r n) (each_below n (omega arith)) (each_in n (omega arith))))

pub are_tiles : (r : Region) → IsRegion r → All (IsTileBetween r.first r.end r.rows) (tiles_of r)
are_tiles r h =
    each_below (IsTileBetween r.first r.end r.rows) r h (λ band k starts lt e. is_tile r band k h starts lt e)
    (bands_of r) (omega arith)

is_tight : (r : Region) (band k : ℕ) → IsRegion r → r.first + k * r.width < r.end
    → IsTight r.origin r.end (tile_at r band k)
is_tight r band k h lt = record {
  few_diagonals = omega (arith, h.narrow);
  first_row = omega arith;
  last_row = omega arith;
}

pub are_tight : (r : Region) → IsRegion r → All (IsTight r.origin r.end) (tiles_of r)
are_tight r h =
    each_below (IsTight r.origin r.end) r h (λ band k _ lt _. is_tight r band k h lt) (bands_of r) (omega arith)

-- ---- how many tiles there are

ceil_is_less : (a b : ℕ) → 0 < b → div_ceil a b ≤ a
ceil_is_less a b pos = elim (either (div_ceil a b) a) [
  | inl less ↦ less
  | inr more ↦
      let times : (a + 1) * b ≤ div_ceil a b * b = mul-le-mul_right b more in
      let least : a * 1 ≤ a * b = mul-le-mul_left a pos in
      absurd (omega (arith, times, least, (div_ceil_times a b pos).1))
]

pub count_in : (r : Region) (band : ℕ) → IsRegion r → band < bands_of r
    → length (tiles_in r band) ≡ end_chunk r band - first_chunk r band
count_in r band h lt =
    ap length (tiles_are r band h lt)
    ∙ length-map-range_with_len (tile_at r band) (first_chunk r band) (end_chunk r band - first_chunk r band)

few_in : (r : Region) (band : ℕ) → IsRegion r → band < bands_of r → length (tiles_in r band) ≤ 524287
few_in r band h lt =
    omega (
      arith,
      count_in r band h lt,
      ceil_is_less (r.end - band * 65536 - r.first) r.width h.wide,
      h.few_diagonals,
    )

count_more : (r : Region) (n : ℕ) → length (tiles_below r (n + 1))
    ≡ length (tiles_below r n) + length (tiles_in r n)
count_more r n = ap length (bands_more r n) ∙ length-append (tiles_below r n) (tiles_in r n)

pub counted : (r : Region) (band count first n : ℕ) → count ≡ length (tiles_below r band)
    → tiles_in r band ≡ map (tile_at r band) (range_with_len first n) → count + n ≡ length (tiles_below r (band + 1))
counted r band count first n e are =
    let here : length (tiles_in r band) ≡ n = ap length are ∙ length-map-range_with_len (tile_at r band) first n in
    omega (arith, e, here, count_more r band)

pub few_below : (r : Region) (n : ℕ) → IsRegion r → n ≤ bands_of r → length (tiles_below r n) ≤ n * 524287
few_below r zero h le = omega arith
few_below r (suc n) h le =
    let one : n + 1 ≡ suc n = omega arith in
    subst (λ m. length (tiles_below r m) ≤ m * 524287) one
    (omega (arith, count_more r n, few_below r n h (omega arith), few_in r n h (omega arith)))

pub few_bands : (r : Region) → IsRegion r → bands_of r ≤ 4
few_bands r h = omega (arith, h.few_rows, (div_ceil_times r.rows 65536 (omega arith)).1)

pub few_tiles : (r : Region) → IsRegion r → length (tiles_of r) ≤ 2097152
few_tiles r h = omega (arith, few_below r (bands_of r) h (omega arith), few_bands r h)

-- ---- the tile of a number

below_found : (r : Region) (band place k n : ℕ) (d : Tile) → band < n → place < length (tiles_in r band)
    → k ≡ length (tiles_below r band) + place
    → (k < length (tiles_below r n)) × (get_or (tiles_below r n) k d ≡ get_or (tiles_in r band) place d)
below_found r band place k zero d lt within e = absurd (omega (arith, lt))
below_found r band place k (suc n) d lt within e =
    let one : n + 1 ≡ suc n = omega arith in
    subst (λ m. (k < length (tiles_below r m)) × (get_or (tiles_below r m) k d ≡ get_or (tiles_in r band) place d)) one
    (elim (either n band) [
      | inl last ↦
          let same : band ≡ n = omega (arith, lt) in
          let here : place < length (tiles_in r n) = subst (λ b. place < length (tiles_in r b)) same within in
          let at : k ≡ length (tiles_below r n) + place = e ∙ ap (λ b. length (tiles_below r b) + place) same in (
            omega (arith, at, here, count_more r n),
            ap (λ ts. get_or ts k d) (bands_more r n) ∙ ap (λ i. get_or (tiles_below r n ++ tiles_in r n) i d) at
                ∙ get_or-append-add (tiles_below r n) (tiles_in r n) place d
                ∙ ap (λ b. get_or (tiles_in r b) place d) (sym same),
          )
      | inr before ↦
          let found = below_found r band place k n d (omega (arith, before)) within e in (
            omega (arith, found.0, count_more r n),
            ap (λ ts. get_or ts k d) (bands_more r n)
                ∙ get_or_append_left (tiles_below r n) (tiles_in r n) d k found.0 ∙ found.1,
          )
    ])

-- a band in which a number below the count may stand is there
pub band_there : (r : Region) (band place k : ℕ) (tiles : List Tile) → tiles_of r ≡ tiles → k < length tiles
    → k ≡ length (tiles_below r band) + place → band ≤ bands_of r → band < bands_of r
band_there r band place k tiles same lt e le = elim (either (bands_of r) band) [
  | inl last ↦
      let at : length (tiles_below r band) ≡ length tiles =
      ap (λ n. length (tiles_below r n)) (omega (arith, last, le)) ∙ ap length same in
      absurd (omega (arith, at, e, lt))
  | inr before ↦ omega (arith, before)
]

pub tile_found : (r : Region) (band place k first count : ℕ) (tiles : List Tile) → tiles_of r ≡ tiles
    → band < bands_of r → tiles_in r band ≡ map (tile_at r band) (range_with_len first count) → place < count
    → k ≡ length (tiles_below r band) + place → slice_get tiles k ≡ Some (tile_at r band (first + place))
tile_found r band place k first count tiles same lt are within e =
    let f = tile_at r band in
    let there : place < length (tiles_in r band) =
    omega (arith, ap length are, length-map-range_with_len f first count, within) in
    let found = below_found r band place k (bands_of r) no_tile lt there e in
    subst (λ ts. slice_get ts k ≡ Some (f (first + place))) same
    (slice_get-get_or (tiles_of r) k no_tile found.0
    ∙ ap Some (found.1 ∙ ap (λ ts. get_or ts place no_tile) are
    ∙ get_or-map-range_with_len f first count place (first + place) no_tile within refl))

-- ---- the cuts

-- a first diagonal past every number is past every window
empty_band : (r : Region) (band : ℕ) → 0 < r.width → r.end ≤ r.first → tiles_in r band ≡ []
empty_band r band pos le =
    let none : chunks_of r ≡ 0 = omega (arith, ceil_is_less (r.end - r.first) r.width pos) in
    ap (λ n. filter has_rows (map (tile_at r band) (range_with_len 0 n))) none

empty_below : (r : Region) (n : ℕ) → 0 < r.width → r.end ≤ r.first → tiles_below r n ≡ []
empty_below r zero pos le = refl
empty_below r (suc n) pos le =
    let one : n + 1 ≡ suc n = omega arith in
    subst (λ m. tiles_below r m ≡ []) one
    (bands_more r n ∙ ap (λ ts. ts ++ tiles_in r n) (empty_below r n pos le) ∙ empty_band r n pos le)

pub same_tiles : (w excl width first : ℕ) → w ≤ 262144 → 0 < width → first ≡ min (excl + 1) 18446744073709551615
    → tiles_of (record { first = first; end = w; origin = 0; rows = w; width = width }) ≡ own_tiles w excl width
same_tiles w excl width first small pos e = elim (either (excl + 1) w) [
  | inl some ↦
      let same : first ≡ excl + 1 = omega arith in
      ap (λ f. tiles_of (record { first = f; end = w; origin = 0; rows = w; width = width })) same
  | inr none ↦
      empty_below (record { first = first; end = w; origin = 0; rows = w; width = width })
      (div_ceil w 65536) pos (omega arith)
      ∙ sym (empty_below (record { first = excl + 1; end = w; origin = 0; rows = w; width = width })
      (div_ceil w 65536) pos (omega (arith, none)))
]

pub diagonals_few : (wa wb : ℕ) → wa ≤ 262144 → wb ≤ 262144 → diagonals_between wa wb ≤ 524287
diagonals_few wa wb le le' = grind (arith, nat_tests)

origin_before : (wa wb : ℕ) → 0 < diagonals_between wa wb → wa - 1 < diagonals_between wa wb
origin_before wa wb lt = grind (arith, nat_tests)

pub own_is_region : (w excl width : ℕ) → w ≤ 262144 → 0 < width → width ≤ 65536 → IsRegion (own_region w excl width)
own_is_region w excl width few pos le = record {
  wide = pos;
  narrow = le;
  few_rows = few;
  few_diagonals = omega arith;
  origin_row = λ some. some;
  origin_diagonal = λ some. some;
}

pub both_is_region : (wa wb width : ℕ) → wa ≤ 262144 → wb ≤ 262144 → 0 < width → width ≤ 65536
    → IsRegion (both_region wa wb width)
both_is_region wa wb width few few' pos le = record {
  wide = pos;
  narrow = le;
  few_rows = few;
  few_diagonals = diagonals_few wa wb few few';
  origin_row = λ some. omega (arith, some);
  origin_diagonal = λ some. origin_before wa wb some;
}
