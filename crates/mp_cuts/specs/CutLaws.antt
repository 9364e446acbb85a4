-- Why each pair that is cut lies in exactly one tile.
use Rattle.std.proofs.Common.{◌≡◌, ℕ, zero, suc, ◌+◌, ◌-◌, ◌*◌, ◌<◌, ◌≤◌, ◌⊎◌, inl, inr, min, max, List, [], ◌∷◌}
use Rattle.std.proofs.Common.{◌++◌, Bool, true, false, refl, sym, ap, ◌∙◌, arith, subst, cond}
use Rattle.std.specs.Prelude.{map, filter, flat_map, count_by, nat_le, nat_lt, ◌&&◌, if◌then◌else◌}
use Rattle.std.specs.List.{range_with_len}
use Rattle.std.specs.Int.{div_ceil}
use Rattle.std.proofs.Math.Nat.{mul-le-mul_right}
use Rattle.std.proofs.lemmas.Bool.Decides.{nat_tests}
use Rattle.std.proofs.lemmas.Grind.{div_ceil_times, flat_map-append}
use Rattle.std.proofs.lemmas.List.{append-nil, map-id}
use Rattle.std.proofs.lemmas.List.Sums.{sum_by-append}
use Rattle.std.proofs.lemmas.List.FromFn.{map-range_with_len_more}
use Rattle.mp_cuts.specs.declared.cuts.Tile.{Tile}
use Rattle.mp_cuts.specs.declared.cuts.Region.{Region}
use Rattle.mp_cuts.specs.Pairs.{has_pair}
use Rattle.mp_cuts.specs.Cutting.{chunks_of, bands_of, tile_at, has_rows, tiles_in, tiles_of, own_region, own_tiles}
use Rattle.mp_cuts.specs.Cutting.{both_region, both_tiles, diagonals_between}
use Rattle.mp_cuts.specs.Laws.{CutsHoldEachPairOnce}

-- ---- chunks

-- a chunk has a diagonal
pub starts_before : (first end width k : ℕ) → 0 < width → k < div_ceil (end - first) width → first + k * width < end
starts_before first end width k pos lt =
    let more : (k + 1) * width ≤ div_ceil (end - first) width * width = mul-le-mul_right width (omega (arith, lt)) in
    omega (arith, more, (div_ceil_times (end - first) width pos).1)

-- the chunks go to the end
ends_after : (first end width : ℕ) → 0 < width → end ≤ first + div_ceil (end - first) width * width
ends_after first end width pos = omega (arith, (div_ceil_times (end - first) width pos).0)

pub either : (a b : ℕ) → (a ≤ b) ⊎ (b + 1 ≤ a)
either a b = grind arith

-- ---- bands

-- the tiles of the first n bands
abbrev pub tiles_below : Region → ℕ → List Tile
tiles_below r n = flat_map (tiles_in r) (range_with_len 0 n)

range_more : (n : ℕ) → range_with_len 0 (n + 1) ≡ range_with_len 0 n ++ n ∷ []
range_more n =
    sym (map-id (range_with_len 0 (n + 1))) ∙ map-range_with_len_more (λ (k : ℕ). k) 0 n n (omega arith)
    ∙ ap (λ ks. ks ++ n ∷ []) (map-id (range_with_len 0 n))

pub bands_more : (r : Region) (n : ℕ) → tiles_below r (n + 1) ≡ tiles_below r n ++ tiles_in r n
bands_more r n =
    ap (flat_map (tiles_in r)) (range_more n) ∙ flat_map-append (tiles_in r) (range_with_len 0 n) (n ∷ [])
    ∙ ap (λ ts. tiles_below r n ++ ts) (append-nil (tiles_in r n))

-- a band starts before the last row
pub band_starts : (rows band : ℕ) → band < div_ceil rows 65536 → band * 65536 < rows
band_starts rows band lt =
    let same : rows ≡ rows - 0 = omega arith in
    omega (arith, starts_before 0 rows 65536 band (omega arith) (subst (λ n. band < div_ceil n 65536) same lt))

-- ---- how many tiles have a pair

-- 1 where the test holds
abbrev once : Bool → ℕ
once test = if test then 1 else 0

count_append : (p : Tile → Bool) (xs ys : List Tile) → count_by p (xs ++ ys) ≡ count_by p xs + count_by p ys
count_append p xs ys = omega (arith, sum_by-append (λ x. if p x then 1 else 0) xs ys)

count_cons : (p : Tile → Bool) (x : Tile) (xs : List Tile) → count_by p (x ∷ xs) ≡ once (p x) + count_by p xs
count_cons p x xs = omega (arith, count_append p (x ∷ []) xs)

count_push : (p : Tile → Bool) (xs : List Tile) (y : Tile) → count_by p (xs ++ y ∷ []) ≡ count_by p xs + once (p y)
count_push p xs y = omega (arith, sum_by-append (λ x. if p x then 1 else 0) xs (y ∷ []))

-- what a filter drops isn't counted
all_kept : (p q : Tile → Bool) → ((t : Tile) → p t ≡ true → q t ≡ true) → (xs : List Tile)
    → count_by p (filter q xs) ≡ count_by p xs
all_kept p q h [] = refl
all_kept p q h (x ∷ xs) = here (q x) refl (all_kept p q h xs)
  where
    not_counted : (t : Bool) → p x ≡ t → q x ≡ false → once (p x) ≡ 0
    not_counted false e f = ap once e
    not_counted true e f = absurd (cc (h x e))

    here : (t : Bool) → q x ≡ t → count_by p (filter q xs) ≡ count_by p xs
        → count_by p (cond t (x ∷ filter q xs) (filter q xs)) ≡ count_by p (x ∷ xs)
    here true e more =
        count_cons p x (filter q xs) ∙ ap (λ n. once (p x) + n) more ∙ sym (count_cons p x xs)
    here false e more = omega (arith, more, count_cons p x xs, not_counted (p x) refl e)

-- the diagonals from first on and before end have the pair of i and y
abbrev between : ℕ → ℕ → ℕ → ℕ → Bool
between first end i y = nat_le (i + first) y && nat_lt y (i + end)

-- a band has row i
abbrev in_rows : ℕ → ℕ → ℕ → Bool
in_rows rows band i = nat_lt i rows && (nat_le (band * 65536) i && nat_lt i (band * 65536 + 65536))

none_yet : (i y first end : ℕ) (r : Bool) → ◌≡◌ {A = ℕ} 0 (once (between first (min (first + 0) end) i y && r))
none_yet i y first end r = grind (arith, nat_tests)

next_chunk : (i y first a end width : ℕ) (r : Bool) → first ≤ a → a < end → 0 < width
    → once (between first (min a end) i y && r)
    + once ((nat_le (i + a) y && nat_le y (i + (min (a + width) end - 1))) && r)
    ≡ once (between first (min (a + width) end) i y && r)
next_chunk i y first a end width r le lt pos = grind (arith, nat_tests)

when : (d s r : Bool) → (d ≡ true → s ≡ r) → (d && s) ≡ (d && r)
when true s r h = h refl
when false s r h = refl

-- on its diagonals, a chunk has the rows of the band
chunk_rows : (i j origin a last end rows lo : ℕ) → 0 < rows → j + origin < end
    → (nat_le (i + a) (j + origin) && nat_le (j + origin) (i + last)) ≡ true
    → (nat_le (max (origin - last) lo) i && nat_le i (min (min rows (end - a)) (lo + 65536) - 1))
    ≡ (nat_lt i rows && (nat_le lo i && nat_lt i (lo + 65536)))
chunk_rows i j origin a last end rows lo pos lt on = grind (arith, nat_tests)

-- in a band the first n chunks have the diagonals before the next one, each once
chunks_have : (r : Region) (band i j n : ℕ) → 0 < r.width → 0 < r.rows → j + r.origin < r.end
    → ((k : ℕ) → k < n → r.first + k * r.width < r.end)
    → count_by (λ t. has_pair r.origin t i j) (map (tile_at r band) (range_with_len 0 n))
    ≡ once (between r.first (min (r.first + n * r.width) r.end) i (j + r.origin) && in_rows r.rows band i)
chunks_have r band i j zero pos some lt starts =
    let z : r.first + zero * r.width ≡ r.first + 0 = omega arith in
    none_yet i (j + r.origin) r.first r.end (in_rows r.rows band i)
    ∙ ap (λ x. once (between r.first (min x r.end) i (j + r.origin) && in_rows r.rows band i)) (sym z)
chunks_have r band i j (suc n) pos some lt starts =
    let one : n + 1 ≡ suc n = omega arith in
    let p : Tile → Bool = λ t. has_pair r.origin t i j in
    let before = map (tile_at r band) (range_with_len 0 n) in
    let last = tile_at r band n in
    let a = r.first + n * r.width in
    let rows = in_rows r.rows band i in
    let more : map (tile_at r band) (range_with_len 0 (suc n)) ≡ before ++ last ∷ [] =
    subst (λ m. map (tile_at r band) (range_with_len 0 m) ≡ before ++ last ∷ []) one
    (map-range_with_len_more (tile_at r band) 0 n n (omega arith)) in
    let next : r.first + suc n * r.width ≡ a + r.width = omega arith in
    ap (count_by p) more ∙ count_push p before last
    ∙ ap (λ x. x + once (p last)) (chunks_have r band i j n pos some lt (λ k below. starts k (omega (arith, below))))
    ∙ ap (λ x. once (between r.first (min a r.end) i (j + r.origin) && rows) + once x)
    (when (nat_le (i + a) (j + r.origin) && nat_le (j + r.origin) (i + last.last)) _ rows
    (chunk_rows i j r.origin a last.last r.end r.rows (band * 65536) some lt))
    ∙ next_chunk i (j + r.origin) r.first a r.end r.width rows (omega arith) (starts n (omega arith)) pos
    ∙ ap (λ x. once (between r.first (min x r.end) i (j + r.origin) && rows)) (sym next)

all_chunks : (i y first end x : ℕ) (r : Bool) → end ≤ x
    → once (between first (min x end) i y && r) ≡ once (between first end i y && r)
all_chunks i y first end x r le = grind (arith, nat_tests)

pair_has_row : (origin i j : ℕ) (t : Tile) → has_pair origin t i j ≡ true → has_rows t ≡ true
pair_has_row origin i j t e = grind (arith, nat_tests)

band_has : (r : Region) (band i j : ℕ) → 0 < r.width → 0 < r.rows → j + r.origin < r.end
    → count_by (λ t. has_pair r.origin t i j) (tiles_in r band)
    ≡ once (between r.first r.end i (j + r.origin) && in_rows r.rows band i)
band_has r band i j pos some lt =
    all_kept (λ t. has_pair r.origin t i j) has_rows (pair_has_row r.origin i j)
    (map (tile_at r band) (range_with_len 0 (chunks_of r)))
    ∙ chunks_have r band i j (chunks_of r) pos some lt (λ k below. starts_before r.first r.end r.width k pos below)
    ∙ all_chunks i (j + r.origin) r.first r.end (r.first + chunks_of r * r.width) (in_rows r.rows band i)
    (ends_after r.first r.end r.width pos)

no_bands : (t u : Bool) (i : ℕ) → ◌≡◌ {A = ℕ} 0 (once (t && (u && nat_lt i (zero * 65536))))
no_bands t u i = grind (arith, nat_tests)

next_band : (t u : Bool) (i lo next : ℕ) → next ≡ lo + 65536
    → once (t && (u && nat_lt i lo)) + once (t && (u && (nat_le lo i && nat_lt i (lo + 65536))))
    ≡ once (t && (u && nat_lt i next))
next_band t u i lo next e = grind (arith, nat_tests)

-- the first n bands have the rows before the next one, each once
bands_have : (r : Region) (i j n : ℕ) → 0 < r.width → 0 < r.rows → j + r.origin < r.end
    → count_by (λ t. has_pair r.origin t i j) (tiles_below r n)
    ≡ once (between r.first r.end i (j + r.origin) && (nat_lt i r.rows && nat_lt i (n * 65536)))
bands_have r i j zero pos some lt = no_bands (between r.first r.end i (j + r.origin)) (nat_lt i r.rows) i
bands_have r i j (suc n) pos some lt =
    let one : n + 1 ≡ suc n = omega arith in
    let p : Tile → Bool = λ t. has_pair r.origin t i j in
    subst (λ m. count_by p (tiles_below r m) ≡ count_by p (tiles_below r n ++ tiles_in r n)) one
    (ap (count_by p) (bands_more r n)) ∙ count_append p (tiles_below r n) (tiles_in r n)
    ∙ ap (λ x. x + count_by p (tiles_in r n)) (bands_have r i j n pos some lt)
    ∙ ap (λ x. once (between r.first r.end i (j + r.origin) && (nat_lt i r.rows && nat_lt i (n * 65536))) + x)
    (band_has r n i j pos some lt)
    ∙ next_band (between r.first r.end i (j + r.origin)) (nat_lt i r.rows) i (n * 65536) (suc n * 65536) (omega arith)

all_bands : (t : Bool) (i rows x : ℕ) → rows ≤ x → once (t && (nat_lt i rows && nat_lt i x)) ≡ once (t && nat_lt i rows)
all_bands t i rows x le = grind (arith, nat_tests)

no_rows : (t : Bool) (i : ℕ) → ◌≡◌ {A = ℕ} 0 (once (t && nat_lt i 0))
no_rows t i = grind (arith, nat_tests)

-- each pair of the region lies in exactly one tile, and no other pair in any
pairs_once : (r : Region) → 0 < r.width → (i j : ℕ) → j + r.origin < r.end
    → count_by (λ t. has_pair r.origin t i j) (tiles_of r)
    ≡ once (between r.first r.end i (j + r.origin) && nat_lt i r.rows)
pairs_once r pos i j lt = elim (either r.rows 0) [
  | inl none ↦
      let none : r.rows ≡ 0 = omega arith in
      subst (λ rows. count_by (λ t. has_pair r.origin t i j) (flat_map (tiles_in r) (range_with_len 0
      (div_ceil rows 65536))) ≡ once (between r.first r.end i (j + r.origin) && nat_lt i rows)) (sym none)
      (no_rows (between r.first r.end i (j + r.origin)) i)
  | inr some ↦
      bands_have r i j (bands_of r) pos some lt
      ∙ all_bands (between r.first r.end i (j + r.origin)) i r.rows (bands_of r * 65536)
      (omega (arith, (div_ceil_times r.rows 65536 (omega arith)).0))
]

-- ---- within a series

outside_zone : (i j excl w : ℕ) → j < w
    → once (between (excl + 1) w i (j + 0) && nat_lt i w) ≡ once (nat_lt (i + excl) j)
outside_zone i j excl w lt = grind (arith, nat_tests)

later_outside : (i j excl : ℕ) → nat_lt (i + excl) j ≡ (nat_lt i j && nat_lt (i + excl) j)
later_outside i j excl = grind (arith, nat_tests)

pub own_pairs_once : (w excl width : ℕ) → 0 < width → (i j : ℕ) → j < w
    → count_by (λ t. has_pair 0 t i j) (own_tiles w excl width) ≡ once (nat_lt (i + excl) j)
own_pairs_once w excl width pos i j lt =
    pairs_once (own_region w excl width) pos i j (omega (arith, lt)) ∙ outside_zone i j excl w lt

-- ---- between two series

some_diagonals : (wa wb i j : ℕ) → i < wa → j < wb → diagonals_between wa wb ≡ wa + wb - 1
some_diagonals wa wb i j lt lt' = grind (arith, nat_tests)

every_pair : (wa wb i j end : ℕ) → i < wa → j < wb → end ≡ wa + wb - 1
    → once (between 0 end i (j + (wa - 1)) && nat_lt i wa) ≡ 1
every_pair wa wb i j end lt lt' e = grind (arith, nat_tests)

pub both_pairs_once : (wa wb width : ℕ) → 0 < width → (i j : ℕ) → i < wa → j < wb
    → count_by (λ t. has_pair (wa - 1) t i j) (both_tiles wa wb width) ≡ 1
both_pairs_once wa wb width pos i j lt lt' =
    let all : diagonals_between wa wb ≡ wa + wb - 1 = some_diagonals wa wb i j lt lt' in
    pairs_once (both_region wa wb width) pos i j (omega (arith, lt, lt', all))
    ∙ every_pair wa wb i j (diagonals_between wa wb) lt lt' all

-- ---- the cuts

pub cuts_hold_each_pair_once : CutsHoldEachPairOnce
cuts_hold_each_pair_once = record {
  own = λ w excl width pos i j lt.
      own_pairs_once w excl width pos i j lt ∙ ap once (later_outside i j excl);
  both = both_pairs_once;
}
