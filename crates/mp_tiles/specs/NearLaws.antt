-- Which pairs the tiles of the windows that start close together have.
use Rattle.std.proofs.Common.{◌≡◌, ℕ, zero, suc, ◌+◌, ◌-◌, ◌*◌, ◌<◌, ◌≤◌, inl, inr, min, length, get_or, Bool}
use Rattle.std.proofs.Common.{false, sym, ap, ◌∙◌, arith, subst}
use Rattle.std.specs.Prelude.{All, ◌&&◌, ◌||◌, nat_le, nat_lt, map}
use Rattle.std.specs.Int.{abs_diff, div_ceil}
use Rattle.std.specs.List.{range_with_len}
use Rattle.std.proofs.Math.Nat.{mul-le-mul_left, mul-le-mul_right}
use Rattle.std.proofs.lemmas.Bool.Decides.{nat_tests}
use Rattle.std.proofs.lemmas.Grind.{div_ceil_times}
use Rattle.std.proofs.lemmas.List.FromFn.{length-map-range_with_len, get_or-map-range_with_len}
use Rattle.mp_cuts.specs.declared.cuts.Tile.{Tile}
use Rattle.mp_cuts.specs.Pairs.{has_pair, IsTileBetween}
use Rattle.mp_cuts.specs.CutLaws.{either, starts_before}
use Rattle.mp_tiles.specs.declared.near.Bands.{Bands}
use Rattle.mp_tiles.specs.Among.{either_way}
use Rattle.mp_tiles.specs.Near.{IsBands, band_at, bands_of}
use Rattle.mp_tiles.specs.PairLaws.{are_apart, some_has, some_more}

-- ---- bands

pub bands_count : (bands : Bands) → length (bands_of bands) ≡ div_ceil bands.rows bands.height
bands_count bands = length-map-range_with_len (band_at bands) 0 (div_ceil bands.rows bands.height)

pub band_is : (bands : Bands) (k : ℕ) (d : Tile) → k < div_ceil bands.rows bands.height
    → get_or (bands_of bands) k d ≡ band_at bands k
band_is bands k d lt =
    get_or-map-range_with_len (band_at bands) 0 (div_ceil bands.rows bands.height) k k d lt (omega arith)

-- a band has a row
pub top_below : (rows height k : ℕ) → 0 < height → k < div_ceil rows height → k * height < rows
top_below rows height k pos lt =
    let same : rows ≡ rows - 0 = omega arith in
    omega (arith, starts_before 0 rows height k pos (subst (λ n. k < div_ceil n height) same lt))

pub bands_few : (rows height : ℕ) → 0 < height → div_ceil rows height ≤ rows
bands_few rows height pos = elim (either (div_ceil rows height) rows) [
  | inl few ↦ few
  | inr more ↦
      let least : rows * 1 ≤ rows * height = mul-le-mul_left rows pos in
      absurd (omega (arith, least, top_below rows height rows pos (omega (arith, more))))
]

pub band_between : (start w : ℕ) (bands : Bands) (k : ℕ) → IsBands start w bands
    → k < div_ceil bands.rows bands.height → IsTileBetween start w w (band_at bands k)
band_between start w bands k h lt =
    let there = top_below bands.rows bands.height k h.high lt in
    record {
      after = omega (arith, h.from);
      ordered = h.ordered;
      within = h.within (omega (arith, there));
      some_rows = omega (arith, there, h.high);
      few_rows = omega (arith, h.low, h.high);
      last_row = omega (arith, there, h.all, h.high);
    }

pub bands_between : (start w : ℕ) (bands : Bands) → IsBands start w bands
    → All (IsTileBetween start w w) (bands_of bands)
bands_between start w bands h k d lt =
    let within : k < div_ceil bands.rows bands.height = subst (λ n. k < n) (bands_count bands) lt in
    subst (IsTileBetween start w w) (sym (band_is bands k d within)) (band_between start w bands k h within)

-- ---- the pairs of all bands

-- windows i and j lie on the diagonals of bands
abbrev on_bands : Bands → ℕ → ℕ → Bool
on_bands bands i j = nat_le (i + bands.first) (j + 0) && nat_le (j + 0) (i + bands.last)

-- row i is one of those from a first one on, and before an end and a number of rows
abbrev in_rows : ℕ → ℕ → ℕ → ℕ → Bool
in_rows top end rows i = nat_le top i && nat_lt i (min end rows)

no_rows : (on : Bool) (top rows i : ℕ) → false ≡ (on && in_rows top top rows i)
no_rows on top rows i = grind (arith, nat_tests)

next_rows : (on : Bool) (top height end rows i : ℕ) → top < rows → 0 < height → top + height ≤ end
    → ((on && (nat_le top i && nat_le i (min (top + height) rows - 1))) || (on && in_rows (top + height) end rows i))
    ≡ (on && in_rows top end rows i)
next_rows on top height end rows i some high le = grind (arith, nat_tests)

-- some bands have the pairs of their rows
bands_have : (bands : Bands) (i j k n : ℕ) → 0 < bands.height
    → ((q : ℕ) → q < k + n → q * bands.height < bands.rows)
    → some_has 0 (map (band_at bands) (range_with_len k n)) i j
    ≡ (on_bands bands i j && in_rows (k * bands.height) ((k + n) * bands.height) bands.rows i)
bands_have bands i j k zero high some =
    let same : k + zero ≡ k = omega arith in
    no_rows (on_bands bands i j) (k * bands.height) bands.rows i
    ∙ ap (λ e. on_bands bands i j && in_rows (k * bands.height) (e * bands.height) bands.rows i) (sym same)
bands_have bands i j k (suc n) high some =
    let on = on_bands bands i j in
    let height = bands.height in
    let more = map (band_at bands) (range_with_len (k + 1) n) in
    let next : (k + 1) * height ≡ k * height + height = omega arith in
    let last : k + 1 + n ≡ k + suc n = omega arith in
    let le : (k + 1) * height ≤ (k + suc n) * height = mul-le-mul_right height (omega arith) in
    sym (some_more 0 (band_at bands k) more i j)
    ∙ ap (λ p. has_pair 0 (band_at bands k) i j || p)
    (bands_have bands i j (k + 1) n high (λ q lt. some q (omega (arith, lt)))
    ∙ ap (λ top. on && in_rows top ((k + 1 + n) * height) bands.rows i) next
    ∙ ap (λ e. on && in_rows (k * height + height) (e * height) bands.rows i) last)
    ∙ next_rows on (k * height) height ((k + suc n) * height) bands.rows i (some k (omega arith)) high
    (omega (arith, le, next))

all_rows : (i j w start last rows top end : ℕ) → j < w → rows ≡ w - start → rows ≤ end → top ≡ 0
    → ((nat_le (i + start) (j + 0) && nat_le (j + 0) (i + last)) && in_rows top end rows i)
    ≡ (nat_le (i + start) j && nat_le j (i + last))
all_rows i j w start last rows top end lt e le z = grind (arith, nat_tests)

-- all bands have the pairs of their diagonals
bands_have_all : (start w : ℕ) (bands : Bands) → IsBands start w bands → (i j : ℕ) → j < w
    → some_has 0 (bands_of bands) i j ≡ (nat_le (i + bands.first) j && nat_le j (i + bands.last))
bands_have_all start w bands h i j lt =
    let count = div_ceil bands.rows bands.height in
    bands_have bands i j 0 count h.high (λ q below. top_below bands.rows bands.height q h.high (omega (arith, below)))
    ∙ all_rows i j w bands.first bands.last bands.rows (0 * bands.height) ((0 + count) * bands.height) lt
    (omega (arith, h.all, h.from)) (omega (arith, (div_ceil_times bands.rows bands.height h.high).0)) (omega arith)

-- ---- with the windows that start further apart

near_or_further : (zone first last i j : ℕ) → first ≡ zone + 1 → first ≤ last
    → (((nat_le (i + first) j && nat_le j (i + last)) || (nat_le (j + first) i && nat_le i (j + last)))
    || nat_lt last (abs_diff i j)) ≡ nat_lt zone (abs_diff i j)
near_or_further zone first last i j from le = grind (arith, nat_tests)

-- windows that start further apart than a zone are near ones or start further apart than these
pub near_or_apart : (zone w : ℕ) (bands : Bands) → IsBands (zone + 1) w bands → (i j : ℕ) → i < w → j < w
    → (either_way (some_has 0 (bands_of bands)) i j || are_apart bands.last i j) ≡ are_apart zone i j
near_or_apart zone w bands h i j lt lt' =
    let near = some_has 0 (bands_of bands) in
    ap (λ p. (p || near j i) || are_apart bands.last i j) (bands_have_all (zone + 1) w bands h i j lt')
    ∙ ap (λ p. ((nat_le (i + bands.first) j && nat_le j (i + bands.last)) || p) || are_apart bands.last i j)
    (bands_have_all (zone + 1) w bands h j i lt)
    ∙ near_or_further zone bands.first bands.last i j h.from h.ordered
