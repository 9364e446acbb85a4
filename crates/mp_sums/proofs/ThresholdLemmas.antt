-- Thresholds in 64 bits, of limits that have 32 bits in squares of the unit.
use Rattle.std.proofs.Common.{◌≡◌, ℕ, ◌+◌, ◌-◌, ◌*◌, ◌/◌, ◌%◌, ◌^◌, ◌<◌, ◌≤◌, Bool, true, false, refl, sym, arith, ap}
use Rattle.std.proofs.Common.{◌∙◌}
use Rattle.std.proofs.lemmas.Nat.{mul-le, shl_whole, shr_le, leading_le, leading_length}
use Rattle.std.proofs.Math.Nat.{pow-le-pow_right}
use Rattle.std.specs.Prelude.{◌==◌, if◌then◌else◌, nat_le}
use Rattle.std.specs.Int.{w64, leading_zeros}
use Rattle.std.proofs.lemmas.Bool.Decides.{nat_tests}
use Rattle.mp_sums.specs.Rounding.{weight, widened_least, threshold}

-- ---- weights

short : (b : Bool) (m a : ℕ) → nat_le 33 m ≡ b → a < 2 ^ 32 → 2 ^ m ≤ 2 * a + 1 → m ≤ 32
short true m a e lt le =
    let long : 33 ≤ m = grind (arith, nat_tests) in
    let more : 2 ^ 33 ≤ 2 ^ m = pow-le-pow_right (omega arith) long in
    absurd (omega (arith, more, lt, le))
short false m a e lt le = grind (arith, nat_tests)

zeros_in_front : (a : ℕ) → a < 2 ^ 32 → 32 ≤ leading_zeros w64 a
zeros_in_front a lt =
    let bits = leading_length 64 a (omega (arith, lt)) in
    omega (arith, bits.1, short (nat_le 33 bits.0) bits.0 a refl lt bits.3)

pub weight_small : (m a : ℕ) → a < 2 ^ 32 → weight m a ≤ 16
weight_small m a lt = omega (arith, leading_le 64 m, zeros_in_front a lt)

pub weight_is : (a b m k r : ℕ) → k ≡ m → b ≡ a → r ≡ leading_zeros w64 k - leading_zeros w64 b
    → r / 2 ≡ weight m a
weight_is a b m k r same there e =
    ap (λ n. n / 2) (e ∙ ap (λ n. leading_zeros w64 n - leading_zeros w64 b) same
    ∙ ap (λ n. leading_zeros w64 m - leading_zeros w64 n) there)

-- m weighted
weighted : (m c : ℕ) → m < 2 ^ 32 → c ≤ 16 → (m * 2 ^ c) % 2 ^ 64 ≡ m * 2 ^ c
weighted m c lt le = shl_whole m 32 c 64 lt (omega arith)

weighted_below : (m c : ℕ) → m < 2 ^ 32 → c ≤ 16 → m * 2 ^ c ≤ 2 ^ 48
weighted_below m c lt le =
    let power : 2 ^ c ≤ 2 ^ 16 = pow-le-pow_right (omega arith) le in
    mul-le m (2 ^ c) (2 ^ 32) (2 ^ 16) (omega arith) power

-- no sum on the way leaves 64 bits
pub all_below : (a m k w : ℕ) → a < 2 ^ 32 → m < 2 ^ 32 → k ≡ m → w ≤ 16
    → a + a / 2 ^ w + 1 + k + (k * 2 ^ w) % 2 ^ 64 < 2 ^ 64
all_below a m k w lt small same le =
    let few : k < 2 ^ 32 = omega (arith, small, same) in
    omega (arith, shr_le a w, weighted k w few le, weighted_below k w few le, few, lt)

pub widened_is : (a m k w : ℕ) → k ≡ m → w ≡ weight m a → w ≤ 16 → m < 2 ^ 32
    → a + a / 2 ^ w + 1 + k + (k * 2 ^ w) % 2 ^ 64 ≡ widened_least m a
widened_is a m k w same e le lt =
    ap (λ n. a + a / 2 ^ w + 1 + n + (n * 2 ^ w) % 2 ^ 64) same
    ∙ ap (λ n. a + a / 2 ^ w + 1 + m + n) (weighted m w lt le)
    ∙ ap (λ n. a + a / 2 ^ n + 1 + m + m * 2 ^ n) e

-- ---- thresholds

unshifted : (shift : ℕ) → 1 ≤ shift → (shift == 0) ≡ false
unshifted shift some = grind (arith, nat_tests)

pub some_shift : (shift limit t : ℕ) → 1 ≤ shift → (if shift == 0 then limit else t) ≡ t
some_shift shift limit t some = ap (λ b. if b then limit else t) (unshifted shift some)

-- without rounding the unit is 1
pub no_shift : (m shift limit units : ℕ) → shift ≡ 0 → units ≡ limit / 2 ^ (2 * shift) → units ≡ threshold m shift limit
no_shift m shift limit units none e =
    let whole : limit / 2 ^ (2 * 0) ≡ limit = omega arith in
    e ∙ ap (λ s. limit / 2 ^ (2 * s)) none ∙ whole
    ∙ sym (ap (λ s. threshold m s limit) none)

pub rounded_threshold : (m shift limit units t : ℕ) → 1 ≤ shift → units ≡ limit / 2 ^ (2 * shift)
    → t ≡ widened_least m units → t ≡ threshold m shift limit
rounded_threshold m shift limit units t some e h =
    h ∙ ap (widened_least m) e ∙ sym (some_shift shift limit (widened_least m (limit / 2 ^ (2 * shift))) some)

-- without a shift a limit is its own threshold
pub not_widened : (m shift limit : ℕ) → shift ≡ 0 → threshold m shift limit ≡ limit
not_widened m shift limit e = ap (λ s. threshold m s limit) e
