-- The reversal of a reversal is the number itself.
use Rattle.std.proofs.Common.{◌≡◌, ℕ, zero, suc, ◌+◌, ◌*◌, ◌/◌, ◌%◌, ◌^◌, ◌<◌, refl, ap}
use Rattle.std.proofs.Common.{◌∙◌, arith}
use Rattle.std.proofs.Math.Nat.{pow-suc}
use Rattle.mp_results.specs.Reversal.{reversed, reversal, numbers}

pub reversed_none : (n : ℕ) → reversed 0 n ≡ 0
unfolding reversed
reversed_none n = refl

pub reversed_more : (k n : ℕ) → reversed (suc k) n ≡ n % 2 * 2 ^ k + reversed k (n / 2)
unfolding reversed
reversed_more k n = refl

pub power_more : (k : ℕ) → 2 ^ suc k ≡ 2 * 2 ^ k
power_more k = omega (arith, pow-suc 2 k)

-- one digit before others
below : (b p r : ℕ) → b < 2 → r < p → b * p + r < 2 * p
below zero p r h lt = omega arith
below (suc zero) p r h lt = omega arith
below (suc (suc b)) p r h lt = absurd (omega (arith, h))

pub reversed_small : (k n : ℕ) → reversed k n < 2 ^ k
reversed_small zero n = omega (arith, reversed_none n)
reversed_small (suc k) n =
    let digit : n % 2 < 2 = omega arith in
    omega (
      arith,
      reversed_more k n,
      power_more k,
      below (n % 2) (2 ^ k) (reversed k (n / 2)) digit (reversed_small k (n / 2)),
    )

twice : (b p q : ℕ) → q ≡ 2 * p → b * q ≡ 2 * (b * p)
twice b p q e = ap (λ z. b * z) e ∙ omega arith

even_more : (b p q x : ℕ) → q ≡ 2 * p → (b * q + x) % 2 ≡ x % 2
even_more b p q x e = omega (arith, twice b p q e)

half_more : (b p q x : ℕ) → q ≡ 2 * p → (b * q + x) / 2 ≡ b * p + x / 2
half_more b p q x e = omega (arith, twice b p q e)

-- the first digit becomes the last
first_to_last : (k x b : ℕ) → x < 2 ^ k → b < 2 → reversed (suc k) (b * 2 ^ k + x) ≡ 2 * reversed k x + b
first_to_last zero x b lt h =
    omega (arith, reversed_more 0 (b * 2 ^ 0 + x), reversed_none ((b * 2 ^ 0 + x) / 2), reversed_none x)
first_to_last (suc k) x b lt h =
    let n = b * 2 ^ suc k + x in
    let half : x / 2 < 2 ^ k = omega (arith, power_more k) in
    let rest : reversed (suc k) (n / 2) ≡ 2 * reversed k (x / 2) + b =
    ap (reversed (suc k)) (half_more b (2 ^ k) (2 ^ suc k) x (power_more k)) ∙ first_to_last k (x / 2) b half h in
    let digit : n % 2 * 2 ^ suc k ≡ 2 * (x % 2 * 2 ^ k) =
    ap (λ z. z * 2 ^ suc k) (even_more b (2 ^ k) (2 ^ suc k) x (power_more k))
    ∙ twice (x % 2) (2 ^ k) (2 ^ suc k) (power_more k) in
    omega (arith, reversed_more (suc k) n, reversed_more k x, rest, digit)

pub turned_back : (k n : ℕ) → n < 2 ^ k → reversed k (reversed k n) ≡ n
turned_back zero n lt = omega (arith, reversed_none (reversed 0 n))
turned_back (suc k) n lt =
    let half : n / 2 < 2 ^ k = omega (arith, power_more k) in
    let digit : n % 2 < 2 = omega arith in
    ap (reversed (suc k)) (reversed_more k n)
    ∙ first_to_last k (reversed k (n / 2)) (n % 2) (reversed_small k (n / 2)) digit
    ∙ omega (arith, turned_back k (n / 2) half)

pub reversal_back : (n : ℕ) → n < numbers → reversal (reversal n) ≡ n
reversal_back n lt = turned_back 18 n lt

pub reversal_small : (n : ℕ) → reversal n < numbers
reversal_small n = reversed_small 18 n

-- ---- digit by digit

-- one digit more is taken from the end of a number and put behind the others
pub one_digit : (k r rest whole : ℕ) → r * 2 ^ suc k + reversed (suc k) rest ≡ whole
    → (2 * r + rest % 2) * 2 ^ k + reversed k (rest / 2) ≡ whole
one_digit k r rest whole h =
    omega (
      arith,
      h,
      reversed_more k rest,
      twice r (2 ^ k) (2 ^ suc k) (power_more k),
      spread (2 ^ k) r (rest % 2),
    )
  where
    spread : (p r b : ℕ) → (2 * r + b) * p ≡ 2 * (r * p) + b * p
    spread p r b = omega arith
