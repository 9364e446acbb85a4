-- How many bytes a number takes.
use Rattle.std.proofs.Common.{◌≡◌, ℕ, ◌+◌, ◌-◌, ◌*◌, ◌/◌, ◌^◌, ◌<◌, ◌≤◌, length, decimal, arith, sym}
use Rattle.std.proofs.Math.Nat.{one-le-pow, div-lt_iff_lt-mul, div-le_self}
use Rattle.std.proofs.lemmas.Nat.{pow-add}
use Rattle.std.proofs.lemmas.Fmt.{length-decimal-le}

pub unit-positive : (scale : ℕ) → 0 < 10 ^ scale
unit-positive scale = omega (arith, one-le-pow scale 10 (omega arith))

pub whole-short : (n scale : ℕ) → scale ≤ 9 → n ≤ 2 ^ 47 → length (decimal (n / 10 ^ scale)) ≤ 15 - scale
whole-short n scale small fits =
    let joined : 10 ^ ((15 - scale) + scale) ≡ 10 ^ (15 - scale) * 10 ^ scale = pow-add 10 (15 - scale) scale in
    let all : (15 - scale) + scale ≡ 15 = omega arith in
    let fifteen : 10 ^ (15 - scale) * 10 ^ scale ≡ 1000000000000000 = rw all at (sym joined) in
    let below : n < 10 ^ (15 - scale) * 10 ^ scale = omega arith in
    let short : n / 10 ^ scale < 10 ^ (15 - scale) = (div-lt_iff_lt-mul (unit-positive scale)).1 below in
    length-decimal-le (15 - scale) (n / 10 ^ scale) (omega arith) short (omega (arith, div-le_self n (10 ^ scale)))
