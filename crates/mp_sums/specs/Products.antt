-- Products of whole numbers, and sums, differences and products modulo 2 ^ 32.
use Rattle.std.proofs.Common.{◌≡◌, ℕ, zero, suc, ◌+◌, ◌-◌, ◌*◌, ◌%◌, ◌^◌, ◌<◌, refl, sym, ap, ◌∙◌, arith}
use Rattle.std.proofs.Common.{w32, FitsSigned, ℤ, pos, ◌+ℤ◌, ◌-ℤ◌, ◌*ℤ◌}
use Rattle.std.specs.Prelude.{negsuc, unsigned_abs}
use Rattle.std.specs.Int.{int_wrap, cast_signed, cast_unsigned}
use Rattle.std.proofs.Math.IntN.{ℤ_ind, neg_ℤ, suc_ℤ, pred_ℤ, zero-*ℤ, +ℤ_idl, +ℤ_one, -ℤ_one, suc_ℤ-+ℤ, pred_ℤ-+ℤ}
use Rattle.std.proofs.Math.IntN.{suc_ℤ-*ℤ, pred_ℤ-*ℤ, *ℤ_comm, pos-*ℤ-pos, negsuc-*ℤ-negsuc, -ℤ-+ℤ_cancel}
use Rattle.std.proofs.lemmas.Int.{ints, int_wrap_fits, int_wrap-add_right, int_wrap-sub_right, int_wrap-mul_left}
use Rattle.std.proofs.lemmas.Int.{int_wrap-mul_right, int_wrap-add_same, SFits-int_wrap, to_z-of_z, wrapping_sub_is}
use Rattle.std.proofs.lemmas.Int.{wrapping_add-bits, wrapping_mul-bits}
use Rattle.std.proofs.lemmas.Nat.{mod_below}

swapped : (x y z : ℤ) → (x +ℤ y) +ℤ z ≡ (x +ℤ z) +ℤ y
swapped x y z = omega (arith, ints)

swapped_down : (x y z : ℤ) → (x +ℤ y) -ℤ z ≡ (x -ℤ z) +ℤ y
swapped_down x y z = omega (arith, ints)

moved : (x y z : ℤ) → z ≡ x +ℤ y → x ≡ z -ℤ y
moved x y z e = omega (arith, ints, e)

cancelled : (x y z : ℤ) → (x +ℤ y) -ℤ (y +ℤ z) ≡ x -ℤ z
cancelled x y z = omega (arith, ints)

pub add_times : (a b c : ℤ) → (a +ℤ b) *ℤ c ≡ a *ℤ c +ℤ b *ℤ c
add_times a b c = ℤ_ind (λ z. (z +ℤ b) *ℤ c ≡ z *ℤ c +ℤ b *ℤ c)
    (ap (λ z. z *ℤ c) (+ℤ_idl b) ∙ sym (ap (λ z. z +ℤ b *ℤ c) (zero-*ℤ c) ∙ +ℤ_idl (b *ℤ c)))
    (λ n h.
    let up : pos n +ℤ pos (suc zero) ≡ suc_ℤ (pos n) = +ℤ_one (pos n) in
    let left : (pos n +ℤ pos (suc zero) +ℤ b) *ℤ c ≡ (pos n +ℤ b) *ℤ c +ℤ c =
    ap (λ z. (z +ℤ b) *ℤ c) up ∙ ap (λ z. z *ℤ c) (suc_ℤ-+ℤ (pos n) b) ∙ suc_ℤ-*ℤ (pos n +ℤ b) c in
    let right : (pos n +ℤ pos (suc zero)) *ℤ c ≡ pos n *ℤ c +ℤ c = ap (λ z. z *ℤ c) up ∙ suc_ℤ-*ℤ (pos n) c in
    left ∙ ap (λ z. z +ℤ c) h ∙ swapped (pos n *ℤ c) (b *ℤ c) c ∙ ap (λ z. z +ℤ b *ℤ c) (sym right))
    (λ n h.
    let down : neg_ℤ (pos n) +ℤ neg_ℤ (pos (suc zero)) ≡ pred_ℤ (neg_ℤ (pos n)) = -ℤ_one (neg_ℤ (pos n)) in
    let left : (neg_ℤ (pos n) +ℤ neg_ℤ (pos (suc zero)) +ℤ b) *ℤ c ≡ (neg_ℤ (pos n) +ℤ b) *ℤ c -ℤ c =
    ap (λ z. (z +ℤ b) *ℤ c) down ∙ ap (λ z. z *ℤ c) (pred_ℤ-+ℤ (neg_ℤ (pos n)) b)
    ∙ pred_ℤ-*ℤ (neg_ℤ (pos n) +ℤ b) c in
    let right : (neg_ℤ (pos n) +ℤ neg_ℤ (pos (suc zero))) *ℤ c ≡ neg_ℤ (pos n) *ℤ c -ℤ c =
    ap (λ z. z *ℤ c) down ∙ pred_ℤ-*ℤ (neg_ℤ (pos n)) c in
    left ∙ ap (λ z. z -ℤ c) h ∙ swapped_down (neg_ℤ (pos n) *ℤ c) (b *ℤ c) c ∙ ap (λ z. z +ℤ b *ℤ c) (sym right))
    a

pub sub_times : (a b c : ℤ) → (a -ℤ b) *ℤ c ≡ a *ℤ c -ℤ b *ℤ c
sub_times a b c =
    let whole : a *ℤ c ≡ (a -ℤ b) *ℤ c +ℤ b *ℤ c = ap (λ z. z *ℤ c) (sym (-ℤ-+ℤ_cancel a b)) ∙ add_times (a -ℤ b) b c in
    moved ((a -ℤ b) *ℤ c) (b *ℤ c) (a *ℤ c) whole

pub square_difference : (u v : ℤ) → (u -ℤ v) *ℤ (u +ℤ v) ≡ u *ℤ u -ℤ v *ℤ v
square_difference u v =
    let left : u *ℤ (u +ℤ v) ≡ u *ℤ u +ℤ v *ℤ u = *ℤ_comm u (u +ℤ v) ∙ add_times u v u in
    let right : v *ℤ (u +ℤ v) ≡ u *ℤ v +ℤ v *ℤ v = *ℤ_comm v (u +ℤ v) ∙ add_times u v v in
    sub_times u v (u +ℤ v) ∙ ap (λ z. z -ℤ v *ℤ (u +ℤ v)) left
    ∙ ap (λ z. u *ℤ u +ℤ v *ℤ u -ℤ z) (right ∙ ap (λ z. z +ℤ v *ℤ v) (*ℤ_comm u v))
    ∙ cancelled (u *ℤ u) (v *ℤ u) (v *ℤ v)

pub square_is : (z : ℤ) → pos (unsigned_abs z * unsigned_abs z) ≡ z *ℤ z
square_is (pos n) = sym (pos-*ℤ-pos n n)
square_is (negsuc n) = sym (negsuc-*ℤ-negsuc n n)

-- ---- modulo 2 ^ 32

as_sum : (a b : ℤ) → a -ℤ b ≡ a +ℤ neg_ℤ b
as_sum a b = omega (arith, ints)

pub add_wraps : (a b a' b' : ℤ) → int_wrap w32 a ≡ int_wrap w32 a' → int_wrap w32 b ≡ int_wrap w32 b'
    → int_wrap w32 (a +ℤ b) ≡ int_wrap w32 (a' +ℤ b')
add_wraps a b a' b' e f =
    sym (int_wrap-add_right w32 a b) ∙ ap (λ z. int_wrap w32 (a +ℤ z)) f ∙ int_wrap-add_right w32 a b'
    ∙ int_wrap-add_same w32 a a' b' e

pub sub_wraps : (a b a' b' : ℤ) → int_wrap w32 a ≡ int_wrap w32 a' → int_wrap w32 b ≡ int_wrap w32 b'
    → int_wrap w32 (a -ℤ b) ≡ int_wrap w32 (a' -ℤ b')
sub_wraps a b a' b' e f =
    sym (int_wrap-sub_right w32 a b) ∙ ap (λ z. int_wrap w32 (a -ℤ z)) f ∙ int_wrap-sub_right w32 a b'
    ∙ ap (int_wrap w32) (as_sum a b') ∙ int_wrap-add_same w32 a a' (neg_ℤ b') e
    ∙ ap (int_wrap w32) (sym (as_sum a' b'))

pub mul_wraps : (a b a' b' : ℤ) → int_wrap w32 a ≡ int_wrap w32 a' → int_wrap w32 b ≡ int_wrap w32 b'
    → int_wrap w32 (a *ℤ b) ≡ int_wrap w32 (a' *ℤ b')
mul_wraps a b a' b' e f =
    sym (int_wrap-mul_left w32 a b) ∙ ap (λ z. int_wrap w32 (z *ℤ b)) e ∙ int_wrap-mul_left w32 a' b
    ∙ sym (int_wrap-mul_right w32 a' b) ∙ ap (λ z. int_wrap w32 (a' *ℤ z)) f ∙ int_wrap-mul_right w32 a' b'

pub twice : (z : ℤ) → int_wrap w32 (int_wrap w32 z) ≡ int_wrap w32 z
twice z = int_wrap_fits w32 (int_wrap w32 z) (SFits-int_wrap w32 z)

-- ---- as wrapping calls give them

bits_fit : (z : ℤ) → FitsSigned w32 z → cast_unsigned w32 z < 2 ^ 32
bits_fit z f = omega (arith, ints, f)

-- a sum and a product of two differences
abbrev pub differences_added : ℤ → ℤ → ℤ → ℤ → ℤ → ℤ
differences_added r a b c d =
    cast_signed w32 ((cast_unsigned w32 r + ((cast_unsigned w32 a + (2 ^ 32 - cast_unsigned w32 b)) % 2 ^ 32
    * ((cast_unsigned w32 c + (2 ^ 32 - cast_unsigned w32 d)) % 2 ^ 32)) % 2 ^ 32) % 2 ^ 32)

pub added_is : (r a b c d : ℤ) → FitsSigned w32 r → FitsSigned w32 a → FitsSigned w32 b → FitsSigned w32 c
    → FitsSigned w32 d → differences_added r a b c d ≡ int_wrap w32 (r +ℤ (a -ℤ b) *ℤ (c -ℤ d))
added_is r a b c d fr fa fb fc fd =
    let p : ℕ = (cast_unsigned w32 a + (2 ^ 32 - cast_unsigned w32 b)) % 2 ^ 32 in
    let q : ℕ = (cast_unsigned w32 c + (2 ^ 32 - cast_unsigned w32 d)) % 2 ^ 32 in
    let some : 0 < 2 ^ 32 = omega arith in
    wrapping_add-bits w32 (cast_unsigned w32 r) (p * q % 2 ^ 32) (bits_fit r fr) (mod_below (p * q) (2 ^ 32) some)
    ∙ ap (λ z. int_wrap w32 (z +ℤ cast_signed w32 (p * q % 2 ^ 32))) (to_z-of_z w32 r fr)
    ∙ ap (λ z. int_wrap w32 (r +ℤ z)) (
    wrapping_mul-bits w32 p q
    (mod_below (cast_unsigned w32 a + (2 ^ 32 - cast_unsigned w32 b)) (2 ^ 32) some)
    (mod_below (cast_unsigned w32 c + (2 ^ 32 - cast_unsigned w32 d)) (2 ^ 32) some)
    ∙ ap (λ z. int_wrap w32 (z *ℤ cast_signed w32 q)) (wrapping_sub_is w32 a b fa fb)
    ∙ ap (λ z. int_wrap w32 (int_wrap w32 (a -ℤ b) *ℤ z)) (wrapping_sub_is w32 c d fc fd)
    )
    ∙ int_wrap-add_right w32 r (int_wrap w32 (a -ℤ b) *ℤ int_wrap w32 (c -ℤ d))
    ∙ add_wraps r (int_wrap w32 (a -ℤ b) *ℤ int_wrap w32 (c -ℤ d)) r ((a -ℤ b) *ℤ (c -ℤ d)) refl
    (mul_wraps (int_wrap w32 (a -ℤ b)) (int_wrap w32 (c -ℤ d)) (a -ℤ b) (c -ℤ d) (twice (a -ℤ b)) (twice (c -ℤ d)))
