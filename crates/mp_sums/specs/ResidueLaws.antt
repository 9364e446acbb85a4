-- Why residues move on, and what they tell.
use Rattle.std.proofs.Common.{◌≡◌, ℕ, ◌+◌, ◌-◌, ◌^◌, ◌<◌, ◌≤◌, inl, inr, refl, sym, ap, ◌∙◌, arith, subst}
use Rattle.std.proofs.Common.{w32, FitsSigned, ℤ, pos, ◌+ℤ◌, ◌-ℤ◌, ◌*ℤ◌, Bool, true, false}
use Rattle.std.specs.Prelude.{◌≤ℤ◌, ◌<ℤ◌, negsuc, Some, ◌==◌, if◌then◌else◌}
use Rattle.std.specs.Int.{int_wrap}
use Rattle.std.proofs.lemmas.Bool.{cases_lt}
use Rattle.std.proofs.lemmas.Bool.Decides.{nat_tests}
use Rattle.std.proofs.lemmas.Int.{ints, int_wrap_fits, int_wrap-add_left, SFits-int_wrap}
use Rattle.mp_defs.specs.Series.{Series}
use Rattle.mp_defs.specs.Distance.{squared_difference, distance}
use Rattle.mp_sums.specs.declared.limits.Limit.{Limit}
use Rattle.mp_sums.specs.declared.limits.Limit.TheVariants.{Every, Within, Below}
use Rattle.mp_sums.specs.Sums.{numbers_of, square_sum}
use Rattle.mp_sums.specs.Limits.{IsWithin, IsBeyond}
use Rattle.mp_sums.specs.Rounding.{rounded, threshold}
use Rattle.mp_sums.specs.Residues.{residue, rounded_residue, residue_up_to, limit_within, limit_below, residue_limit}
use Rattle.mp_sums.specs.Residues.{IsLimitOf}
use Rattle.mp_nums.specs.declared.nearest.Sq.{Sq}
use Rattle.mp_sums.specs.Laws.{ResiduesMoveOn, ResiduesTell}
use Rattle.mp_sums.specs.Products.{square_difference, square_is, add_wraps, sub_wraps, mul_wraps, twice}
use Rattle.mp_sums.specs.SumLaws.{moved_on, sum_same, distances_are_sums}
use Rattle.mp_sums.specs.RoundingLaws.{not_rounded, rounded_sums_are_near}

-- ---- steps

apart : (a b c d : ℤ) → (a -ℤ b) -ℤ (c -ℤ d) ≡ (a -ℤ c) -ℤ (b -ℤ d)
apart a b c d = omega (arith, ints)

together : (a b c d : ℤ) → (a +ℤ b) -ℤ (c +ℤ d) ≡ (a -ℤ c) +ℤ (b -ℤ d)
together a b c d = omega (arith, ints)

put_in : (p t : ℤ) (q q' enters leaves : ℕ) → p ≡ pos enters -ℤ pos leaves → q' + leaves ≡ q + enters
    → (pos q -ℤ t) +ℤ p ≡ pos q' -ℤ t
put_in p t q q' enters leaves e f = omega (arith, ints, e, f)

pub residues_move_on : ResiduesMoveOn
residues_move_on m x i y j e s e' s' h k =
    let top : ℤ = pos 2147483647 in
    let q : ℕ = square_sum m x i y j in
    let enters : ℤ = x (i + m) -ℤ y (j + m) in
    let leaves : ℤ = x i -ℤ y j in
    let differences : int_wrap w32 (e -ℤ e') ≡ int_wrap w32 (enters -ℤ leaves) =
    sub_wraps e e' (x (i + m) -ℤ x i) (y (j + m) -ℤ y j)
    (ap (int_wrap w32) h.difference_is ∙ twice (x (i + m) -ℤ x i))
    (ap (int_wrap w32) k.difference_is ∙ twice (y (j + m) -ℤ y j))
    ∙ ap (int_wrap w32) (apart (x (i + m)) (x i) (y (j + m)) (y j)) in
    let sums : int_wrap w32 (s -ℤ s') ≡ int_wrap w32 (enters +ℤ leaves) =
    sub_wraps s s' (x (i + m) +ℤ x i) (y (j + m) +ℤ y j)
    (ap (int_wrap w32) h.sum_is ∙ twice (x (i + m) +ℤ x i)) (ap (int_wrap w32) k.sum_is ∙ twice (y (j + m) +ℤ y j))
    ∙ ap (int_wrap w32) (together (x (i + m)) (x i) (y (j + m)) (y j)) in
    let product : (enters -ℤ leaves) *ℤ (enters +ℤ leaves)
    ≡ pos (squared_difference (x (i + m)) (y (j + m))) -ℤ pos (squared_difference (x i) (y j)) =
    square_difference enters leaves ∙ ap (λ z. z -ℤ leaves *ℤ leaves) (sym (square_is enters))
    ∙ ap (λ z. pos (squared_difference (x (i + m)) (y (j + m))) -ℤ z) (sym (square_is leaves)) in
    int_wrap-add_left w32 (pos q -ℤ top) ((e -ℤ e') *ℤ (s -ℤ s'))
    ∙ add_wraps (pos q -ℤ top) ((e -ℤ e') *ℤ (s -ℤ s')) (pos q -ℤ top) ((enters -ℤ leaves) *ℤ (enters +ℤ leaves)) refl
    (mul_wraps (e -ℤ e') (s -ℤ s') (enters -ℤ leaves) (enters +ℤ leaves) differences sums)
    ∙ ap (int_wrap w32) (put_in ((enters -ℤ leaves) *ℤ (enters +ℤ leaves)) top q (square_sum m x (i + 1) y (j + 1))
    (squared_difference (x (i + m)) (y (j + m))) (squared_difference (x i) (y j)) product (moved_on m x i y j))

-- ---- limits

fits_between : (z : ℤ) → z <ℤ pos (2 ^ 31) → (pos 0 -ℤ pos (2 ^ 31)) ≤ℤ z → FitsSigned w32 z
fits_between z up down = omega (arith, ints, up, down)

-- a sum of 32 bits
pub small_residue : (q : ℕ) → q < 2 ^ 32 - 1 → residue q ≡ pos q -ℤ pos 2147483647
small_residue q lt =
    int_wrap_fits w32 (pos q -ℤ pos 2147483647)
    (fits_between (pos q -ℤ pos 2147483647) (omega (arith, ints, lt)) (omega (arith, ints)))

residue_fits : (q : ℕ) → FitsSigned w32 (residue q)
residue_fits q = SFits-int_wrap w32 (pos q -ℤ pos 2147483647)

pub no_residue_above : (q : ℕ) → residue q ≤ℤ pos 2147483647
no_residue_above q = let fits = residue_fits q in omega (arith, ints, fits)

pub up_to : (q t : ℕ) → q ≤ t → residue q ≤ℤ residue_up_to t
up_to q t le = elim (cases_lt t (2 ^ 32 - 1)) [
  | inl lt ↦ let is = small_residue q (omega (arith, le, lt)) in omega (arith, ints, is, le, lt)
  | inr ge ↦ let top = no_residue_above q in omega (arith, ints, top, ge)
]

within_passes : (m shift limit : ℕ) (x : ℕ → ℤ) (i : ℕ) (y : ℕ → ℤ) (j : ℕ) → square_sum m x i y j ≤ limit
    → residue (square_sum m (rounded shift x) i (rounded shift y) j) ≤ℤ limit_within m shift limit
within_passes m shift limit x i y j le =
    up_to (square_sum m (rounded shift x) i (rounded shift y) j) (threshold m shift limit)
    (rounded_sums_are_near m shift limit x i y j le)

pub by_test : (b : Bool) (r s t : ℤ) → b ≡ false → r ≤ℤ t → r ≤ℤ (if b then s else t)
by_test true r s t e le = absurd (cc)
by_test false r s t e le = le

pub some_distance : (d end : ℕ) → d < end → (end == 0) ≡ false
some_distance d end lt = grind (arith, nat_tests)

below_passes : (m shift end : ℕ) (x : ℕ → ℤ) (i : ℕ) (y : ℕ → ℤ) (j : ℕ) → square_sum m x i y j < end
    → residue (square_sum m (rounded shift x) i (rounded shift y) j) ≤ℤ limit_below m shift end
below_passes m shift end x i y j lt =
    by_test (end == 0) (residue (square_sum m (rounded shift x) i (rounded shift y) j)) (negsuc 2147483647)
    (limit_within m shift (end - 1)) (some_distance (square_sum m x i y j) end lt)
    (within_passes m shift (end - 1) x i y j (omega (arith, lt)))

sum_passes : (m shift : ℕ) (limit : Limit) (x : ℕ → ℤ) (i : ℕ) (y : ℕ → ℤ) (j d : ℕ) → d ≡ square_sum m x i y j
    → IsWithin limit d
    → residue (square_sum m (rounded shift x) i (rounded shift y) j) ≤ℤ residue_limit m shift limit
sum_passes m shift Every x i y j d e h = no_residue_above (square_sum m (rounded shift x) i (rounded shift y) j)
sum_passes m shift (Within most) x i y j d e h = within_passes m shift most.0 x i y j (omega (arith, e, h))
sum_passes m shift (Below end) x i y j d e h = below_passes m shift end.0 x i y j (omega (arith, e, h))

pub passes : (m shift : ℕ) (limit : Limit) (a : Series) (i : ℕ) (b : Series) (j d : ℕ) → distance m a i b j ≡ Some d
    → IsWithin limit d → rounded_residue m shift a i b j ≤ℤ residue_limit m shift limit
passes m shift limit a i b j d e h =
    sum_passes m shift limit (numbers_of a) i (numbers_of b) j d (distances_are_sums m a i b j d e) h

pub not_within : (limit : Limit) (d : ℕ) → (IsWithin limit d → ⊥) → IsBeyond limit d
not_within Every d never = never tt
not_within (Within most) d never = elim (cases_lt most.0 d) [
  | inl lt ↦ lt
  | inr le ↦ absurd (never le)
]
not_within (Below end) d never = elim (cases_lt d end.0) [
  | inl lt ↦ absurd (never lt)
  | inr le ↦ le
]

pub above_and_within : (r limit : ℤ) → limit <ℤ r → r ≤ℤ limit → ⊥
above_and_within r limit lt le = omega (arith, ints, lt, le)

unrounded : (m : ℕ) (a : Series) (i : ℕ) (b : Series) (j d : ℕ) → distance m a i b j ≡ Some d
    → rounded_residue m 0 a i b j ≡ residue d
unrounded m a i b j d e =
    ap residue (sum_same m (rounded 0 (numbers_of a)) (numbers_of a) i (rounded 0 (numbers_of b)) (numbers_of b) j
    (λ k _. not_rounded (numbers_of a (i + k))) (λ k _. not_rounded (numbers_of b (j + k)))
    ∙ sym (distances_are_sums m a i b j d e))

pub residues_tell : ResiduesTell
residues_tell = record {
  passes = passes;
  unrounded = unrounded;
  beyond = λ m shift limit a i b j d e above.
      not_within limit d (λ h. above_and_within (rounded_residue m shift a i b j) (residue_limit m shift limit) above
      (passes m shift limit a i b j d e h));
}

-- ---- limits of residues

-- the greatest residue within a limit is one
pub is_limit : (m shift : ℕ) (limit : Limit) (bound : ℤ) → bound ≡ residue_limit m shift limit
    → IsLimitOf m shift limit bound
is_limit m shift limit bound e = record {
  beyond = λ a i b j d there above.
      residues_tell.beyond m shift limit a i b j d there
      (subst (λ z. z <ℤ rounded_residue m shift a i b j) e above);
}

-- what lies beyond all distances up to one lies beyond those below it
pub is_limit_before : (m shift : ℕ) (dist : Sq) (bound : ℤ) → bound ≡ limit_within m shift dist.0
    → IsLimitOf m shift (Below dist) bound
is_limit_before m shift dist bound e = record {
  beyond = λ a i b j d there above.
      let far : dist.0 < d = (is_limit m shift (Within dist) bound e).beyond a i b j d there above in
      omega (arith, far);
}

-- without rounding the distances below one have the residues below its own
one_less : (m : ℕ) (dist : ℕ) (bound : ℤ) → bound ≡ limit_within m 0 dist → bound <ℤ pos 2147483647 → 1 ≤ dist
    → bound -ℤ pos 1 ≡ limit_below m 0 dist
one_less m dist bound e less some =
    let few : dist < 4294967294 = omega (arith, ints, e, less) in
    let before : residue_up_to (dist - 1) ≡ bound -ℤ pos 1 = omega (arith, ints, e, few, some) in
    sym (by_distance dist (residue_up_to (dist - 1)) some ∙ before)
  where
    by_distance : (d : ℕ) (r : ℤ) → 1 ≤ d → (if d == 0 then negsuc 2147483647 else r) ≡ r
    by_distance d r le = grind (arith, nat_tests)

pub is_limit_unrounded : (m shift : ℕ) (dist : Sq) (bound : ℤ) → shift ≡ 0 → bound ≡ limit_within m shift dist.0
    → bound <ℤ pos 2147483647 → 1 ≤ dist.0 → IsLimitOf m shift (Below dist) (bound -ℤ pos 1)
is_limit_unrounded m shift dist bound none e less some =
    is_limit m shift (Below dist) (bound -ℤ pos 1)
    (one_less m dist.0 bound (e ∙ ap (λ s. limit_within m s dist.0) none) less some
    ∙ sym (ap (λ s. limit_below m s dist.0) none))
