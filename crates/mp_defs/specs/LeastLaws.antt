-- Why the least of some candidates is the first of them, and what it is of several kinds of candidates.
use Rattle.std.proofs.Common.{◌≡◌, ◌≢◌, ℕ, zero, suc, ◌+◌, ◌<◌, Bool, true, false, refl, arith, add-one, ap, ◌∙◌, sym}
use Rattle.std.proofs.Common.{inl, inr, below_more, subst}
use Rattle.std.specs.Prelude.{Option, Some, None, if◌then◌else◌}
use Rattle.std.proofs.lemmas.Bool.{cases_eq}
use Rattle.std.proofs.lemmas.Bool.Decides.{nat_tests}
use Rattle.mp_nums.specs.declared.nearest.Near.{Near}
use Rattle.mp_nums.specs.Near.{comes_before, nearer_of}
use Rattle.mp_nums.specs.NearLaws.{nearer_commutes, nearer_associates, nearer_with_none}
use Rattle.mp_defs.specs.Least.{near}
use Rattle.mp_defs.specs.Laws.{GrowsByOneCandidate, IsFirst, IsLeast, LeastIsFirst}

pub grows_by_one_candidate : GrowsByOneCandidate
unfolding near
grows_by_one_candidate = record { no_candidates = λ c. refl; one_more = λ c n. rw add-one refl }

near_zero : (c : ℕ → Option Near) → near c 0 ≡ None
near_zero c = grows_by_one_candidate.no_candidates c

near_more : (c : ℕ → Option Near) (n : ℕ) → near c (n + 1) ≡ nearer_of (near c n) (c n)
near_more c n = grows_by_one_candidate.one_more c n

-- ---- the least is the first

before_itself : (a : Near) → comes_before a a ≡ false
before_itself a = grind (arith, nat_tests)

-- what isn't before b isn't before what b is before
not_before : (a b c : Near) → comes_before b a ≡ true → comes_before c a ≡ false → comes_before c b ≡ false
not_before a b c h k = grind (arith, nat_tests)

not_before_same : (a b x : Near) → Some b ≡ Some x → comes_before b a ≡ false → comes_before x a ≡ false
not_before_same a b x e h = let same : b ≡ x = cc in subst (λ (y : Near). comes_before y a ≡ false) same h

none_some : (x : Near) → None ≡ Some x → ⊥
none_some x e = cc

stays : (c : ℕ → Option Near) (n : ℕ) (a : Near) → IsFirst c n a
    → ((b : Near) → c n ≡ Some b → comes_before b a ≡ false) → IsFirst c (n + 1) a
stays c n a h last = record {
  place = h.place;
  below = omega (arith, h.below);
  chosen = h.chosen;
  none_before = λ j b.
      below_more (λ k. c k ≡ Some b → comes_before b a ≡ false) n (λ k lt. h.none_before k b lt) (last b) j;
}

takes : (c : ℕ → Option Near) (n : ℕ) (b : Near) → c n ≡ Some b
    → ((j : ℕ) (x : Near) → j < n → c j ≡ Some x → comes_before x b ≡ false) → IsFirst c (n + 1) b
takes c n b e earlier = record {
  place = n;
  below = omega arith;
  chosen = e;
  none_before = λ j x. below_more (λ k. c k ≡ Some x → comes_before x b ≡ false) n (λ k lt. earlier k x lt)
      (λ f. not_before_same b b x (sym e ∙ f) (before_itself b)) j;
}

one_more_some : (c : ℕ → Option Near) (n : ℕ) (a b : Near) → c n ≡ Some b → IsFirst c n a → (t : Bool)
    → comes_before b a ≡ t → IsLeast c (n + 1) (if t then Some b else Some a)
one_more_some c n a b e h true t = takes c n b e (λ j x lt f. not_before a b x t (h.none_before j x lt f))
one_more_some c n a b e h false t = stays c n a h (λ x f. not_before_same a b x (sym e ∙ f) t)

one_more : (c : ℕ → Option Near) (n : ℕ) (p q : Option Near) → c n ≡ q → IsLeast c n p
    → IsLeast c (n + 1) (nearer_of p q)
one_more c n None None e h = below_more (λ k. c k ≡ None) n h e
one_more c n None (Some b) e h = takes c n b e (λ j x lt f. absurd (none_some x (sym (h j lt) ∙ f)))
one_more c n (Some a) None e h = stays c n a h (λ x f. absurd (none_some x (sym e ∙ f)))
one_more c n (Some a) (Some b) e h = one_more_some c n a b e h (comes_before b a) refl

pub near_is_first : LeastIsFirst
near_is_first c zero = rw near_zero (λ j lt. absurd (omega (arith, lt)))
near_is_first c (suc n) = rw (← add-one) (rw near_more (one_more c n (near c n) (c n) refl (near_is_first c n)))

-- ---- the least of more candidates

pub crossed : (a b c d : Option Near)
    → nearer_of (nearer_of a b) (nearer_of c d) ≡ nearer_of (nearer_of a c) (nearer_of b d)
crossed a b c d =
    nearer_associates a b (nearer_of c d)
    ∙ ap (nearer_of a) (sym (nearer_associates b c d)
    ∙ ap (λ x. nearer_of x d) (nearer_commutes b c) ∙ nearer_associates c b d)
    ∙ sym (nearer_associates a c (nearer_of b d))

-- the same candidates below n
pub near_same : (c d : ℕ → Option Near) (n : ℕ) → ((j : ℕ) → j < n → c j ≡ d j) → near c n ≡ near d n
near_same c d zero h = near_zero c ∙ sym (near_zero d)
near_same c d (suc n) h =
    let one : n + 1 ≡ suc n = omega arith in
    subst (λ k. near c k ≡ near d k) one
    (near_more c n ∙ ap (λ x. nearer_of x (c n)) (near_same c d n (λ j lt. h j (omega (arith, lt))))
    ∙ ap (nearer_of (near d n)) (h n (omega arith)) ∙ sym (near_more d n))

-- candidates of two kinds
pub near_both : (c d : ℕ → Option Near) (n : ℕ)
    → near (λ j. nearer_of (c j) (d j)) n ≡ nearer_of (near c n) (near d n)
near_both c d zero =
    near_zero (λ j. nearer_of (c j) (d j)) ∙ sym (ap (λ x. nearer_of x (near d 0)) (near_zero c) ∙ near_zero d)
near_both c d (suc n) =
    let one : n + 1 ≡ suc n = omega arith in
    subst (λ k. near (λ j. nearer_of (c j) (d j)) k ≡ nearer_of (near c k) (near d k)) one
    (near_more (λ j. nearer_of (c j) (d j)) n
    ∙ ap (λ x. nearer_of x (nearer_of (c n) (d n))) (near_both c d n) ∙ crossed (near c n) (near d n) (c n) (d n)
    ∙ ap (λ x. nearer_of x (nearer_of (near d n) (d n))) (sym (near_more c n))
    ∙ ap (nearer_of (near c (n + 1))) (sym (near_more d n)))

-- no candidates
pub near_none : (c : ℕ → Option Near) (n : ℕ) → ((j : ℕ) → j < n → c j ≡ None) → near c n ≡ None
near_none c zero h = near_zero c
near_none c (suc n) h =
    let one : n + 1 ≡ suc n = omega arith in
    subst (λ k. near c k ≡ None) one
    (near_more c n ∙ ap (λ x. nearer_of x (c n)) (near_none c n (λ j lt. h j (omega (arith, lt))))
    ∙ h n (omega arith))

-- one candidate at most
pub near_one : (c : ℕ → Option Near) (y n : ℕ) → y < n → ((j : ℕ) → j < n → j ≢ y → c j ≡ None) → near c n ≡ c y
near_one c y zero lt h = absurd (omega arith)
near_one c y (suc n) lt h =
    let one : n + 1 ≡ suc n = omega arith in
    subst (λ k. near c k ≡ c y) one (near_more c n ∙ elim (cases_eq y n) [
      | inl same ↦
          ap (λ x. nearer_of x (c n))
          (near_none c n (λ j below. h j (omega (arith, below)) (λ e. omega (arith, below, e, same))))
          ∙ ap c (sym same)
      | inr other ↦
          ap (nearer_of (near c n)) (h n (omega arith) (λ e. other (sym e))) ∙ (nearer_with_none (near c n)).1
          ∙ near_one c y n (omega (arith, other)) (λ j below ne. h j (omega (arith, below)) ne)
    ])
