-- Why entries never rise, and why the whole is the matrix profile.
use Rattle.std.proofs.Common.{◌≡◌, ℕ, zero, suc, ◌+◌, ◌<◌, ◌≤◌, inl, inr, List, [], ◌∷◌}
use Rattle.std.proofs.Common.{◌++◌, Bool, true, false}
use Rattle.std.proofs.Common.{refl, sym, ap, ◌∙◌, arith, subst}
use Rattle.std.specs.Prelude.{Option, if◌then◌else◌, ◌&&◌, ◌||◌, ◌==◌, nat_lt, filter}
use Rattle.std.specs.Int.{abs_diff}
use Rattle.std.proofs.Math.Bool.{not}
use Rattle.std.proofs.lemmas.Bool.{cases_lt}
use Rattle.std.proofs.lemmas.Bool.Decides.{nat_tests}
use Rattle.std.proofs.lemmas.List.Folds.{list_any-append}
use Rattle.mp_nums.specs.declared.nearest.Near.{Near}
use Rattle.mp_nums.specs.Near.{nearer_of}
use Rattle.mp_nums.specs.NearLaws.{nearer_associates, nearer_commutes, nearer_repeats}
use Rattle.mp_defs.specs.Series.{Series}
use Rattle.mp_defs.specs.Window.{excl, is_allowed}
use Rattle.mp_defs.specs.Profile.{entry, matrix_profile, windows_of}
use Rattle.mp_defs.specs.NearestLaws.{nearest_by_choice}
use Rattle.mp_tiles.specs.Among.{columns_value}
use Rattle.mp_results.specs.Reversal.{numbers, reversal}
use Rattle.mp_results.specs.Covering.{by_reversal, is_covered, is_uncovered, uncovered}
use Rattle.mp_results.specs.LazyProfile.{is_allowed_along, lazy_profile}
use Rattle.mp_anytime.specs.Laws.{EntriesNeverRise, WholeIsTheProfile}
use Rattle.mp_anytime.proofs.Digits.{reversal_back, reversal_small}
use Rattle.mp_anytime.proofs.Choosing.{one_more}
use Rattle.mp_anytime.proofs.LazyLemmas.{all_of, left_of, right_of, value_same}

-- ---- entries

and_over_or : (z s t : Bool) → (z && (s || t)) ≡ ((z && s) || (z && t))
and_over_or true s t = refl
and_over_or false s t = refl

along_more : (m : ℕ) (covered more : List ℕ) (i j : ℕ)
    → is_allowed_along (covered ++ more) m i j ≡ (is_allowed_along covered m i j || is_allowed_along more m i j)
along_more m covered more i j =
    ap (λ t. is_allowed m i j && t) (list_any-append (λ other. other == abs_diff i j) covered more)
    ∙ and_over_or (is_allowed m i j) (is_covered covered (abs_diff i j)) (is_covered more (abs_diff i j))

stays_first : (x y : Option Near) → nearer_of (nearer_of x y) x ≡ nearer_of x y
stays_first x y =
    nearer_commutes (nearer_of x y) x ∙ sym (nearer_associates x x y) ∙ ap (λ z. nearer_of z y) (nearer_repeats x)

pub entries_never_rise : EntriesNeverRise
entries_never_rise = record {
  all = λ m a covered more i.
      let old = entry (is_allowed_along covered m) m a i in
      let new = entry (is_allowed_along (covered ++ more) m) m a i in
      let both : new ≡ nearer_of old (entry (is_allowed_along more m) m a i) =
      nearest_by_choice.same m (is_allowed_along (covered ++ more) m i)
      (λ j. is_allowed_along covered m i j || is_allowed_along more m i j) a i a
      (λ j _. along_more m covered more i j)
      ∙ nearest_by_choice.either m (is_allowed_along covered m i) (is_allowed_along more m i) a i a in
      subst (λ (x : Option Near). nearer_of x old ≡ x) (sym both)
      (stays_first old (entry (is_allowed_along more m) m a i));
}

-- ---- the whole

empty_front : (xs ys : List ℕ) → xs ++ ys ≡ [] → xs ≡ []
empty_front [] ys e = refl
empty_front (x ∷ xs) ys e = absurd (cc)

empty_back : (xs ys : List ℕ) → xs ++ ys ≡ [] → ys ≡ []
empty_back [] ys e = e
empty_back (x ∷ xs) ys e = absurd (cc)

none_if : (t : Bool) (x : ℕ) → ◌≡◌ {A = List ℕ} (if t then x ∷ [] else []) [] → t ≡ false
none_if true x e = absurd (cc)
none_if false x e = refl

-- where the list is empty, no number passes
none_pass : (p : ℕ → Bool) (n : ℕ) → filter p (by_reversal n) ≡ [] → (place : ℕ) → place < n
    → p (reversal place) ≡ false
none_pass p zero e place lt = absurd (omega (arith, lt))
none_pass p (suc n) e place lt =
    let one : suc n ≡ n + 1 = omega arith in
    let split = sym (one_more p n) ∙ subst (λ k. filter p (by_reversal k) ≡ []) one e in
    elim (cases_lt place n) [
      | inl less ↦ none_pass p n (empty_front (filter p (by_reversal n))
          (if p (reversal n) then reversal n ∷ [] else []) split) place less
      | inr ge ↦ let same : n ≡ place = omega (arith, lt, ge) in
          subst (λ k. p (reversal k) ≡ false) same (none_if (p (reversal n)) (reversal n)
          (empty_back (filter p (by_reversal n)) (if p (reversal n) then reversal n ∷ [] else []) split))
    ]

none_left : (m w : ℕ) (covered : List ℕ) → uncovered m w covered ≡ [] → (d : ℕ) → d < numbers
    → is_uncovered m w covered d ≡ false
none_left m w covered e d lt =
    ap (is_uncovered m w covered) (sym (reversal_back d lt))
    ∙ none_pass (is_uncovered m w covered) numbers e (reversal d) (reversal_small d)

covered_all : (z v t : Bool) → ((z && v) && not t) ≡ false → v ≡ true → (z && t) ≡ z
covered_all false v t e f = refl
covered_all true true true e f = refl
covered_all true true false e f = absurd (cc)
covered_all true false t e f = absurd (cc)

close : (w i j : ℕ) → i < w → j < w → nat_lt (abs_diff i j) w ≡ true
close w i j lt lt' = grind (arith, nat_tests)

less_than : (w i j n : ℕ) → i < w → j < w → w ≤ n → abs_diff i j < n
less_than w i j n lt lt' le = grind (arith, nat_tests)

whole : (m : ℕ) (covered : List ℕ) (a : Series) → windows_of m a ≤ numbers
    → uncovered m (windows_of m a) covered ≡ []
    → columns_value (lazy_profile m covered a) ≡ columns_value (matrix_profile m a)
whole m covered a few e =
    let w = windows_of m a in
    value_same (is_allowed_along covered m) (is_allowed m) m a
    (λ i j lt lt'. covered_all (nat_lt (excl m) (abs_diff i j)) (nat_lt (abs_diff i j) w)
    (is_covered covered (abs_diff i j))
    (none_left m w covered e (abs_diff i j) (less_than w i j numbers lt lt' few)) (close w i j lt lt'))

pub whole_is_the_profile : WholeIsTheProfile
whole_is_the_profile = record {
  all = λ m covered a few e. all_of _ _ _ _ _ _ (whole m covered a few e);
  left = λ m covered a few e. left_of _ _ _ _ _ _ (whole m covered a few e);
  right = λ m covered a few e. right_of _ _ _ _ _ _ (whole m covered a few e);
}
