-- What stands in a list of the places that have something.
use Rattle.std.proofs.Common.{◌≡◌, ℕ, zero, suc, ◌+◌, ◌<◌, length, get_or, List, [], ◌∷◌, refl, sym, ap, ◌∙◌}
use Rattle.std.proofs.Common.{⊎_elim, arith, subst}
use Rattle.std.specs.Prelude.{Option, Some, None, Contains, filter_map, slice_get, IsSome}
use Rattle.std.specs.List.{enumerate_from, cons_option}
use Rattle.std.specs.Option.{is_some}
use Rattle.std.proofs.lemmas.Bool.{false≢true, cases_lt}
use Rattle.std.proofs.lemmas.List.{get_or_past}
use Rattle.mp_picks.specs.PickLaws.{contains_first, contains_later, contains_cases, contains_nothing}

module _ {V Y : Type 0} (h : ℕ × V → Option Y) where
  -- the place and the item of which y is told
  abbrev pub ComesFrom : ℕ → List V → Y → Type 0
  ComesFrom i xs y = (k : ℕ) × (x : V) × (slice_get xs k ≡ Some x) × (h (i + k, x) ≡ Some y)

  later_source : (i : ℕ) (x : V) (xs : List V) (y : Y) → ComesFrom (i + 1) xs y → ComesFrom i (x ∷ xs) y
  later_source i x xs y s =
      let place : i + 1 + s.0 ≡ i + suc s.0 = omega arith in
      (suc s.0, s.1, s.2, subst (λ k. h (k, s.1) ≡ Some y) place s.3)

  source_step : (i : ℕ) (x : V) (xs : List V) (y : Y) (r : Option Y) → h (i, x) ≡ r
      → (Contains (filter_map h (enumerate_from (i + 1) xs)) y → ComesFrom (i + 1) xs y)
      → Contains (cons_option r (filter_map h (enumerate_from (i + 1) xs))) y → ComesFrom i (x ∷ xs) y
  source_step i x xs y None e ih k = later_source i x xs y (ih k)
  source_step i x xs y (Some z) e ih k =
      ⊎_elim (λ same. (let place : i ≡ i + 0 = omega arith in
      (zero, x, refl, subst (λ n. h (n, x) ≡ Some y) place (e ∙ ap Some same))))
      (λ later. later_source i x xs y (ih later)) (contains_cases z y (filter_map h (enumerate_from (i + 1) xs)) k)

  pub source : (i : ℕ) (xs : List V) (y : Y) → Contains (filter_map h (enumerate_from i xs)) y → ComesFrom i xs y
  source i [] y k = absurd (contains_nothing y k)
  source i (x ∷ xs) y k = source_step i x xs y (h (i, x)) refl (source (i + 1) xs y) k

  kept_later : (r : Option Y) (y : Y) (ys : List Y) → Contains ys y → Contains (cons_option r ys) y
  kept_later None y ys k = k
  kept_later (Some z) y ys k = contains_later z y ys k

  kept_first : (r : Option Y) (y : Y) (ys : List Y) → r ≡ Some y → Contains (cons_option r ys) y
  kept_first r y ys e = subst (λ o. Contains (cons_option o ys) y) (sym e) (contains_first y ys)

  pub listed : (i : ℕ) (xs : List V) (y : Y) → ComesFrom i xs y → Contains (filter_map h (enumerate_from i xs)) y
  listed i [] y (k, x, e, f) = cc
  listed i (v ∷ xs) y (zero, x, e, f) =
      let same : v ≡ x = cc in
      let place : i + 0 ≡ i = omega arith in
      kept_first (h (i, v)) y (filter_map h (enumerate_from (i + 1) xs))
      (ap (λ w. h (i, w)) same ∙ ap (λ n. h (n, x)) (sym place) ∙ f)
  listed i (v ∷ xs) y (suc k, x, e, f) =
      let place : i + suc k ≡ i + 1 + k = omega arith in
      kept_later (h (i, v)) y (filter_map h (enumerate_from (i + 1) xs))
      (listed (i + 1) xs y (k, x, e, subst (λ n. h (n, x) ≡ Some y) place f))

-- a place that has something lies in the list
pub there_within : {X : Type 0} (xs : List (Option X)) (i : ℕ) → IsSome (get_or xs i None) → i < length xs
there_within xs i h =
    ⊎_elim (λ lt. lt) (λ past. absurd (false≢true (ap is_some (sym (get_or_past xs i None past)) ∙ h)))
    (cases_lt i (length xs))
