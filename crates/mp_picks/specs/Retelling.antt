-- The proof that a choice may be told in other words.
use Rattle.std.proofs.Common.{◌≡◌, ℕ, zero, suc, ◌+◌, Bool, true, false, cond, List, [], ◌∷◌, map, refl, sym, ap, ◌∙◌}
use Rattle.std.proofs.Common.{subst, ⊎_elim}
use Rattle.std.specs.Prelude.{Option, Some, None, Contains, filter, filter_map, nat_lt}
use Rattle.std.specs.Int.{abs_diff}
use Rattle.std.specs.List.{enumerate_from, cons_option}
use Rattle.std.specs.Option.{option_map, option_map_or}
use Rattle.std.specs.Ordering.{is_lt}
use Rattle.std.specs.declared.cmp.Ordering.{Ordering}
use Rattle.std.specs.declared.cmp.Ordering.TheVariants.{Equal}
use Rattle.mp_picks.specs.declared.candidates.Candidate.{Candidate}
use Rattle.mp_picks.specs.Picks.{earlier_of, first_of, outside, picks}
use Rattle.mp_picks.specs.Candidates.{by_key, place_of, candidate_at, candidates}
use Rattle.mp_picks.specs.Laws.{AreToldApart, SaysTheSame, PicksAreRetold}
use Rattle.mp_picks.specs.PickLaws.{contains_first, contains_later, contains_cases, contains_nothing}
use Rattle.mp_picks.specs.CandidateLaws.{candidates_told_apart}

-- ---- the choice goes by order and places alone

module _ {X Y : Type 0} (f : X → Y) (cmp : X → X → Ordering) (order : Y → Y → Ordering) (place : X → ℕ) (spot : Y → ℕ)
    (same_order : (a b : X) → order (f a) (f b) ≡ cmp a b) (same_place : (a : X) → spot (f a) ≡ place a) where
  chosen_of_two : (x y : X) (b : Bool) → cond b (f y) (f x) ≡ f (cond b y x)
  chosen_of_two x y b = elim b as (λ c. cond c (f y) (f x) ≡ f (cond c y x)) [ true ↦ refl | false ↦ refl ]

  earlier_map : (x : X) (r : Option X) → earlier_of order (f x) (option_map f r) ≡ f (earlier_of cmp x r)
  earlier_map x None = refl
  earlier_map x (Some y) = ap (λ o. cond (is_lt o) (f y) (f x)) (same_order y x) ∙ chosen_of_two x y (is_lt (cmp y x))

  first_map : (xs : List X) → first_of order (map f xs) ≡ option_map f (first_of cmp xs)
  unfolding first_of
  first_map [] = refl
  first_map (x ∷ xs) = ap Some (ap (earlier_of order (f x)) (first_map xs) ∙ earlier_map x (first_of cmp xs))

  kept_map : (p : X → Bool) (q : Y → Bool) → ((x : X) → q (f x) ≡ p x) → (xs : List X)
      → filter q (map f xs) ≡ map f (filter p xs)
  kept_map p q h [] = refl
  kept_map p q h (x ∷ xs) =
      ap (λ b. cond b (f x ∷ filter q (map f xs)) (filter q (map f xs))) (h x)
      ∙ ap (λ ys. cond (p x) (f x ∷ ys) ys) (kept_map p q h xs)
      ∙ chosen_of_two_lists (x ∷ filter p xs) (filter p xs) (p x)
    where
      chosen_of_two_lists : (ys zs : List X) (b : Bool) → cond b (map f ys) (map f zs) ≡ map f (cond b ys zs)
      chosen_of_two_lists ys zs b = elim b as (λ c. cond c (map f ys) (map f zs) ≡ map f (cond c ys zs))
          [ true ↦ refl | false ↦ refl ]

  outside_map : (zone : ℕ) (x : X) (xs : List X) → outside order spot zone (f x) (map f xs) ≡ map f
      (outside cmp place zone x xs)
  outside_map zone x xs =
      kept_map (λ y. nat_lt zone (abs_diff (place x) (place y))) (λ y. nat_lt zone (abs_diff (spot (f x)) (spot y)))
      (λ y i. nat_lt zone (abs_diff (same_place x i) (same_place y i))) xs

  picked_map : (zone count : ℕ) (xs : List X) (r : Option X)
      → ((ys : List X) → picks order spot zone count (map f ys) ≡ map f (picks cmp place zone count ys))
      → option_map_or (λ y. y ∷ picks order spot zone count (outside order spot zone y (map f xs))) (option_map f r) []
      ≡ map f (option_map_or (λ x. x ∷ picks cmp place zone count (outside cmp place zone x xs)) r [])
  picked_map zone count xs None ih = refl
  picked_map zone count xs (Some x) ih = ap (λ ys. f x ∷ ys) (ap (picks order spot zone count) (outside_map zone x xs)
      ∙ ih (outside cmp place zone x xs))

  pub picks_map : (zone count : ℕ) (xs : List X) → picks order spot zone count (map f xs) ≡ map f
      (picks cmp place zone count xs)
  unfolding picks
  picks_map zone zero xs = refl
  picks_map zone (suc count) xs =
      ap (λ r. option_map_or (λ y. y ∷ picks order spot zone count (outside order spot zone y (map f xs))) r [])
      (first_map xs)
      ∙ picked_map zone count xs (first_of cmp xs) (picks_map zone count)

-- ---- the candidates of a list

same_cons : {A B : Type 0} (f : A → B) (x : Option A) (xs : List A) → map f (cons_option x xs) ≡ cons_option
    (option_map f x) (map f xs)
same_cons f None xs = refl
same_cons f (Some x) xs = refl

module _ {K V Y : Type 0} where
  told_from : (tell : Candidate K → Y) (key : ℕ × V → Option K) (own : ℕ × V → Option Y) → SaysTheSame tell key own
      → (i : ℕ) (xs : List V)
      → map tell (filter_map candidate_at (enumerate_from i (map key (enumerate_from i xs)))) ≡ filter_map own
      (enumerate_from i xs)
  told_from tell key own h i [] = refl
  told_from tell key own h i (x ∷ xs) =
      same_cons tell (candidate_at (i, key (i, x)))
      (filter_map candidate_at (enumerate_from (i + 1) (map key (enumerate_from (i + 1) xs))))
      ∙ ap (λ ys. cons_option (option_map tell (candidate_at (i, key (i, x)))) ys) (told_from tell key own h (i + 1) xs)
      ∙ ap (λ o. cons_option o (filter_map own (enumerate_from (i + 1) xs))) (h i x)

told_apart_map : {X Y : Type 0} (f : X → Y) (cmp : X → X → Ordering) (order : Y → Y → Ordering)
    → ((a b : X) → order (f a) (f b) ≡ cmp a b) → (xs : List X) → AreToldApart cmp xs → AreToldApart order (map f xs)
told_apart_map {X} {Y} f cmp order same xs apart y z h k e =
    let a = source xs y h in
    let b = source xs z k in
    let tied : cmp a.0 b.0 ≡ Equal = sym (same a.0 b.0) ∙ ap (λ w. order w (f b.0)) a.2 ∙ ap (order y) b.2 ∙ e in
    sym a.2 ∙ ap f (apart a.0 b.0 a.1 b.1 tied) ∙ b.2
  where
    source : (xs : List X) (y : Y) → Contains (map f xs) y → (x : X) × Contains xs x × (f x ≡ y)
    source [] y h = absurd (contains_nothing y h)
    source (x ∷ xs) y h =
        ⊎_elim (λ same. (x, contains_first x xs, same))
        (λ later. let found = source xs y later in (found.0, contains_later x found.0 xs found.1, found.2))
        (contains_cases (f x) y (map f xs) h)

pub picks_retold : {K V Y : Type 0} → PicksAreRetold K V Y
picks_retold cmp order place tell retelling key own says xs zone count =
    let told = told_from tell key own says 0 xs in
    let keys = map key (enumerate_from 0 xs) in (
      sym (picks_map tell (by_key cmp) order place_of place retelling.order_is retelling.place_is zone count
          (candidates keys)) ∙ ap (picks order place zone count) told,
      subst (AreToldApart order) told (told_apart_map tell (by_key cmp) order retelling.order_is (candidates keys)
          (candidates_told_apart cmp keys)),
    )
