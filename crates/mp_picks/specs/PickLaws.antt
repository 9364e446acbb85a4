-- The proof that the description of the choice has one answer.
use Rattle.std.proofs.Common.{◌≡◌, ℕ, zero, suc, ◌<◌, ◌≤◌, Bool, true, false, cond, ltb-true, ltb-false, lt-ltb}
use Rattle.std.proofs.Common.{List, [], ◌∷◌, refl, sym, ap, ◌∙◌, subst, inl, inr, ⊎_elim, arith}
use Rattle.std.specs.Prelude.{Option, Some, None, All, AllPairs, Contains, ◌⊎◌, ◌↔◌, filter, nat_lt}
use Rattle.std.specs.Cmp.{IsTotalOrder, upto, tied_itself}
use Rattle.std.specs.Int.{abs_diff}
use Rattle.std.specs.Option.{option_map_or}
use Rattle.std.specs.Ordering.{is_lt, is_gt, ordering_reverse}
use Rattle.std.specs.declared.cmp.Ordering.{Ordering}
use Rattle.std.specs.declared.cmp.Ordering.TheVariants.{Less, Equal, Greater}
use Rattle.std.proofs.lemmas.Bool.{false≢true}
use Rattle.std.proofs.lemmas.List.Elements.{All-nil, All-cons, All-head, All-tail, All-contains, All-contains_itself}
use Rattle.std.proofs.lemmas.List.Elements.{All-weaker}
use Rattle.mp_picks.specs.Picks.{first_of, outside, picks}
use Rattle.mp_picks.specs.Laws.{AreToldApart, IsAnswered, ArePicked, PicksAreDescribed}

-- ---- lists

module _ {X : Type 0} where
  pub contains_first : (x : X) (xs : List X) → Contains (x ∷ xs) x
  contains_first x xs = (zero, omega arith, refl)

  pub contains_later : (x y : X) (xs : List X) → Contains xs y → Contains (x ∷ xs) y
  contains_later x y xs h = (suc h.0, (let lt = h.1 in omega arith), h.2)

  pub contains_cases : (x y : X) (xs : List X) → Contains (x ∷ xs) y → (x ≡ y) ⊎ Contains xs y
  contains_cases x y xs (zero, lt, e) = inl e
  contains_cases x y xs (suc k, lt, e) = inr (k, omega arith, e)

  pub contains_nothing : (x : X) → Contains [] x → ⊥
  contains_nothing x h = let lt : h.0 < 0 = h.1 in omega arith

  pub all_contained : (P : X → Type 0) (xs : List X) → ((x : X) → Contains xs x → P x) → All P xs
  all_contained P xs h = All-weaker (Contains xs) P h xs (All-contains_itself xs)

  -- in a filter stand those that pass
  kept_step : (p : X → Bool) (x y : X) (xs : List X) (b : Bool) → p x ≡ b
      → (Contains (filter p xs) y → Contains xs y × (p y ≡ true))
      → Contains (cond b (x ∷ filter p xs) (filter p xs)) y → Contains (x ∷ xs) y × (p y ≡ true)
  kept_step p x y xs false e ih k = let h = ih k in (contains_later x y xs h.0, h.1)
  kept_step p x y xs true e ih k =
      ⊎_elim (λ same. (subst (Contains (x ∷ xs)) same (contains_first x xs), subst (λ z. p z ≡ true) same e))
      (λ later. let h = ih later in (contains_later x y xs h.0, h.1)) (contains_cases x y (filter p xs) k)

  pub kept_passes : (p : X → Bool) (y : X) (xs : List X) → Contains (filter p xs) y → Contains xs y × (p y ≡ true)
  kept_passes p y [] k = absurd (contains_nothing y k)
  kept_passes p y (x ∷ xs) k = kept_step p x y xs (p x) refl (kept_passes p y xs) k

  passed_step : (p : X → Bool) (x y : X) (xs : List X) (b : Bool) → p x ≡ b → p y ≡ true
      → (Contains xs y → Contains (filter p xs) y)
      → Contains (x ∷ xs) y → Contains (cond b (x ∷ filter p xs) (filter p xs)) y
  passed_step p x y xs false e pass ih k =
      ⊎_elim (λ same. absurd (false≢true (sym e ∙ ap p same ∙ pass))) ih (contains_cases x y xs k)
  passed_step p x y xs true e pass ih k =
      ⊎_elim (λ same. subst (Contains (x ∷ filter p xs)) same (contains_first x (filter p xs)))
      (λ later. contains_later x y (filter p xs) (ih later)) (contains_cases x y xs k)

  pub passes_kept : (p : X → Bool) (y : X) (xs : List X) → p y ≡ true → Contains xs y → Contains (filter p xs) y
  passes_kept p y [] pass k = k
  passes_kept p y (x ∷ xs) pass k = passed_step p x y xs (p x) refl pass (passes_kept p y xs pass) k

  all_pairs_cons : (R : X → X → Type 0) (x : X) (xs : List X) → All (R x) xs → AllPairs R xs → AllPairs R (x ∷ xs)
  all_pairs_cons R x xs h k zero zero d lt le = absurd (omega (arith, lt))
  all_pairs_cons R x xs h k zero (suc j) d lt le = h j d (omega arith)
  all_pairs_cons R x xs h k (suc i) zero d lt le = absurd (omega (arith, lt))
  all_pairs_cons R x xs h k (suc i) (suc j) d lt le = k i j d (omega arith) (omega arith)

  all_pairs_head : (R : X → X → Type 0) (x : X) (xs : List X) → AllPairs R (x ∷ xs) → All (R x) xs
  all_pairs_head R x xs h k d lt = h zero (suc k) d (omega arith) (omega arith)

  all_pairs_tail : (R : X → X → Type 0) (x : X) (xs : List X) → AllPairs R (x ∷ xs) → AllPairs R xs
  all_pairs_tail R x xs h i j d lt le = h (suc i) (suc j) d (omega arith) (omega arith)

-- ---- the first one

-- a test of an answer that turns with it
turned : (r : Ordering) → is_lt (ordering_reverse r) ≡ is_gt r
turned Less = refl
turned Equal = refl
turned Greater = refl

less_is : (r : Ordering) → is_lt r ≡ true → r ≡ Less
less_is Less h = refl
less_is Equal h = absurd (false≢true h)
less_is Greater h = absurd (false≢true h)

-- of three answers only one is neither of the two
neither : (r : Ordering) → is_lt r ≡ false → is_gt r ≡ false → r ≡ Equal
neither Less h k = absurd (false≢true (sym h))
neither Equal h k = refl
neither Greater h k = absurd (false≢true (sym k))

less_or_equal : (r : Ordering) → is_gt r ≡ false → (r ≡ Less) ⊎ (r ≡ Equal)
less_or_equal Less h = inl refl
less_or_equal Equal h = inr refl
less_or_equal Greater h = absurd (false≢true (sym h))

module _ {X : Type 0} (cmp : X → X → Ordering) (order : IsTotalOrder cmp) where
  pub swapped : (x y : X) → is_lt (cmp y x) ≡ is_gt (cmp x y)
  swapped x y = ap is_lt (order.antisymm y x) ∙ turned (cmp x y)

  -- x comes after none of them
  abbrev pub IsFirst : X → List X → Type 0
  IsFirst x xs = (y : X) → Contains xs y → is_gt (cmp x y) ≡ false

  pub first_itself : (x : X) → is_gt (cmp x x) ≡ false
  first_itself x = ap is_gt (tied_itself order x)

  -- what comes first doesn't come behind
  not_behind : (x y : X) → is_gt (cmp x y) ≡ false → cmp y x ≡ Less → ⊥
  not_behind x y h e = false≢true (sym h ∙ sym (swapped x y) ∙ ap is_lt e)

  earlier_step : (x y : X) (xs : List X) (b : Bool) → is_lt (cmp y x) ≡ b → Contains xs y → IsFirst y xs
      → Contains (x ∷ xs) (cond b y x) × IsFirst (cond b y x) (x ∷ xs)
  earlier_step x y xs true e h first = (
    contains_later x y xs h,
    λ z k. ⊎_elim (λ same. subst (λ w. is_gt (cmp y w) ≡ false) same (ap is_gt (less_is (cmp y x) e))) (first z)
        (contains_cases x z xs k),
  )
  earlier_step x y xs false e h first = (
    contains_first x xs,
    λ z k. ⊎_elim (λ same. subst (λ w. is_gt (cmp x w) ≡ false) same (first_itself x))
        (λ later. upto order x y z (sym (swapped x y) ∙ e) (first z later)) (contains_cases x z xs k),
  )

  pub none_first : (xs : List X) → first_of cmp xs ≡ None → xs ≡ []
  unfolding first_of
  none_first [] e = refl
  none_first (x ∷ xs) e = cc

  first_step : (x : X) (xs : List X) (r : Option X) → first_of cmp xs ≡ r
      → ((y : X) → first_of cmp xs ≡ Some y → Contains xs y × IsFirst y xs)
      → (y : X) → first_of cmp (x ∷ xs) ≡ Some y → Contains (x ∷ xs) y × IsFirst y (x ∷ xs)
  unfolding first_of
  first_step x xs None e ih y h =
      let nothing = none_first xs e in
      let one : x ≡ y = cc in
      subst (λ ys. Contains (x ∷ ys) y × IsFirst y (x ∷ ys)) (sym nothing)
      (subst (λ z. Contains (x ∷ []) z × IsFirst z (x ∷ [])) one (
        contains_first x [],
        λ z k. ⊎_elim (λ same. subst (λ w. is_gt (cmp x w) ≡ false) same (first_itself x))
            (λ later. absurd (contains_nothing z later)) (contains_cases x z [] k),
      ))
  first_step x xs (Some w) e ih y h =
      let one : cond (is_lt (cmp w x)) w x ≡ y = cc in
      let there = ih w e in
      subst (λ z. Contains (x ∷ xs) z × IsFirst z (x ∷ xs)) one
      (earlier_step x w xs (is_lt (cmp w x)) refl there.0 there.1)

  -- the first one is one of them, and comes after none
  pub first_is_first : (xs : List X) (y : X) → first_of cmp xs ≡ Some y → Contains xs y × IsFirst y xs
  unfolding first_of
  first_is_first [] y e = cc
  first_is_first (x ∷ xs) y e = first_step x xs (first_of cmp xs) refl (first_is_first xs) y e

  found_step : (xs : List X) (r : Option X) → first_of cmp xs ≡ r → AreToldApart cmp xs → (x : X) → Contains xs x
      → IsFirst x xs → r ≡ Some x
  found_step xs None e apart x h first = absurd (contains_nothing x (subst (λ ys. Contains ys x) (none_first xs e) h))
  found_step xs (Some y) e apart x h first =
      let there = first_is_first xs y e in
      ap Some (sym (apart x y h there.0 (neither (cmp x y) (swapped y x ∙ there.1 x h) (first y there.0))))

  -- and no other one is
  pub first_is_found : (xs : List X) → AreToldApart cmp xs → (x : X) → Contains xs x → IsFirst x xs
      → first_of cmp xs ≡ Some x
  first_is_found xs apart x h first = found_step xs (first_of cmp xs) refl apart x h first

-- ---- the choice

module _ {X : Type 0} (cmp : X → X → Ordering) (place : X → ℕ) (zone : ℕ) where
  abbrev left : X → List X → List X
  left x xs = outside cmp place zone x xs

  none_picked : (count : ℕ) (xs : List X) → first_of cmp xs ≡ None → picks cmp place zone (suc count) xs ≡ []
  unfolding picks
  none_picked count xs e = ap (λ r. option_map_or (λ x. x ∷ picks cmp place zone count (left x xs)) r []) e

  pub one_picked : (count : ℕ) (xs : List X) (x : X) → first_of cmp xs ≡ Some x
      → picks cmp place zone (suc count) xs ≡ x ∷ picks cmp place zone count (left x xs)
  unfolding picks
  one_picked count xs x e = ap (λ r. option_map_or (λ y. y ∷ picks cmp place zone count (left y xs)) r []) e

  module _ (order : IsTotalOrder cmp) where
    -- an answer by a list is one by a longer list
    later_answer : (count : ℕ) (x y : X) (ys : List X) → cmp x y ≡ Less → IsAnswered cmp place zone count ys y
        → IsAnswered cmp place zone (suc count) (x ∷ ys) y
    later_answer count x y ys less (inl chosen) = inl (contains_later x y ys chosen)
    later_answer count x y ys less (inr (inl near)) = inr (inl (suc near.0, near.1, omega arith, near.3, near.4))
    later_answer count x y ys less (inr (inr full)) = inr
        (inr (ap suc full.0, All-cons (λ z. cmp z y ≡ Less) x ys less full.1))

    -- an answer by a list is one by what stands behind its first, where that isn't concerned
    earlier_answer : (count : ℕ) (x y : X) (ys : List X) → (x ≡ y → ⊥) → (abs_diff (place x) (place y) ≤ zone → ⊥)
        → IsAnswered cmp place zone (suc count) (x ∷ ys) y → IsAnswered cmp place zone count ys y
    earlier_answer count x y ys other far (inl chosen) = ⊎_elim (λ same. absurd (other same)) (λ later. inl later)
        (contains_cases x y ys chosen)
    earlier_answer count x y ys other far (inr (inl (zero, z, lt, e, near))) = absurd
        (far (subst (λ w. abs_diff (place w) (place y) ≤ zone) (sym e) near.1))
    earlier_answer count x y ys other far (inr (inl (suc k, z, lt, e, near))) = inr (inl (k, z, omega arith, e, near))
    earlier_answer count x y ys other far (inr (inr (full, less))) = inr
        (inr (omega arith, All-tail (λ z. cmp z y ≡ Less) x ys less))

    -- those outside the zone of the first one come behind it
    behind : (x y : X) (xs : List X) → AreToldApart cmp xs → Contains xs x → IsFirst cmp order x xs
        → Contains (left x xs) y → cmp x y ≡ Less
    behind x y xs apart here first h =
        let kept = kept_passes (λ z. nat_lt zone (abs_diff (place x) (place z))) y xs h in
        ⊎_elim (λ less. less)
        (λ tied.
        let same = ap place (apart x y here kept.0 tied) in
        let far : zone < abs_diff (place x) (place y) = ltb-true _ _ kept.1 in
        absurd (omega arith)) (less_or_equal (cmp x y) (first y kept.0))

    apart_left : (x : X) (xs : List X) → AreToldApart cmp xs → AreToldApart cmp (left x xs)
    apart_left x xs apart y z h k e = apart y z
        (kept_passes (λ z. nat_lt zone (abs_diff (place x) (place z))) y xs h).0
        (kept_passes (λ z. nat_lt zone (abs_diff (place x) (place z))) z xs k).0 e

    answered_by_first : (count : ℕ) (x y : X) (xs ys : List X) (b : Bool) → nat_lt zone (abs_diff (place x) (place y))
        ≡ b → AreToldApart cmp xs → Contains xs x → IsFirst cmp order x xs
        → ((z : X) → Contains (left x xs) z → IsAnswered cmp place zone count ys z) → Contains xs y
        → IsAnswered cmp place zone (suc count) (x ∷ ys) y
    answered_by_first count x y xs ys true e apart here first others h =
        let further = passes_kept (λ z. nat_lt zone (abs_diff (place x) (place z))) y xs e h in
        later_answer count x y ys (behind x y xs apart here first further) (others y further)
    answered_by_first count x y xs ys false e apart here first others h =
        let near : abs_diff (place x) (place y) ≤ zone = ltb-false _ _ e in
        ⊎_elim (λ less. inr (inl (zero, x, omega arith, refl, (less, near))))
        (λ tied. inl (subst (Contains (x ∷ ys)) (apart x y here h tied) (contains_first x ys)))
        (less_or_equal (cmp x y) (first y h))

    described_step : (count : ℕ) (x : X) (xs ys : List X) → AreToldApart cmp xs → Contains xs x → IsFirst cmp order x xs
        → ArePicked cmp place zone count (left x xs) ys → ArePicked cmp place zone (suc count) xs (x ∷ ys)
    described_step count x xs ys apart here first h =
        let from = λ (y : X) (k : Contains ys y). All-contains (Contains (left x xs)) ys y h.among k in
        record {
          few = (let few = h.few in omega arith);
          among = All-cons (Contains xs) x ys here
              (all_contained (Contains xs) ys
              (λ y k. (kept_passes (λ z. nat_lt zone (abs_diff (place x) (place z))) y xs (from y k)).0));
          rising = all_pairs_cons (λ y z. cmp y z ≡ Less) x ys
              (all_contained (λ z. cmp x z ≡ Less) ys (λ y k. behind x y xs apart here first (from y k))) h.rising;
          apart = all_pairs_cons (λ y z. zone < abs_diff (place y) (place z)) x ys
              (all_contained (λ z. zone < abs_diff (place x) (place z)) ys
              (λ y k. ltb-true _ _ (kept_passes (λ z. nat_lt zone (abs_diff (place x) (place z))) y xs
              (from y k)).1)) h.apart;
          others = λ y k. answered_by_first count x y xs ys (nat_lt zone (abs_diff (place x) (place y))) refl apart
              here first h.others k;
        }

    nothing_chosen : (count : ℕ) (xs : List X) → ((x : X) → Contains xs x → IsAnswered cmp place zone count [] x)
        → ArePicked cmp place zone count xs []
    nothing_chosen count xs others = record {
      few = omega arith;
      among = All-nil (Contains xs);
      rising = λ i j d lt le. absurd (omega (arith, le));
      apart = λ i j d lt le. absurd (omega (arith, le));
      others = others;
    }

    described_by : (count : ℕ) (xs : List X) (r : Option X) → first_of cmp xs ≡ r → AreToldApart cmp xs
        → ((ys : List X) → AreToldApart cmp ys → ArePicked cmp place zone count ys (picks cmp place zone count ys))
        → ArePicked cmp place zone (suc count) xs (picks cmp place zone (suc count) xs)
    described_by count xs None e apart ih =
        let nothing = none_first cmp order xs e in
        subst (ArePicked cmp place zone (suc count) xs) (sym (none_picked count xs e))
        (nothing_chosen (suc count) xs (λ x h. absurd (contains_nothing x (subst (λ ys. Contains ys x) nothing h))))
    described_by count xs (Some x) e apart ih =
        let there = first_is_first cmp order xs x e in
        subst (ArePicked cmp place zone (suc count) xs) (sym (one_picked count xs x e))
        (described_step count x xs (picks cmp place zone count (left x xs)) apart there.0 there.1
        (ih (left x xs) (apart_left x xs apart)))

    -- those that are chosen step by step meet the description
    pub picks_meet : (count : ℕ) (xs : List X) → AreToldApart cmp xs → ArePicked cmp place zone count xs
        (picks cmp place zone count xs)
    unfolding picks
    picks_meet zero xs apart = nothing_chosen zero xs (λ x h. inr (inr (refl, All-nil (λ y. cmp y x ≡ Less))))
    picks_meet (suc count) xs apart = described_by count xs (first_of cmp xs) refl apart (picks_meet count)

    -- a first that meets the description comes after none of the candidates
    chosen_first : (count : ℕ) (x c : X) (xs cs : List X) → Contains xs x → IsFirst cmp order x xs
        → ArePicked cmp place zone (suc count) xs (c ∷ cs) → x ≡ c
    chosen_first count x c xs cs here first h = by_answer (h.others x here)
      where
        not_before : (y : X) → Contains (c ∷ cs) y → cmp y x ≡ Less → ⊥
        not_before y k = not_behind cmp order x y (first y (All-contains (Contains xs) (c ∷ cs) y h.among k))

        by_answer : IsAnswered cmp place zone (suc count) (c ∷ cs) x → x ≡ c
        by_answer (inl chosen) =
            ⊎_elim (λ same. sym same)
            (λ later. absurd (not_before c (contains_first c cs)
            (All-contains (λ z. cmp c z ≡ Less) cs x (all_pairs_head (λ y z. cmp y z ≡ Less) c cs h.rising) later)))
            (contains_cases c x cs chosen)
        by_answer (inr (inl near)) = absurd (not_before near.1 (near.0, near.2, near.3) near.4.0)
        by_answer (inr (inr full)) = absurd
            (not_before c (contains_first c cs) (All-head (λ z. cmp z x ≡ Less) c cs full.1))

    described_rest : (count : ℕ) (x : X) (xs cs : List X) → ArePicked cmp place zone (suc count) xs (x ∷ cs)
        → ArePicked cmp place zone count (left x xs) cs
    described_rest count x xs cs h =
        let outside_of = λ (y : X). nat_lt zone (abs_diff (place x) (place y)) in
        let far = all_pairs_head (λ y z. zone < abs_diff (place y) (place z)) x cs h.apart in
        record {
          few = (let few = h.few in omega arith);
          among = all_contained (Contains (left x xs)) cs
              (λ y k. passes_kept outside_of y xs
              (lt-ltb _ _ (All-contains (λ z. zone < abs_diff (place x) (place z)) cs y far k))
              (All-contains (Contains xs) cs y (All-tail (Contains xs) x cs h.among) k));
          rising = all_pairs_tail (λ y z. cmp y z ≡ Less) x cs h.rising;
          apart = all_pairs_tail (λ y z. zone < abs_diff (place y) (place z)) x cs h.apart;
          others = λ y k.
              let kept = kept_passes outside_of y xs k in
              let apart : zone < abs_diff (place x) (place y) = ltb-true _ _ kept.1 in
              earlier_answer count x y cs (λ same. let e = ap place same in absurd (omega arith))
              (λ near. absurd (omega arith)) (h.others y kept.0);
        }

    only_by : (count : ℕ) (xs chosen : List X) (r : Option X) → first_of cmp xs ≡ r → AreToldApart cmp xs
        → ((ys zs : List X) → AreToldApart cmp ys → ArePicked cmp place zone count ys zs
        → zs ≡ picks cmp place zone count ys)
        → ArePicked cmp place zone (suc count) xs chosen → chosen ≡ picks cmp place zone (suc count) xs
    only_by count xs [] None e apart ih h = sym (none_picked count xs e)
    only_by count xs (c ∷ cs) None e apart ih h = absurd
        (contains_nothing c (subst (λ ys. Contains ys c) (none_first cmp order xs e)
        (All-head (Contains xs) c cs h.among)))
    only_by count xs [] (Some x) e apart ih h = absurd (no_answer (h.others x (first_is_first cmp order xs x e).0))
      where
        no_answer : IsAnswered cmp place zone (suc count) [] x → ⊥
        no_answer (inl chosen) = contains_nothing x chosen
        no_answer (inr (inl near)) = let lt : near.0 < 0 = near.2 in omega arith
        no_answer (inr (inr full)) = let none : 0 ≡ suc count = full.0 in omega arith
    only_by count xs (c ∷ cs) (Some x) e apart ih h =
        let there = first_is_first cmp order xs x e in
        let same : x ≡ c = chosen_first count x c xs cs there.0 there.1 h in
        ap (λ ys. c ∷ ys) (ih (left c xs) cs (apart_left c xs apart) (described_rest count c xs cs h))
        ∙ sym (one_picked count xs c (e ∙ ap Some same))

    -- and no other list meets it
    pub only_picks : (count : ℕ) (xs chosen : List X) → AreToldApart cmp xs → ArePicked cmp place zone count xs chosen
        → chosen ≡ picks cmp place zone count xs
    unfolding picks
    only_picks zero xs [] apart h = refl
    only_picks zero xs (c ∷ cs) apart h = absurd (let few = h.few in omega arith)
    only_picks (suc count) xs chosen apart h = only_by count xs chosen (first_of cmp xs) refl apart (only_picks count) h

    -- the choice rests on which candidates there are, and not on their order
    pub same_candidates : (count : ℕ) (xs ys : List X) → AreToldApart cmp xs → AreToldApart cmp ys
        → ((x : X) → Contains xs x ↔ Contains ys x) → picks cmp place zone count xs ≡ picks cmp place zone count ys
    same_candidates count xs ys apart others same =
        let h = picks_meet count xs apart in
        only_picks count ys (picks cmp place zone count xs) others record {
          few = h.few;
          among = All-weaker (Contains xs) (Contains ys) (λ x. (same x).0) (picks cmp place zone count xs) h.among;
          rising = h.rising;
          apart = h.apart;
          others = λ x k. h.others x ((same x).1 k);
        }

pub picks_described : {X : Type 0} → PicksAreDescribed X
picks_described cmp place zone count candidates chosen order apart = (
  only_picks cmp place zone order count candidates chosen apart,
  λ e. subst (ArePicked cmp place zone count candidates) (sym e)
      (picks_meet cmp place zone order count candidates apart),
)
