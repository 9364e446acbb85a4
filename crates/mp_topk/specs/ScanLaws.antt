-- Why scans of more pairs give ranks what these pairs give together.
use Rattle.std.specs.Prelude.{◌≡◌, ◌≢◌, ℕ, zero, suc, ◌<◌, ◌≤◌, ◌⊎◌, Bool, true, false, ◌||◌}
use Rattle.std.specs.Prelude.{if◌then◌else◌, List, [], ◌∷◌, length, take, Option, Some, None}
use Rattle.std.proofs.Common.{arith, refl, sym, ap, ◌∙◌, inl, inr, subst, get_or}
use Rattle.std.proofs.lemmas.Bool.{cases_eq}
use Rattle.mp_nums.specs.declared.nearest.Near.{Near}
use Rattle.mp_defs.specs.Series.{Series}
use Rattle.mp_defs.specs.Distance.{distance}
use Rattle.mp_defs.specs.Least.{at_distance, near_at}
use Rattle.mp_defs.specs.Profile.{windows_of}
use Rattle.mp_results.specs.Ranks.{in_order, put, put_if_there}
use Rattle.mp_topk.specs.Ranking.{put_all}
use Rattle.mp_topk.specs.RankLaws.{take_all, take_again}
use Rattle.mp_topk.specs.Taking.{chosen}
use Rattle.mp_topk.specs.TakingLaws.{GivesNothing, IsEither, gives_nothing_more, none_gives, order_both, put_last}

-- ---- candidates

pub order_same : (c d : ℕ → Option Near) (n : ℕ) → ((j : ℕ) → j < n → c j ≡ d j)
    → in_order c n ≡ in_order d n
unfolding in_order
order_same c d zero h = refl
order_same c d (suc n) h = ap (λ x. put_if_there x (in_order c n)) (h n (omega arith))
    ∙ ap (put_if_there (d n)) (order_same c d n (λ j lt. h j (omega (arith, lt))))

pub order_none : (c : ℕ → Option Near) (n : ℕ) → ((j : ℕ) → j < n → c j ≡ None) → in_order c n ≡ []
unfolding in_order
order_none c zero h = refl
order_none c (suc n) h = ap (λ x. put_if_there x (in_order c n)) (h n (omega arith))
    ∙ order_none c n (λ j lt. h j (omega (arith, lt)))

pub order_one : (c : ℕ → Option Near) (n j : ℕ) (x : Near) → j < n → c j ≡ Some x
    → ((i : ℕ) → i < n → i ≢ j → c i ≡ None) → in_order c n ≡ x ∷ []
unfolding in_order put
order_one c zero j x lt e h = absurd (omega (arith, lt))
order_one c (suc n) j x lt e h = elim (cases_eq n j) [
  | inl same ↦ ap (λ y. put_if_there y (in_order c n)) (ap c same ∙ e)
      ∙ ap (put x) (order_none c n (λ i less. h i (omega (arith, less)) (λ f. omega (arith, f, same, less))))
  | inr ne ↦ ap (λ y. put_if_there y (in_order c n)) (h n (omega arith) ne)
      ∙ order_one c n j x (below n j lt ne) e (λ i less. h i (omega (arith, less)))
]
  where
    below : (n j : ℕ) → j < suc n → n ≢ j → j < n
    below zero zero lt ne = absurd (ne refl)
    below zero (suc j) lt ne = absurd (omega (arith, lt))
    below (suc n) zero lt ne = omega arith
    below (suc n) (suc j) lt ne =
        let less = below n j (omega (arith, lt)) (λ e. ne (ap suc e)) in omega (arith, less)

all_all : (xs ys zs : List Near) → put_all (put_all xs ys) zs ≡ put_all xs (put_all ys zs)
unfolding put_all
all_all xs ys [] = refl
all_all xs ys (z ∷ zs) = ap (put z) (all_all xs ys zs) ∙ sym (put_last z xs (put_all ys zs))

-- ---- each place

-- place i has the first k of what it had and of the windows that may be chosen for window i
pub record AreTaken (k : ℕ) (may : ℕ → ℕ → Bool) (m : ℕ) (a : Series) (old new : List (List Near)) :
    Type 0 where
  pub places : length new ≡ length old
  pub at : (i : ℕ) → i < length old
      → get_or new i [] ≡ take k (put_all (get_or old i []) (in_order (chosen may m a i) (windows_of m a)))

-- at most k at each place
abbrev pub AreFew : ℕ → List (List Near) → Type 0
AreFew k lists = (i : ℕ) → take k (get_or lists i []) ≡ get_or lists i []

none_chosen : (t : Bool) (j : ℕ) (d : Option ℕ) → (t ≡ true → d ≡ None)
    → (if t then at_distance j d else None) ≡ None
none_chosen true j d h = ap (at_distance j) (h refl)
none_chosen false j d h = refl

-- where no pair has a distance, nothing changes
pub taken_none : (k : ℕ) (may : ℕ → ℕ → Bool) (m : ℕ) (a : Series) (lists : List (List Near))
    → AreFew k lists
    → ((i j : ℕ) → may i j ≡ true → distance m a i a j ≡ None) → AreTaken k may m a lists lists
unfolding put_all
taken_none k may m a lists few h = record {
  places = refl;
  at = λ i lt. sym (ap (λ xs. take k (put_all (get_or lists i []) xs))
      (order_none (chosen may m a i) (windows_of m a)
      (λ j less. none_chosen (may i j) j (distance m a i a j) (h i j))) ∙ few i);
}

pub still_few : (k : ℕ) (may : ℕ → ℕ → Bool) (m : ℕ) (a : Series) (old new : List (List Near))
    → AreFew k old
    → AreTaken k may m a old new → AreFew k new
still_few k may m a old new few h i = elim (below_or i (length old)) [
  | inl lt ↦ ap (take k) (h.at i lt)
      ∙ take_again k k (put_all (get_or old i []) (in_order (chosen may m a i) (windows_of m a))) (omega arith)
      ∙ sym (h.at i lt)
  | inr le ↦ past k i new (omega (arith, le, h.places))
]
  where
    below_or : (i n : ℕ) → (i < n) ⊎ (n ≤ i)
    below_or i zero = inr (omega arith)
    below_or zero (suc n) = inl (omega arith)
    below_or (suc i) (suc n) = elim (below_or i n)
        [ inl lt ↦ inl (omega (arith, lt)) | inr le ↦ inr (omega (arith, le)) ]

    nothing : (k : ℕ) → take {A = Near} k [] ≡ []
    nothing zero = refl
    nothing (suc k) = refl

    past : (k i : ℕ) (lists : List (List Near)) → length lists ≤ i
        → take k (get_or lists i []) ≡ get_or lists i []
    past k i [] le = nothing k
    past k zero (x ∷ xs) le = absurd (omega (arith, le))
    past k (suc i) (x ∷ xs) le = past k i xs (omega (arith, le))

pub taken_same : (k : ℕ) (p q : ℕ → ℕ → Bool) (m : ℕ) (a : Series) (old new : List (List Near))
    → length old ≡ windows_of m a → AreTaken k p m a old new
    → ((i j : ℕ) → i < windows_of m a → j < windows_of m a → p i j ≡ q i j) → AreTaken k q m a old new
taken_same k p q m a old new long h same = record {
  places = h.places;
  at = λ i lt. h.at i lt ∙ ap (λ xs. take k (put_all (get_or old i []) xs))
      (order_same (chosen p m a i) (chosen q m a i) (windows_of m a)
      (λ j less. ap (λ t. if t then at_distance j (distance m a i a j) else None)
      (same i j (omega (arith, lt, long)) less)));
}

either_chosen : (s t : Bool) (x : Option Near) → ((if s then x else None) ≡ None
    → (if s || t then x else None) ≡ (if t then x else None))
either_chosen true true x e = refl
either_chosen true false x e = e
either_chosen false t x e = refl

other_chosen : (s t : Bool) (x : Option Near) → ((if t then x else None) ≡ None
    → (if s || t then x else None) ≡ (if s then x else None))
other_chosen true t x e = refl
other_chosen false true x e = e
other_chosen false false x e = refl

same_chosen : (s t : Bool) (x : Option Near) (y z : Near) → (if s then x else None) ≡ Some y
    → (if t then x else None) ≡ Some z → (y ≡ z) × ((if s || t then x else None) ≡ Some y)
same_chosen true true x y z e f = (let g : Some y ≡ Some z = sym e ∙ f in cc, e)
same_chosen true false x y z e f = absurd (cc)
same_chosen false t x y z e f = absurd (cc)

pub either_is : (p q : ℕ → ℕ → Bool) (m : ℕ) (a : Series) (i n : ℕ)
    → IsEither (chosen p m a i) (chosen q m a i) (chosen (λ r c. p r c || q r c) m a i) n
either_is p q m a i n = record {
  one = λ j lt. either_chosen (p i j) (q i j) (at_distance j (distance m a i a j));
  other = λ j lt. other_chosen (p i j) (q i j) (at_distance j (distance m a i a j));
  same = λ j x y lt. same_chosen (p i j) (q i j) (at_distance j (distance m a i a j)) x y;
}

pub taken_then : (k : ℕ) (p q : ℕ → ℕ → Bool) (m : ℕ) (a : Series) (old mid new : List (List Near))
    → AreTaken k p m a old mid → AreTaken k q m a mid new → AreTaken k (λ i j. p i j || q i j) m a old new
taken_then k p q m a old mid new g h = record {
  places = h.places ∙ g.places;
  at = λ i lt.
      let w = windows_of m a in
      let list = get_or old i [] in
      let first = in_order (chosen p m a i) w in
      let second = in_order (chosen q m a i) w in
      h.at i (omega (arith, lt, g.places)) ∙ ap (λ xs. take k (put_all xs second)) (g.at i lt)
      ∙ take_all k (put_all list first) second ∙ ap (take k) (all_all list first second)
      ∙ ap (λ xs. take k (put_all list xs)) (order_both (chosen p m a i) (chosen q m a i)
      (chosen (λ r c. p r c || q r c) m a i) w (either_is p q m a i w));
}

-- pairs that give nothing change nothing
pub taken_quiet : (k : ℕ) (may : ℕ → ℕ → Bool) (m : ℕ) (a : Series) (lists : List (List Near))
    → AreFew k lists
    → length lists ≡ windows_of m a
    → ((i j d : ℕ) → i < windows_of m a → j < windows_of m a → may i j ≡ true
    → distance m a i a j ≡ Some d
    → GivesNothing k (get_or lists i []) (near_at j d))
    → AreTaken k may m a lists lists
taken_quiet k may m a lists few long h = record {
  places = refl;
  at = λ i lt. sym (none_gives k (get_or lists i []) (chosen may m a i) (windows_of m a) (few i)
      (λ j x less e. by_choice (may i j) j (distance m a i a j) i x
      (λ d is dist. h i j d (omega (arith, lt, long)) less is dist) e));
}
  where
    by_choice : (t : Bool) (j : ℕ) (dist : Option ℕ) (i : ℕ) (x : Near)
        → ((d : ℕ) → t ≡ true → dist ≡ Some d → GivesNothing k (get_or lists i []) (near_at j d))
        → (if t then at_distance j dist else None) ≡ Some x → GivesNothing k (get_or lists i []) x
    by_choice true j None i x g e = absurd (cc)
    by_choice true j (Some d) i x g e =
        let same : near_at j d ≡ x = cc in subst (GivesNothing k (get_or lists i [])) same (g d refl refl)
    by_choice false j dist i x g e = absurd (cc)

-- and it stays so
pub taken_stays : (k : ℕ) (may : ℕ → ℕ → Bool) (m : ℕ) (a : Series) (old new : List (List Near)) (i : ℕ)
    (x : Near)
    → AreTaken k may m a old new → i < length old → GivesNothing k (get_or old i []) x
    → GivesNothing k (get_or new i []) x
taken_stays k may m a old new i x h lt g = subst (λ list. GivesNothing k list x) (sym (h.at i lt))
    (gives_nothing_more k (get_or old i []) x (in_order (chosen may m a i) (windows_of m a)) g)
