-- Why ranks are merged in any order.
use Rattle.std.specs.Prelude.{◌≡◌, ℕ, zero, suc, ◌≤◌, Bool, true, false, ◌&&◌, if◌then◌else◌, List, [], ◌∷◌, All}
use Rattle.std.specs.Prelude.{length, take}
use Rattle.std.specs.Prelude.{Option}
use Rattle.std.specs.Simd.Lanes.{zip2}
use Rattle.std.proofs.Common.{arith, refl, sym, ap, ◌∙◌, subst}
use Rattle.std.proofs.lemmas.Bool.Decides.{nat_tests}
use Rattle.std.proofs.lemmas.List.{length-replicate, length-take}
use Rattle.std.proofs.lemmas.List.Elements.{All-head, All-tail, All-replicate}
use Rattle.std.proofs.lemmas.Simd.{length-zip2}
use Rattle.mp_nums.specs.declared.nearest.Near.{Near}
use Rattle.mp_nums.specs.Near.{comes_before}
use Rattle.mp_results.specs.Ranks.{put}
use Rattle.mp_partial.specs.Values.{Value}
use Rattle.mp_partial.specs.MergeLaws.{IsMerging, all_zip, zip_unit_first}
use Rattle.mp_topk.specs.Ranking.{AreRanks, HasRanks, is_rising, precedes, merged_ranks, merged_slots, no_ranks}
use Rattle.mp_topk.specs.Ranking.{put_all, slots_of}
use Rattle.mp_topk.specs.Ranking.{those_in}

-- ---- one window

pub put_commutes : (x y : Near) (list : List Near) → put x (put y list) ≡ put y (put x list)
unfolding put
put_commutes x y [] = grind (arith, nat_tests)
put_commutes x y (z ∷ zs) = grind (arith, nat_tests, put_commutes x y zs)

pub put_repeats : (x : Near) (list : List Near) → put x (put x list) ≡ put x list
unfolding put
put_repeats x [] = grind (arith, nat_tests)
put_repeats x (z ∷ zs) = grind (arith, nat_tests, put_repeats x zs)

-- fewer of the first k are fewer of all
pub take_again : (j k : ℕ) (list : List Near) → j ≤ k → take j (take k list) ≡ take j list
take_again zero k list le = refl
take_again (suc j) zero list le = absurd (omega (arith, le))
take_again (suc j) (suc k) [] le = refl
take_again (suc j) (suc k) (z ∷ zs) le = ap (λ xs. z ∷ xs) (take_again j k zs (omega (arith, le)))

take_front : (k : ℕ) (z : Near) (zs : List Near) → take k (z ∷ take k zs) ≡ take k (z ∷ zs)
take_front zero z zs = refl
take_front (suc k) z zs = ap (λ xs. z ∷ xs) (take_again k (suc k) zs (omega arith))

-- whatever stands before what
taken_by : (k : ℕ) (x z : Near) (zs : List Near) (first second : Bool)
    → take k (put x (take k zs)) ≡ take k (put x zs)
    → take (suc k) (if first then x ∷ z ∷ take k zs else if second then z ∷ put x
    (take k zs) else z ∷ take k zs)
    ≡ take (suc k) (if first then x ∷ z ∷ zs else if second then z ∷ put x zs else z ∷ zs)
taken_by k x z zs true second h = ap (λ xs. x ∷ xs) (take_front k z zs)
taken_by k x z zs false true h = ap (λ xs. z ∷ xs) h
taken_by k x z zs false false h = ap (λ xs. z ∷ xs) (take_again k k zs (omega arith))

pub take_put : (k : ℕ) (x : Near) (list : List Near) → take k (put x (take k list)) ≡ take k (put x list)
unfolding put
take_put zero x list = refl
take_put (suc k) x [] = refl
take_put (suc k) x (z ∷ zs) = taken_by k x z zs (comes_before x z) (comes_before z x) (take_put k x zs)

-- ---- many

-- one more is put among all
pub all_put : (x : Near) (xs ys : List Near) → put_all (put x xs) ys ≡ put x (put_all xs ys)
unfolding put_all
all_put x xs [] = refl
all_put x xs (y ∷ ys) = ap (put y) (all_put x xs ys) ∙ put_commutes y x (put_all xs ys)

all_commute : (xs ys zs : List Near) → put_all (put_all xs ys) zs ≡ put_all (put_all xs zs) ys
unfolding put_all
all_commute xs [] zs = refl
all_commute xs (y ∷ ys) zs = all_put y (put_all xs ys) zs ∙ ap (put y) (all_commute xs ys zs)

all_repeat : (xs ys : List Near) → put_all (put_all xs ys) ys ≡ put_all xs ys
unfolding put_all
all_repeat xs [] = refl
all_repeat xs (y ∷ ys) = ap (put y) (all_put y (put_all xs ys) ys)
    ∙ put_repeats y (put_all (put_all xs ys) ys) ∙ ap (put y) (all_repeat xs ys)

pub take_all : (k : ℕ) (xs ys : List Near) → take k (put_all (take k xs) ys) ≡ take k (put_all xs ys)
unfolding put_all
take_all k xs [] = take_again k k xs (omega arith)
take_all k xs (y ∷ ys) = sym (take_put k y (put_all (take k xs) ys))
    ∙ ap (λ list. take k (put y list)) (take_all k xs ys) ∙ take_put k y (put_all xs ys)

-- ---- those that are in order

both : (a b : Bool) → a ≡ true → b ≡ true → a && b ≡ true
both a b e f = grind (arith, e, f)

one_of : (a b : Bool) → a && b ≡ true → (a ≡ true) × (b ≡ true)
one_of true b h = (refl, h)
one_of false b h = absurd (grind (arith, h))

pub rising_head : (x : Near) (xs : List Near) → is_rising (x ∷ xs) ≡ true → precedes x xs ≡ true
unfolding is_rising
rising_head x xs h = (one_of (precedes x xs) (is_rising xs) h).0

pub rising_tail : (x : Near) (xs : List Near) → is_rising (x ∷ xs) ≡ true → is_rising xs ≡ true
unfolding is_rising
rising_tail x xs h = (one_of (precedes x xs) (is_rising xs) h).1

pub put_before : (x : Near) (xs : List Near) → precedes x xs ≡ true → put x xs ≡ x ∷ xs
unfolding precedes put
put_before x [] h = refl
put_before x (y ∷ ys) h = ap (λ t. if t then x ∷ y ∷ ys else if comes_before y x then y ∷ put x ys else
    y ∷ ys) h

-- they are what they give, put one by one
pub put_in_order : (xs : List Near) → is_rising xs ≡ true → put_all [] xs ≡ xs
unfolding put_all
put_in_order [] h = refl
put_in_order (x ∷ xs) h = ap (put x) (put_in_order xs (rising_tail x xs h))
    ∙ put_before x xs (rising_head x xs h)

precedes_by : (x y z : Near) (zs : List Near) (first second : Bool) → comes_before y x ≡ true
    → comes_before y z ≡ true
    → precedes y (if first then x ∷ z ∷ zs else if second then z ∷ put x zs else z ∷ zs) ≡ true
unfolding precedes
precedes_by x y z zs true second e f = e
precedes_by x y z zs false true e f = f
precedes_by x y z zs false false e f = f

precedes_put : (x y : Near) (ys : List Near) → comes_before y x ≡ true → precedes y ys ≡ true
    → precedes y (put x ys) ≡ true
unfolding precedes put
precedes_put x y [] e f = e
precedes_put x y (z ∷ zs) e f = precedes_by x y z zs (comes_before x z) (comes_before z x) e f

rises_by : (x y : Near) (ys : List Near) (first second : Bool) → comes_before x y ≡ first
    → comes_before y x ≡ second
    → is_rising (y ∷ ys) ≡ true → is_rising (put x ys) ≡ true
    → is_rising (if first then x ∷ y ∷ ys else if second then y ∷ put x ys else y ∷ ys) ≡ true
unfolding is_rising precedes
rises_by x y ys true second e f h k = both (comes_before x y) (is_rising (y ∷ ys)) e h
rises_by x y ys false true e f h k =
    both (precedes y (put x ys)) (is_rising (put x ys)) (precedes_put x y ys f (rising_head y ys h)) k
rises_by x y ys false false e f h k = h

pub put_rises : (x : Near) (xs : List Near) → is_rising xs ≡ true → is_rising (put x xs) ≡ true
unfolding is_rising precedes put
put_rises x [] h = refl
put_rises x (y ∷ ys) h =
    rises_by x y ys (comes_before x y) (comes_before y x) refl refl h (put_rises x ys (rising_tail y ys h))

pub all_rise : (xs ys : List Near) → is_rising xs ≡ true → is_rising (put_all xs ys) ≡ true
unfolding put_all
all_rise xs [] h = h
all_rise xs (y ∷ ys) h = put_rises y (put_all xs ys) (all_rise xs ys h)

precedes_take : (k : ℕ) (x : Near) (xs : List Near) → precedes x xs ≡ true → precedes x (take k xs) ≡ true
unfolding precedes
precedes_take zero x xs h = refl
precedes_take (suc k) x [] h = refl
precedes_take (suc k) x (y ∷ ys) h = h

pub take_rises : (k : ℕ) (xs : List Near) → is_rising xs ≡ true → is_rising (take k xs) ≡ true
unfolding is_rising
take_rises zero xs h = refl
take_rises (suc k) [] h = refl
take_rises (suc k) (x ∷ xs) h = both (precedes x (take k xs)) (is_rising (take k xs))
    (precedes_take k x xs (rising_head x xs h)) (take_rises k xs (rising_tail x xs h))

pub take_few : (k : ℕ) (xs : List Near) → length xs ≤ k → take k xs ≡ xs
take_few zero [] le = refl
take_few zero (x ∷ xs) le = absurd (omega (arith, le))
take_few (suc k) [] le = refl
take_few (suc k) (x ∷ xs) le = ap (λ ys. x ∷ ys) (take_few k xs (omega (arith, le)))

-- ---- the slots of a place

pub those_in_slots : (xs : List Near) → those_in (slots_of xs) ≡ xs
unfolding those_in
those_in_slots [] = refl
those_in_slots (x ∷ xs) = ap (λ ys. x ∷ ys) (those_in_slots xs)

pub are_ranks : (k : ℕ) (xs : List Near) → length xs ≤ k → is_rising xs ≡ true → AreRanks k (slots_of xs)
are_ranks k xs few rising = record {
  some = ap slots_of (sym (those_in_slots xs));
  few = subst (λ list. length list ≤ k) (sym (those_in_slots xs)) few;
  rising = ap is_rising (those_in_slots xs) ∙ rising;
}

-- in each, those of the other are put
abbrev merged_list : ℕ → List Near → List Near → List Near
merged_list k a b = take k (put_all a b)

pub lists_commute : (k : ℕ) (a b : List Near) → is_rising a ≡ true → is_rising b ≡ true
    → merged_list k a b ≡ merged_list k b a
lists_commute k a b g h = ap (λ xs. take k (put_all xs b)) (sym (put_in_order a g))
    ∙ ap (take k) (all_commute [] a b) ∙ ap (λ xs. take k (put_all xs a)) (put_in_order b h)

lists_associate : (k : ℕ) (a b c : List Near) → is_rising a ≡ true → is_rising b ≡ true
    → is_rising c ≡ true
    → merged_list k (merged_list k a b) c ≡ merged_list k a (merged_list k b c)
lists_associate k a b c f g h = take_all k (put_all a b) c
    ∙ ap (λ xs. take k (put_all (put_all xs b) c)) (sym (put_in_order a f))
    ∙ ap (λ xs. take k (put_all xs c)) (all_commute [] a b)
    ∙ ap (take k) (all_commute (put_all [] b) a c)
    ∙ ap (λ xs. take k (put_all (put_all xs c) a)) (put_in_order b g)
    ∙ sym (take_all k (put_all b c) a)
    ∙ lists_commute k (merged_list k b c) a (take_rises k (put_all b c) (all_rise b c g)) f

lists_repeat : (k : ℕ) (a : List Near) → length a ≤ k → is_rising a ≡ true → merged_list k a a ≡ a
lists_repeat k a few h = ap (λ xs. take k (put_all xs a)) (sym (put_in_order a h))
    ∙ ap (take k) (all_repeat [] a) ∙ ap (take k) (put_in_order a h) ∙ take_few k a few

lists_unit : (k : ℕ) (a : List Near) → length a ≤ k → is_rising a ≡ true → merged_list k [] a ≡ a
lists_unit k a few h = ap (take k) (put_in_order a h) ∙ take_few k a few

merged_is : (k : ℕ) (a b : List (Option Near)) → those_in (merged_slots k a b) ≡ merged_list k (those_in a)
    (those_in b)
merged_is k a b = those_in_slots (take k (put_all (those_in a) (those_in b)))

slots_commute : (k : ℕ) (a b : List (Option Near)) → AreRanks k a → AreRanks k b
    → merged_slots k a b ≡ merged_slots k b a
slots_commute k a b g h = ap slots_of (lists_commute k (those_in a) (those_in b) g.rising h.rising)

slots_associate : (k : ℕ) (a b c : List (Option Near)) → AreRanks k a → AreRanks k b → AreRanks k c
    → merged_slots k (merged_slots k a b) c ≡ merged_slots k a (merged_slots k b c)
slots_associate k a b c f g h = ap (λ xs. slots_of (take k (put_all xs (those_in c)))) (merged_is k a b)
    ∙ ap slots_of (lists_associate k (those_in a) (those_in b) (those_in c) f.rising g.rising h.rising)
    ∙ ap (λ xs. slots_of (take k (put_all (those_in a) xs))) (sym (merged_is k b c))

slots_repeat : (k : ℕ) (a : List (Option Near)) → AreRanks k a → merged_slots k a a ≡ a
slots_repeat k a h = ap slots_of (lists_repeat k (those_in a) h.few h.rising) ∙ sym h.some

slots_unit : (k : ℕ) (a : List (Option Near)) → AreRanks k a → merged_slots k [] a ≡ a
unfolding those_in
slots_unit k a h = ap slots_of (lists_unit k (those_in a) h.few h.rising) ∙ sym h.some

slots_are : (k : ℕ) (a b : List (Option Near)) → AreRanks k a → AreRanks k b → AreRanks k (merged_slots k a b)
slots_are k a b g h = are_ranks k (take k (put_all (those_in a) (those_in b)))
    (omega (arith, length-take k (put_all (those_in a) (those_in b))))
    (take_rises k (put_all (those_in a) (those_in b)) (all_rise (those_in a) (those_in b) g.rising))

-- ---- place by place

zip_commutes_where : {A : Type 0} (P : A → Type 0) (f : A → A → A)
    → ((a b : A) → P a → P b → f a b ≡ f b a)
    → (xs ys : List A) → All P xs → All P ys → zip2 f xs ys ≡ zip2 f ys xs
zip_commutes_where P f h [] [] p q = refl
zip_commutes_where P f h [] (y ∷ ys) p q = refl
zip_commutes_where P f h (x ∷ xs) [] p q = refl
zip_commutes_where P f h (x ∷ xs) (y ∷ ys) p q = cc (
  h x y (All-head P x xs p) (All-head P y ys q),
  zip_commutes_where P f h xs ys (All-tail P x xs p) (All-tail P y ys q),
)

zip_associates_where : {A : Type 0} (P : A → Type 0) (f : A → A → A)
    → ((a b c : A) → P a → P b → P c → f (f a b) c ≡ f a (f b c))
    → (xs ys zs : List A) → All P xs → All P ys → All P zs
    → zip2 f (zip2 f xs ys) zs ≡ zip2 f xs (zip2 f ys zs)
zip_associates_where P f h [] ys zs p q r = refl
zip_associates_where P f h (x ∷ xs) [] zs p q r = refl
zip_associates_where P f h (x ∷ xs) (y ∷ ys) [] p q r = refl
zip_associates_where P f h (x ∷ xs) (y ∷ ys) (z ∷ zs) p q r = cc (
  h x y z (All-head P x xs p) (All-head P y ys q) (All-head P z zs r),
  zip_associates_where P f h xs ys zs (All-tail P x xs p) (All-tail P y ys q) (All-tail P z zs r),
)

zip_repeats_where : {A : Type 0} (P : A → Type 0) (f : A → A → A) → ((a : A) → P a → f a a ≡ a)
    → (xs : List A)
    → All P xs → zip2 f xs xs ≡ xs
zip_repeats_where P f h [] p = refl
zip_repeats_where P f h (x ∷ xs) p =
    cc (h x (All-head P x xs p), zip_repeats_where P f h xs (All-tail P x xs p))

no_ranks_have : (k size : ℕ) → HasRanks k size (no_ranks size)
unfolding is_rising
no_ranks_have k size = record {
  places = length-replicate size [];
  ranks = All-replicate (AreRanks k) size [] (are_ranks k [] (omega arith) refl);
}

merged_have : (k size : ℕ) (a b : Value) → HasRanks k size a → HasRanks k size b
    → HasRanks k size (merged_ranks k a b)
merged_have k size a b g h = record {
  places = length-zip2 (merged_slots k) a b (g.places ∙ sym h.places) ∙ g.places;
  ranks = all_zip (merged_slots k) (AreRanks k) (λ x y p q. slots_are k x y p q) a b g.ranks h.ranks;
}

ranks_commute : (k size : ℕ) (a b : Value) → HasRanks k size a → HasRanks k size b
    → merged_ranks k a b ≡ merged_ranks k b a
ranks_commute k size a b g h =
    zip_commutes_where (AreRanks k) (merged_slots k) (slots_commute k) a b g.ranks h.ranks

ranks_unit : (k size : ℕ) (a : Value) → HasRanks k size a → merged_ranks k (no_ranks size) a ≡ a
ranks_unit k size a h =
    zip_unit_first (merged_slots k) (AreRanks k) [] (λ x p. slots_unit k x p) size a h.places h.ranks

pub ranks_merge : (k : ℕ) → IsMerging (HasRanks k) no_ranks (merged_ranks k)
ranks_merge k = record {
  commutative = λ size a b g h. ranks_commute k size a b g h;
  associative = λ size a b c f g h.
      zip_associates_where (AreRanks k) (merged_slots k) (slots_associate k) a b c f.ranks g.ranks h.ranks;
  idempotent = λ size a h. zip_repeats_where (AreRanks k) (merged_slots k) (slots_repeat k) a h.ranks;
  unit_first = λ size a h. ranks_unit k size a h;
  unit_last = λ size a h. ranks_commute k size a (no_ranks size) h (no_ranks_have k size) ∙ ranks_unit k size a h;
  unit_is_value = λ size. no_ranks_have k size;
  merged_is_value = λ size a b g h. merged_have k size a b g h;
}
