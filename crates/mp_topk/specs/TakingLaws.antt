-- How what some pairs give ranks is put together.
use Rattle.std.specs.Prelude.{◌≡◌, ℕ, zero, suc, ◌<◌, Bool, true, false, if◌then◌else◌, List, [], ◌∷◌}
use Rattle.std.specs.Prelude.{take, Option, Some, None}
use Rattle.std.proofs.Common.{arith, refl, sym, ap, ◌∙◌}
use Rattle.std.proofs.lemmas.Bool.Decides.{nat_tests}
use Rattle.mp_nums.specs.declared.nearest.Near.{Near}
use Rattle.mp_nums.specs.Near.{comes_before}
use Rattle.mp_results.specs.Ranks.{in_order, put, put_if_there}
use Rattle.mp_topk.specs.Ranking.{is_rising, put_all}
use Rattle.mp_topk.specs.RankLaws.{all_put, lists_commute, put_commutes, put_repeats, put_rises, take_all}
use Rattle.mp_topk.specs.RankLaws.{take_put, take_rises}

-- ---- one more on the other side

pub same_window : (x y : Near) → comes_before x y ≡ false → comes_before y x ≡ false → x ≡ y
same_window x y e f = grind (arith, nat_tests, e, f)

put_by : (xs : List Near) (x y : Near) (ys : List Near) (first second : Bool) → comes_before x y ≡ first
    → comes_before y x ≡ second → put_all xs (put x ys) ≡ put x (put_all xs ys)
    → put_all xs (if first then x ∷ y ∷ ys else if second then y ∷ put x ys else y ∷ ys) ≡ put x
    (put y (put_all xs ys))
unfolding put_all
put_by xs x y ys true second e f h = refl
put_by xs x y ys false true e f h = ap (put y) h ∙ put_commutes y x (put_all xs ys)
put_by xs x y ys false false e f h =
    sym (ap (λ z. put z (put y (put_all xs ys))) (same_window x y e f) ∙ put_repeats y (put_all xs ys))

-- one of those that are put is one more that is put
pub put_last : (x : Near) (xs ys : List Near) → put_all xs (put x ys) ≡ put x (put_all xs ys)
unfolding put put_all
put_last x xs [] = refl
put_last x xs (y ∷ ys) = put_by xs x y ys (comes_before x y) (comes_before y x) refl refl (put_last x xs ys)

-- ---- candidates

pub order_rises : (c : ℕ → Option Near) (n : ℕ) → is_rising (in_order c n) ≡ true
unfolding in_order is_rising
order_rises c zero = refl
order_rises c (suc n) = if_there (c n) (in_order c n) (order_rises c n)
  where
    if_there : (x : Option Near) (xs : List Near) → is_rising xs ≡ true → is_rising (put_if_there x xs) ≡ true
    if_there None xs h = h
    if_there (Some x) xs h = put_rises x xs h

-- a candidate of either kind, which are the same where it is of both
pub record IsEither (c d e : ℕ → Option Near) (n : ℕ) : Type 0 where
  pub one : (j : ℕ) → j < n → (c j ≡ None → e j ≡ d j)
  pub other : (j : ℕ) → j < n → (d j ≡ None → e j ≡ c j)
  pub same : (j : ℕ) (x y : Near) → j < n → c j ≡ Some x → d j ≡ Some y → (x ≡ y) × (e j ≡ Some x)

fewer_either : (c d e : ℕ → Option Near) (n : ℕ) → IsEither c d e (suc n) → IsEither c d e n
fewer_either c d e n h = record {
  one = λ j lt. h.one j (omega (arith, lt));
  other = λ j lt. h.other j (omega (arith, lt));
  same = λ j x y lt. h.same j x y (omega (arith, lt));
}

both_put : (x y z : Option Near) (xs ys : List Near) → (x ≡ None → z ≡ y) → (y ≡ None → z ≡ x)
    → ((a b : Near) → x ≡ Some a → y ≡ Some b → (a ≡ b) × (z ≡ Some a))
    → put_all (put_if_there x xs) (put_if_there y ys) ≡ put_if_there z (put_all xs ys)
both_put None None z xs ys f g h = ap (λ w. put_if_there w (put_all xs ys)) (sym (f refl))
both_put None (Some b) z xs ys f g h =
    put_last b xs ys ∙ ap (λ w. put_if_there w (put_all xs ys)) (sym (f refl))
both_put (Some a) None z xs ys f g h =
    all_put a xs ys ∙ ap (λ w. put_if_there w (put_all xs ys)) (sym (g refl))
both_put (Some a) (Some b) z xs ys f g h =
    all_put a xs (put b ys) ∙ ap (put a) (put_last b xs ys)
    ∙ ap (λ w. put a (put w (put_all xs ys))) (sym (h a b refl refl).0)
    ∙ put_repeats a (put_all xs ys)
    ∙ ap (λ w. put_if_there w (put_all xs ys)) (sym (h a b refl refl).1)

-- those of both kinds together
pub order_both : (c d e : ℕ → Option Near) (n : ℕ) → IsEither c d e n
    → put_all (in_order c n) (in_order d n) ≡ in_order e n
unfolding in_order put_all
order_both c d e zero h = refl
order_both c d e (suc n) h =
    both_put (c n) (d n) (e n) (in_order c n) (in_order d n) (h.one n (omega arith)) (h.other n (omega arith))
    (λ x y. h.same n x y (omega arith))
    ∙ ap (put_if_there (e n)) (order_both c d e n (fewer_either c d e n h))

-- and so of the first k of each
pub first_both : (k : ℕ) (c d e : ℕ → Option Near) (n : ℕ) → IsEither c d e n
    → take k (put_all (take k (in_order c n)) (take k (in_order d n))) ≡ take k (in_order e n)
first_both k c d e n h =
    take_all k (in_order c n) (take k (in_order d n))
    ∙ lists_commute k (in_order c n) (take k (in_order d n)) (order_rises c n)
    (take_rises k (in_order d n) (order_rises d n))
    ∙ take_all k (in_order d n) (in_order c n)
    ∙ lists_commute k (in_order d n) (in_order c n) (order_rises d n) (order_rises c n)
    ∙ ap (take k) (order_both c d e n h)

-- ---- those that give nothing

-- a window more leaves the first k as they were
abbrev pub GivesNothing : ℕ → List Near → Near → Type 0
GivesNothing k list x = take k (put x list) ≡ list

-- and so it stays, whatever else is put
pub gives_nothing_more : (k : ℕ) (list : List Near) (x : Near) (others : List Near) → GivesNothing k list x
    → GivesNothing k (take k (put_all list others)) x
gives_nothing_more k list x others h =
    take_put k x (put_all list others) ∙ ap (take k) (sym (all_put x list others))
    ∙ sym (take_all k (put x list) others) ∙ ap (λ xs. take k (put_all xs others)) h

-- candidates of which each gives nothing give nothing together
pub none_gives : (k : ℕ) (list : List Near) (c : ℕ → Option Near) (n : ℕ) → take k list ≡ list
    → ((j : ℕ) (x : Near) → j < n → c j ≡ Some x → GivesNothing k list x)
    → take k (put_all list (in_order c n)) ≡ list
unfolding in_order put_all
none_gives k list c zero few h = few
none_gives k list c (suc n) few h =
    one (c n) (in_order c n) (λ x e. h n x (omega arith) e)
    (none_gives k list c n few (λ j x lt. h j x (omega (arith, lt))))
  where
    one : (x : Option Near) (xs : List Near) → ((y : Near) → x ≡ Some y → GivesNothing k list y)
        → take k (put_all list xs) ≡ list → take k (put_all list (put_if_there x xs)) ≡ list
    one None xs g e = e
    one (Some y) xs g e = ap (take k) (put_last y list xs) ∙ sym (take_put k y (put_all list xs))
        ∙ ap (λ ys. take k (put y ys)) e ∙ g y refl
