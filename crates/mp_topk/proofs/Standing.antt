-- Which windows stand among the first ones of some that are in order.
use Rattle.std.proofs.Common.{◌≡◌, ℕ, zero, suc, ◌+◌, ◌≤◌, ◌⊎◌, Bool, true, false, List, [], ◌∷◌, length, inl, inr}
use Rattle.std.proofs.Common.{refl, sym, ap, subst, ◌∙◌, arith}
use Rattle.std.specs.Prelude.{if◌then◌else◌, take}
use Rattle.std.proofs.lemmas.Bool.Decides.{nat_tests}
use Rattle.mp_nums.specs.declared.nearest.Near.{Near}
use Rattle.mp_nums.specs.Near.{comes_before}
use Rattle.mp_results.specs.Ranks.{put}
use Rattle.mp_topk.specs.Laws.{StandsIn}
use Rattle.mp_topk.specs.Ranking.{is_rising, precedes, put_all}
use Rattle.mp_topk.specs.RankLaws.{all_rise, lists_commute, rising_head, rising_tail, take_few, take_put}
use Rattle.mp_topk.specs.TakingLaws.{GivesNothing}

-- how many of a list come before x
abbrev pub before_count : Near → List Near → ℕ
before_count x [] = 0
before_count x (y ∷ ys) = (if comes_before y x then 1 else 0) + before_count x ys

-- one that is put among them takes none away
put_counts : (x z : Near) (xs : List Near) → before_count x xs ≤ before_count x (put z xs)
unfolding put
put_counts x z [] = omega arith
put_counts x z (y ∷ ys) = by (comes_before z y) (comes_before y z) (put_counts x z ys)
  where
    by : (first second : Bool) → before_count x ys ≤ before_count x (put z ys)
        → before_count x (y ∷ ys)
        ≤ before_count x (if first then z ∷ y ∷ ys else if second then y ∷ put z ys else y ∷ ys)
    by true second h = omega arith
    by false true h = omega (arith, h)
    by false false h = omega arith

all_counts : (x : Near) (xs ys : List Near) → before_count x xs ≤ before_count x (put_all xs ys)
unfolding put_all
all_counts x xs [] = omega arith
all_counts x xs (y ∷ ys) = omega (arith, all_counts x xs ys, put_counts x y (put_all xs ys))

never_itself : (x : Near) → comes_before x x ≡ true → ⊥
never_itself x e = grind (arith, nat_tests, e)

-- what doesn't come before x has nothing behind it that does
still_behind : (x y z : Near) → comes_before y z ≡ true → comes_before y x ≡ false → comes_before z x ≡ false
still_behind x y z e f = grind (arith, nat_tests, e, f)

none_before : (x y : Near) (ys : List Near) → is_rising (y ∷ ys) ≡ true → comes_before y x ≡ false
    → before_count x (y ∷ ys) ≡ 0
unfolding precedes
none_before x y [] rises e = ap (λ b. (if b then 1 else 0) + 0) e
none_before x y (z ∷ zs) rises e =
    let rest : before_count x (z ∷ zs) ≡ 0 =
    none_before x z zs (rising_tail y (z ∷ zs) rises) (still_behind x y z (rising_head y (z ∷ zs) rises) e) in
    let none : before_count x (y ∷ z ∷ zs) ≡ 0 + before_count x (z ∷ zs) =
    ap (λ b. (if b then 1 else 0) + before_count x (z ∷ zs)) e in
    omega (arith, none, rest)

-- where so many come before x, the first ones do
first_before : (k : ℕ) (x z : Near) (xs : List Near) → is_rising xs ≡ true → k ≤ before_count x xs
    → StandsIn z (take k xs) → comes_before z x ≡ true
unfolding StandsIn
first_before zero x z xs rises le there = absurd there
first_before (suc k) x z [] rises le there = absurd (omega (arith, le))
first_before (suc k) x z (y ∷ ys) rises le there =
    by (comes_before y x) refl there (λ more later. first_before k x z ys (rising_tail y ys rises) more later)
  where
    by : (b : Bool) → comes_before y x ≡ b → (z ≡ y) ⊎ StandsIn z (take k ys)
        → (k ≤ before_count x ys → StandsIn z (take k ys) → comes_before z x ≡ true) → comes_before z x ≡ true
    by true e (inl same) rest = subst (λ w. comes_before w x ≡ true) (sym same) e
    by true e (inr later) rest =
        let one : before_count x (y ∷ ys) ≡ 1 + before_count x ys =
        ap (λ b. (if b then 1 else 0) + before_count x ys) e in
        rest (omega (arith, le, one)) later
    by false e st rest = absurd (omega (arith, le, none_before x y ys rises e))

-- those that give nothing give nothing together
pub none_given : (k : ℕ) (whole list : List Near) → take k whole ≡ whole
    → ((y : Near) → StandsIn y list → GivesNothing k whole y) → take k (put_all whole list) ≡ whole
unfolding put_all StandsIn
none_given k whole [] few gives = few
none_given k whole (y ∷ ys) few gives =
    sym (take_put k y (put_all whole ys))
    ∙ ap (λ zs. take k (put y zs)) (none_given k whole ys few (λ z there. gives z (inr there)))
    ∙ gives y (inl refl)

-- what comes after the ranks of a place, all of which are taken, stands in none of the whole
pub none_behind : (k : ℕ) (whole list : List Near) (x : Near) → is_rising whole ≡ true → is_rising list ≡ true
    → k ≤ before_count x list → take k (put_all whole list) ≡ whole → StandsIn x whole → ⊥
none_behind k whole list x rises rises' le is there =
    let same : take k (put_all list whole) ≡ whole = lists_commute k list whole rises' rises ∙ is in
    never_itself x (first_before k x x (put_all list whole) (all_rise list whole rises')
    (omega (arith, le, all_counts x list whole)) (subst (StandsIn x) (sym same) there))

-- the first of a list comes before what stands behind it
head_before : (x y : Near) (ys : List Near) → is_rising (y ∷ ys) ≡ true → StandsIn x ys → comes_before y x ≡ true
unfolding StandsIn precedes
head_before x y [] rises there = absurd there
head_before x y (z ∷ zs) rises (inl same) =
    subst (λ w. comes_before y w ≡ true) (sym same) (rising_head y (z ∷ zs) rises)
head_before x y (z ∷ zs) rises (inr later) =
    let first : comes_before y z ≡ true = rising_head y (z ∷ zs) rises in
    let second : comes_before z x ≡ true = head_before x z zs (rising_tail y (z ∷ zs) rises) later in
    grind (arith, nat_tests, first, second)

put_by : (x y : Near) (ys : List Near) → comes_before y x ≡ true → put x (y ∷ ys) ≡ y ∷ put x ys
unfolding put
put_by x y ys e =
    let f : comes_before x y ≡ false = grind (arith, nat_tests, e) in
    ap (λ b. if b then x ∷ y ∷ ys else if comes_before y x then y ∷ put x ys else y ∷ ys) f
    ∙ ap (λ b. if b then y ∷ put x ys else y ∷ ys) e

put_itself : (y : Near) (ys : List Near) → put y (y ∷ ys) ≡ y ∷ ys
unfolding put
put_itself y ys =
    let e : comes_before y y ≡ false = grind (arith, nat_tests) in
    ap (λ b. if b then y ∷ y ∷ ys else if b then y ∷ put y ys else y ∷ ys) e

-- one that stands there is put in vain
pub put_there : (x : Near) (xs : List Near) → is_rising xs ≡ true → StandsIn x xs → put x xs ≡ xs
unfolding StandsIn
put_there x [] rises there = absurd there
put_there x (y ∷ ys) rises (inl same) = subst (λ w. put w (y ∷ ys) ≡ y ∷ ys) (sym same) (put_itself y ys)
put_there x (y ∷ ys) rises (inr later) =
    put_by x y ys (head_before x y ys rises later) ∙ ap (λ zs. y ∷ zs) (put_there x ys (rising_tail y ys rises) later)

all_there : (xs ys : List Near) → is_rising xs ≡ true → ((y : Near) → StandsIn y ys → StandsIn y xs)
    → put_all xs ys ≡ xs
unfolding put_all StandsIn
all_there xs [] rises there = refl
all_there xs (y ∷ ys) rises there =
    ap (put y) (all_there xs ys rises (λ z is. there z (inr is))) ∙ put_there y xs rises (there y (inl refl))

-- ranks that give the whole nothing, and have all of it, are the whole
pub same_ranks : (k : ℕ) (whole list : List Near) → is_rising whole ≡ true → is_rising list ≡ true
    → length list ≤ k → take k (put_all whole list) ≡ whole
    → ((x : Near) → StandsIn x whole → StandsIn x list) → list ≡ whole
same_ranks k whole list rises rises' few is there =
    sym (take_few k list few) ∙ ap (take k) (sym (all_there list whole rises' there))
    ∙ lists_commute k list whole rises' rises ∙ is
