-- Why a window that comes after the last rank gives nothing.
use Rattle.std.specs.Prelude.{◌≡◌, ℕ, zero, suc, ◌-◌, ◌≤◌, Bool, true, false, if◌then◌else◌, List, [], ◌∷◌, length}
use Rattle.std.specs.Prelude.{take, Option, Some, None}
use Rattle.std.proofs.Common.{arith, refl, sym, ap, ◌∙◌, subst, get_or}
use Rattle.std.proofs.lemmas.Bool.Decides.{nat_tests}
use Rattle.mp_nums.specs.declared.nearest.Near.{Near}
use Rattle.mp_nums.specs.Near.{comes_before, nearer_of}
use Rattle.mp_defs.specs.Least.{near_at}
use Rattle.mp_scans.specs.Slots.{Covers}
use Rattle.mp_results.specs.Ranks.{put}
use Rattle.mp_topk.specs.Ranking.{AreRanked, is_rising, padded, precedes, those_in}
use Rattle.mp_topk.specs.RankLaws.{put_before, rising_head, rising_tail, take_few}
use Rattle.mp_topk.specs.TakingLaws.{GivesNothing}

not_itself : (x y : Near) → comes_before x y ≡ true → x ≡ y → ⊥
not_itself x y e g = grind (arith, nat_tests, e, g)

between : (x y z : Near) → comes_before x y ≡ true → comes_before y z ≡ true → comes_before x z ≡ true
between x y z e f = grind (arith, nat_tests, e, f)

same_some : (x y : Near) → Some x ≡ Some y → x ≡ y
same_some x y e = cc

same_first : (x z : Near) (xs zs : List Near) → x ∷ xs ≡ z ∷ zs → x ≡ z
same_first x z xs zs e = cc

none_covers : (slot : Option Near) (x : Near) → slot ≡ None → nearer_of slot (Some x) ≡ slot → ⊥
none_covers slot x e f = cc

covers_by : (x y : Near) (t : Bool) → comes_before x y ≡ t → (if t then Some x else Some y) ≡ Some y
    → comes_before x y ≡ false
covers_by x y true e f = absurd (not_itself x y e (same_some x y f))
covers_by x y false e f = e

some_covers : (x y : Near) → nearer_of (Some y) (Some x) ≡ Some y → comes_before x y ≡ false
some_covers x y e = covers_by x y (comes_before x y) refl e

nothing_there : (n k : ℕ) → get_or (padded k []) n None ≡ None
unfolding padded
nothing_there n zero = refl
nothing_there zero (suc k) = refl
nothing_there (suc n) (suc k) = nothing_there n k

one_left : (x y : Near) (first second : Bool) → first ≡ false
    → take (suc zero) (if first then x ∷ y ∷ [] else if second then y ∷ put x [] else y ∷ []) ≡ y ∷ []
one_left x y true second e = absurd (cc)
one_left x y false true e = refl
one_left x y false false e = refl

-- x comes before y, which comes before the others: then it would stand before these
not_before : (n : ℕ) (x y z : Near) (zs : List Near) → is_rising (y ∷ z ∷ zs) ≡ true
    → take (suc n) (put x (z ∷ zs)) ≡ z ∷ zs → comes_before x y ≡ true → ⊥
unfolding precedes
not_before n x y z zs h e f =
    let next : comes_before y z ≡ true = rising_head y (z ∷ zs) h in
    let before : comes_before x z ≡ true = between x y z f next in
    not_itself x z before (same_first x z (take n (z ∷ zs)) zs
    (ap (take (suc n)) (sym (put_before x (z ∷ zs) before)) ∙ e))

others_left : (n : ℕ) (x y : Near) (ys : List Near) (first second : Bool) → comes_before x y ≡ first
    → (comes_before x y ≡ true → ⊥) → take (suc n) (put x ys) ≡ ys → take (suc n) ys ≡ ys
    → take (suc (suc n)) (if first then x ∷ y ∷ ys else if second then y ∷ put x ys else y ∷ ys) ≡ y ∷ ys
others_left n x y ys true second e f g h = absurd (f e)
others_left n x y ys false true e f g h = ap (λ xs. y ∷ xs) g
others_left n x y ys false false e f g h = ap (λ xs. y ∷ xs) h

last_tells : (n : ℕ) (x : Near) (xs : List Near) → is_rising xs ≡ true → length xs ≤ suc n
    → nearer_of (get_or (padded (suc n) xs) n None) (Some x) ≡ get_or (padded (suc n) xs) n None
    → take (suc n) (put x xs) ≡ xs
unfolding put padded
last_tells n x [] h few c =
    absurd (none_covers (get_or (padded (suc n) []) n None) x (nothing_there n (suc n)) c)
last_tells zero x (y ∷ []) h few c =
    one_left x y (comes_before x y) (comes_before y x) (some_covers x y c)
last_tells zero x (y ∷ z ∷ zs) h few c = absurd (omega (arith, few))
last_tells (suc n) x (y ∷ []) h few c =
    absurd (none_covers (get_or (padded (suc n) []) n None) x (nothing_there n (suc n)) c)
last_tells (suc n) x (y ∷ z ∷ zs) h few c =
    let rest = last_tells n x (z ∷ zs) (rising_tail y (z ∷ zs) h) (omega (arith, few)) c in
    others_left n x y (z ∷ zs) (comes_before x y) (comes_before y x) refl (not_before n x y z zs h rest) rest
    (take_few (suc n) (z ∷ zs) (omega (arith, few)))

-- what gives the last of the slots nothing gives them all nothing
pub last_covers : (n j d : ℕ) (slots : List (Option Near)) → AreRanked (suc n) slots
    → Covers (get_or slots n None) j d → GivesNothing (suc n) (those_in slots) (near_at j d)
last_covers n j d slots ranked c = last_tells n (near_at j d) (those_in slots) ranked.rising ranked.few
    (ap (λ xs. nearer_of (get_or xs n None) (Some (near_at j d))) (sym ranked.padded) ∙ c
    ∙ ap (λ xs. get_or xs n None) ranked.padded)

-- of so many slots, as many as there are
pub last_covers_of : (k j d : ℕ) (slots : List (Option Near)) → (k ≡ 0 → ⊥) → AreRanked k slots
    → Covers (get_or slots (k - 1) None) j d → GivesNothing k (those_in slots) (near_at j d)
last_covers_of zero j d slots some ranked c = absurd (some refl)
last_covers_of (suc n) j d slots some ranked c =
    let here : suc n - 1 ≡ n = omega arith in
    last_covers n j d slots ranked (subst (λ p. Covers (get_or slots p None) j d) here c)
