-- Ranks that are merged slot by slot.
use Rattle.std.proofs.Common.{◌≡◌, ℕ, zero, suc, ◌<◌, List, [], ◌∷◌, get_or, take, refl, ap, sym, subst, ◌∙◌}
use Rattle.std.proofs.Common.{arith, Bool, true, false}
use Rattle.std.specs.Prelude.{Option, Some, None, slice_get, if◌then◌else◌}
use Rattle.std.proofs.lemmas.Bool.Decides.{nat_tests}
use Rattle.mp_nums.specs.declared.nearest.Near.{Near}
use Rattle.mp_nums.specs.Near.{comes_before}
use Rattle.mp_results.specs.Ranks.{put, put_if_there}
use Rattle.mp_tiles.specs.Compact.{slot_before}
use Rattle.mp_topk.specs.Ranking.{AreRanked, is_rising, precedes, put_all, those_in}
use Rattle.mp_topk.specs.RankLaws.{put_in_order, rising_head, rising_tail, take_few}
use Rattle.mp_topk.specs.TakingLaws.{same_window}
use Rattle.mp_topk.proofs.Through.{rank_at}

-- two slots of which neither comes before the other
pub same_slots : (a b : Option Near) → slot_before a b ≡ false → slot_before b a ≡ false → a ≡ b
same_slots None None e f = refl
same_slots None (Some y) e f = absurd (cc)
same_slots (Some x) None e f = absurd (cc)
same_slots (Some x) (Some y) e f = ap Some (same_window x y e f)

-- ---- no window

-- a slot that doesn't come before none
pub no_window : (slot : Option Near) → slot_before slot None ≡ false → slot ≡ None
no_window None e = refl
no_window (Some x) e = absurd (cc)

none_listed : (xs : List Near) → slice_get xs 0 ≡ None → xs ≡ []
none_listed [] e = refl
none_listed (x ∷ xs) e = absurd (cc)

-- where the first slot doesn't come before none, there is no window
pub none_at_all : (k : ℕ) (slots : List (Option Near)) (first other : Option Near) → (k ≡ 0 → ⊥) → AreRanked k slots
    → get_or slots 0 None ≡ first → other ≡ None → slot_before first other ≡ false → those_in slots ≡ []
none_at_all zero slots first other some ranked e f behind = absurd (some refl)
none_at_all (suc k) slots first other some ranked e f behind = none_listed (those_in slots)
    (sym (rank_at (suc k) 0 slots ranked (omega arith)) ∙ e
    ∙ no_window first (subst (λ slot. slot_before first slot ≡ false) f behind))

-- others are what they are with no window
pub others_alone : (k : ℕ) (slots others : List (Option Near)) → those_in slots ≡ [] → AreRanked k others
    → those_in others ≡ take k (put_all (those_in slots) (those_in others))
others_alone k slots others none ranked = sym (ap (λ xs. take k (put_all xs (those_in others))) none
    ∙ ap (take k) (put_in_order (those_in others) ranked.rising) ∙ take_few k (those_in others) ranked.few)

-- ---- a window that stands there already

not_before_itself : (x y : Near) → x ≡ y → comes_before x y ≡ false
not_before_itself x y e = grind (arith, nat_tests, e)

not_behind : (x y : Near) → comes_before y x ≡ true → comes_before x y ≡ false
not_behind x y e = grind (arith, nat_tests, e)

between : (x y z : Near) → comes_before x y ≡ true → comes_before y z ≡ true → comes_before x z ≡ true
between x y z e f = grind (arith, nat_tests, e, f)

same_some : (x y : Near) → Some x ≡ Some y → x ≡ y
same_some x y e = cc

not_both : (t : Bool) → t ≡ true → t ≡ false → ⊥
not_both t e f = cc

-- the first of a list comes before each of the others
before_others : (y x : Near) (ys : List Near) (p : ℕ) → is_rising (y ∷ ys) ≡ true → slice_get ys p ≡ Some x
    → comes_before y x ≡ true
unfolding precedes
before_others y x [] p h e = absurd (cc)
before_others y x (z ∷ zs) zero h e =
    subst (λ w. comes_before y w ≡ true) (same_some z x e) (rising_head y (z ∷ zs) h)
before_others y x (z ∷ zs) (suc p) h e =
    between y z x (rising_head y (z ∷ zs) h) (before_others z x zs p (rising_tail y (z ∷ zs) h) e)

by_tests : (x y : Near) (ys : List Near) (first second : Bool) → first ≡ false → (second ≡ true → put x ys ≡ ys)
    → (if first then x ∷ y ∷ ys else if second then y ∷ put x ys else y ∷ ys) ≡ y ∷ ys
by_tests x y ys true second e f = absurd (cc)
by_tests x y ys false true e f = ap (λ xs. y ∷ xs) (f refl)
by_tests x y ys false false e f = refl

there_already : (x : Near) (xs : List Near) (p : ℕ) → is_rising xs ≡ true → slice_get xs p ≡ Some x → put x xs ≡ xs
unfolding put
there_already x [] p h e = absurd (cc)
there_already x (y ∷ ys) zero h e =
    let same = same_some y x e in
    by_tests x y ys (comes_before x y) (comes_before y x) (not_before_itself x y (sym same))
    (λ t. absurd (not_both (comes_before y x) t (not_before_itself y x same)))
there_already x (y ∷ ys) (suc p) h e =
    by_tests x y ys (comes_before x y) (comes_before y x) (not_behind x y (before_others y x ys p h e))
    (λ t. there_already x ys p (rising_tail y ys h) e)

slot_there : (slot : Option Near) (xs : List Near) (p : ℕ) → is_rising xs ≡ true → slice_get xs p ≡ slot
    → put_if_there slot xs ≡ xs
slot_there None xs p h e = refl
slot_there (Some x) xs p h e = there_already x xs p h e

-- what stands in a slot gives the slots nothing more
pub nothing_more : (k place : ℕ) (slots : List (Option Near)) (found : Option Near) → AreRanked k slots → place < k
    → get_or slots place None ≡ found → those_in slots ≡ take k (put_if_there found (those_in slots))
nothing_more k place slots found ranked lt e = sym (ap (take k) (slot_there found (those_in slots) place ranked.rising
    (sym (rank_at k place slots ranked lt) ∙ e)) ∙ take_few k (those_in slots) ranked.few)
