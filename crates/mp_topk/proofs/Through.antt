-- A window that goes through slots place by place, each time leaving the nearer one there.
use Rattle.std.proofs.Common.{◌≡◌, ℕ, zero, suc, ◌+◌, ◌<◌, ◌≤◌, List, [], ◌∷◌, ◌++◌, length, get_or, take, drop, refl}
use Rattle.std.proofs.Common.{arith, ap, ◌∙◌, sym, subst, replicate, Bool, true, false}
use Rattle.std.specs.Prelude.{Option, Some, None, slice_get, slice_set, if◌then◌else◌}
use Rattle.std.proofs.lemmas.List.{length-take}
use Rattle.mp_nums.specs.declared.nearest.Near.{Near}
use Rattle.mp_nums.specs.Near.{comes_before, nearer_of}
use Rattle.mp_results.specs.Ranks.{put, put_if_there}
use Rattle.mp_topk.specs.Ranking.{AreRanked, is_rising, later_of, padded, put_all, those_in}
use Rattle.mp_topk.specs.RankLaws.{all_put, put_before, put_rises, rising_head, rising_tail, take_all, take_few}
use Rattle.mp_topk.specs.RankLaws.{take_rises}

unfoldable pub through : Option Near → List (Option Near) → List (Option Near)
through c [] = []
through c (y ∷ ys) = nearer_of y c ∷ through (later_of y c) ys

-- the first places, and behind them what becomes of the others
abbrev pub passed : ℕ → Option Near → List (Option Near) → List (Option Near)
passed place c slots = take place slots ++ through c (drop place slots)

one_place : (place : ℕ) (c : Option Near) (slots : List (Option Near)) → place < length slots
    → passed (suc place) (later_of (get_or slots place None) c)
    (slice_set slots place (nearer_of (get_or slots place None) c)) ≡ passed place c slots
unfolding through
one_place place c [] lt = absurd (omega (arith, lt))
one_place zero c (y ∷ ys) lt = refl
one_place (suc place) c (y ∷ ys) lt = ap (λ xs. y ∷ xs) (one_place place c ys (omega (arith, lt)))

-- the window passes one place
pub passes : (place : ℕ) (c nearer later : Option Near) (slots : List (Option Near))
    → nearer ≡ nearer_of (get_or slots place None) c → later ≡ later_of (get_or slots place None) c
    → place < length slots → passed (place + 1) later (slice_set slots place nearer) ≡ passed place c slots
passes place c nearer later slots e f lt =
    let one : suc place ≡ place + 1 = omega arith in
    ap (λ n. passed (place + 1) n (slice_set slots place nearer)) f
    ∙ ap (λ n. passed (place + 1) (later_of (get_or slots place None) c) (slice_set slots place n)) e
    ∙ subst (λ p. passed p (later_of (get_or slots place None) c)
    (slice_set slots place (nearer_of (get_or slots place None) c)) ≡ passed place c slots) one
    (one_place place c slots lt)

-- behind the last place there is nothing
pub all_passed : (place : ℕ) (c : Option Near) (slots : List (Option Near)) → length slots ≤ place
    → passed place c slots ≡ slots
unfolding through
all_passed zero c [] le = refl
all_passed zero c (y ∷ ys) le = absurd (omega (arith, le))
all_passed (suc place) c [] le = refl
all_passed (suc place) c (y ∷ ys) le = ap (λ xs. y ∷ xs) (all_passed place c ys (omega (arith, le)))

pub none_passes : (slots : List (Option Near)) → through None slots ≡ slots
unfolding through
none_passes [] = refl
none_passes (None ∷ slots) = ap (λ xs. None ∷ xs) (none_passes slots)
none_passes (Some y ∷ slots) = ap (λ xs. Some y ∷ xs) (none_passes slots)

take_none : (k : ℕ) → take {A = Near} k [] ≡ []
take_none zero = refl
take_none (suc k) = refl

-- where it comes before, goes on or is there already
through_by : (k : ℕ) (x y : Near) (ys : List Near) (first second : Bool)
    → through (Some y) (padded k ys) ≡ padded k (take k (y ∷ ys))
    → through (Some x) (padded k ys) ≡ padded k (take k (put x ys)) → take k ys ≡ ys
    → (if first then Some x else Some y)
    ∷ through (if first then Some y else if second then Some x else None) (padded k ys)
    ≡ padded (suc k) (take (suc k) (if first then x ∷ y ∷ ys else if second then y ∷ put x ys else y ∷ ys))
unfolding padded
through_by k x y ys true second f g h = ap (λ xs. Some x ∷ xs) f
through_by k x y ys false true f g h = ap (λ xs. Some y ∷ xs) g
through_by k x y ys false false f g h =
    ap (λ xs. Some y ∷ xs) (none_passes (padded k ys)) ∙ ap (λ xs. Some y ∷ padded k xs) (sym h)

pub through_ranks : (k : ℕ) (x : Near) (xs : List Near) → is_rising xs ≡ true → length xs ≤ k
    → through (Some x) (padded k xs) ≡ padded k (take k (put x xs))
unfolding through padded put
through_ranks zero x xs h few = refl
through_ranks (suc k) x [] h few = ap (λ xs. Some x ∷ xs)
    (none_passes (padded k []) ∙ ap (padded k) (sym (take_none k)))
through_ranks (suc k) x (y ∷ ys) h few =
    through_by k x y ys (comes_before x y) (comes_before y x)
    (through_ranks k y ys (rising_tail y ys h) (omega (arith, few))
    ∙ ap (λ xs. padded k (take k xs)) (put_before y ys (rising_head y ys h)))
    (through_ranks k x ys (rising_tail y ys h) (omega (arith, few)))
    (take_few k ys (omega (arith, few)))

pub those_padded : (k : ℕ) (xs : List Near) → length xs ≤ k → those_in (padded k xs) ≡ xs
unfolding those_in padded
those_padded zero [] few = refl
those_padded zero (x ∷ xs) few = absurd (omega (arith, few))
those_padded (suc k) [] few = those_padded k [] (omega arith)
those_padded (suc k) (x ∷ xs) few = ap (λ ys. x ∷ ys) (those_padded k xs (omega (arith, few)))

pub padded_ranked : (k : ℕ) (xs : List Near) → length xs ≤ k → is_rising xs ≡ true → AreRanked k (padded k xs)
padded_ranked k xs few rising = record {
  padded = ap (padded k) (sym (those_padded k xs few));
  few = subst (λ list. length list ≤ k) (sym (those_padded k xs few)) few;
  rising = ap is_rising (those_padded k xs few) ∙ rising;
}

-- what stands in the slots of a place behind the last one
pub is_put : (place k : ℕ) (x : Near) (c : Option Near) (old slots : List (Option Near)) → AreRanked k old
    → length slots ≤ place → passed place c slots ≡ through (Some x) old
    → slots ≡ padded k (take k (put x (those_in old)))
is_put place k x c old slots ranked le e = sym (all_passed place c slots le) ∙ e
    ∙ ap (through (Some x)) ranked.padded ∙ through_ranks k x (those_in old) ranked.rising ranked.few

few_put : (k : ℕ) (x : Near) (xs : List Near) → length (take k (put x xs)) ≤ k
few_put k x xs = omega (arith, length-take k (put x xs))

pub those_put : (k : ℕ) (x : Near) (old slots : List (Option Near)) → slots ≡ padded k (take k (put x (those_in old)))
    → those_in slots ≡ take k (put x (those_in old))
those_put k x old slots e =
    ap those_in e ∙ those_padded k (take k (put x (those_in old))) (few_put k x (those_in old))

pub ranked_put : (k : ℕ) (x : Near) (old slots : List (Option Near)) → AreRanked k old
    → slots ≡ padded k (take k (put x (those_in old))) → AreRanked k slots
ranked_put k x old slots ranked e = subst (AreRanked k) (sym e)
    (padded_ranked k (take k (put x (those_in old))) (few_put k x (those_in old))
    (take_rises k (put x (those_in old)) (put_rises x (those_in old) ranked.rising)))

pub padded_long : (k : ℕ) (xs : List Near) → length (padded k xs) ≡ k
unfolding padded
padded_long zero xs = refl
padded_long (suc k) [] = omega (arith, padded_long k [])
padded_long (suc k) (x ∷ xs) = omega (arith, padded_long k xs)

pub ranked_long : (k : ℕ) (slots : List (Option Near)) → AreRanked k slots → length slots ≡ k
ranked_long k slots ranked = ap length ranked.padded ∙ padded_long k (those_in slots)

-- ---- what stands at a rank

padded_at : (k rank : ℕ) (xs : List Near) → rank < k → get_or (padded k xs) rank None ≡ slice_get xs rank
unfolding padded
padded_at zero rank xs lt = absurd (omega (arith, lt))
padded_at (suc k) zero [] lt = refl
padded_at (suc k) (suc rank) [] lt = padded_at k rank [] (omega (arith, lt))
padded_at (suc k) zero (x ∷ xs) lt = refl
padded_at (suc k) (suc rank) (x ∷ xs) lt = padded_at k rank xs (omega (arith, lt))

none_past : (rank : ℕ) (xs : List Near) → length xs ≤ rank → None ≡ slice_get xs rank
none_past rank [] le = refl
none_past zero (x ∷ xs) le = absurd (omega (arith, le))
none_past (suc rank) (x ∷ xs) le = none_past rank xs (omega (arith, le))

pub rank_at : (k rank : ℕ) (slots : List (Option Near)) → AreRanked k slots → rank < k
    → get_or slots rank None ≡ slice_get (those_in slots) rank
rank_at k rank slots ranked lt =
    ap (λ xs. get_or xs rank None) ranked.padded ∙ padded_at k rank (those_in slots) lt

pub rank_past : (k rank : ℕ) (slots : List (Option Near)) → AreRanked k slots → k ≤ rank
    → None ≡ slice_get (those_in slots) rank
rank_past k rank slots ranked le = none_past rank (those_in slots) (omega (arith, ranked.few, le))

-- ---- the windows from a slot on

one_from_some : (place : ℕ) (slots : List (Option Near)) (x : Near) → place < length slots
    → get_or slots place None ≡ Some x → those_in (drop place slots) ≡ x ∷ those_in (drop (suc place) slots)
unfolding those_in
one_from_some place [] x lt e = absurd (omega (arith, lt))
one_from_some zero (y ∷ ys) x lt e = ap (λ slot. those_in (slot ∷ ys)) e
one_from_some (suc place) (y ∷ ys) x lt e = one_from_some place ys x (omega (arith, lt)) e

one_from_none : (place : ℕ) (slots : List (Option Near)) → place < length slots
    → get_or slots place None ≡ None → those_in (drop place slots) ≡ those_in (drop (suc place) slots)
unfolding those_in
one_from_none place [] lt e = absurd (omega (arith, lt))
one_from_none zero (y ∷ ys) lt e = ap (λ slot. those_in (slot ∷ ys)) e
one_from_none (suc place) (y ∷ ys) lt e = one_from_none place ys (omega (arith, lt)) e

pub those_from_some : (place : ℕ) (slots : List (Option Near)) (x : Near) → place < length slots
    → get_or slots place None ≡ Some x → those_in (drop place slots) ≡ x ∷ those_in (drop (place + 1) slots)
those_from_some place slots x lt e =
    let one : suc place ≡ place + 1 = omega arith in
    subst (λ p. those_in (drop place slots) ≡ x ∷ those_in (drop p slots)) one (one_from_some place slots x lt e)

pub those_from_none : (place : ℕ) (slots : List (Option Near)) → place < length slots
    → get_or slots place None ≡ None → those_in (drop place slots) ≡ those_in (drop (place + 1) slots)
those_from_none place slots lt e =
    let one : suc place ≡ place + 1 = omega arith in
    subst (λ p. those_in (drop place slots) ≡ those_in (drop p slots)) one (one_from_none place slots lt e)

pub those_from_end : (place : ℕ) (slots : List (Option Near)) → length slots ≤ place → those_in (drop place slots) ≡ []
unfolding those_in
those_from_end zero [] le = refl
those_from_end zero (y ∷ ys) le = absurd (omega (arith, le))
those_from_end (suc place) [] le = refl
those_from_end (suc place) (y ∷ ys) le = those_from_end place ys (omega (arith, le))

-- these windows, and those of the others from one on
abbrev pub with_others : ℕ → List Near → List Near → List Near
with_others k list others = take k (put_all list others)

one_slot : (k place : ℕ) (slot : Option Near) (list : List Near) (others : List (Option Near)) → place < length others
    → get_or others place None ≡ slot
    → with_others k (take k (put_if_there slot list)) (those_in (drop (place + 1) others))
    ≡ with_others k list (those_in (drop place others))
unfolding put_all
one_slot k place (Some x) list others lt e = take_all k (put x list) (those_in (drop (place + 1) others))
    ∙ ap (take k) (all_put x list (those_in (drop (place + 1) others)))
    ∙ ap (λ xs. take k (put_all list xs)) (sym (those_from_some place others x lt e))
one_slot k place None list others lt e = take_all k list (those_in (drop (place + 1) others))
    ∙ ap (λ xs. take k (put_all list xs)) (sym (those_from_none place others lt e))

pub one_more : (k place : ℕ) (old new : List Near) (others : List (Option Near)) → place < length others
    → new ≡ take k (put_if_there (get_or others place None) old)
    → with_others k new (those_in (drop (place + 1) others)) ≡ with_others k old (those_in (drop place others))
one_more k place old new others lt e = ap (λ xs. with_others k xs (those_in (drop (place + 1) others))) e
    ∙ one_slot k place (get_or others place None) old others lt refl

pub all_are_put : (k place : ℕ) (slots : List (Option Near)) (others : List (Option Near)) → AreRanked k slots
    → length others ≤ place → those_in slots ≡ with_others k (those_in slots) (those_in (drop place others))
unfolding put_all
all_are_put k place slots others ranked le = sym (take_few k (those_in slots) ranked.few)
    ∙ ap (λ xs. take k (put_all (those_in slots) xs)) (sym (those_from_end place others le))

pub padded_none : (k : ℕ) → padded k [] ≡ replicate k None
unfolding padded
padded_none zero = refl
padded_none (suc k) = ap (λ xs. None ∷ xs) (padded_none k)
