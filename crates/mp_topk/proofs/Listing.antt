-- Windows that are appended slot by slot.
use Rattle.std.proofs.Common.{◌≡◌, ℕ, ◌+◌, ◌<◌, ◌≤◌, List, [], ◌∷◌, ◌++◌, length, get_or, drop, map, refl, sym, take}
use Rattle.std.proofs.Common.{ap, ◌∙◌}
use Rattle.std.proofs.lemmas.List.{append_assoc, append-nil, map-append, take-append-drop}
use Rattle.std.specs.Prelude.{Option, Some, None}
use Rattle.mp_nums.specs.declared.nearest.Near.{Near}
use Rattle.mp_nums.specs.Listed.{Listed}
use Rattle.mp_defs.specs.Series.{Series}
use Rattle.mp_partial.specs.Values.{Value}
use Rattle.mp_results.specs.Ranks.{ranks_of}
use Rattle.mp_topk.specs.Ranking.{lists_in, slots_of, those_in}
use Rattle.mp_topk.specs.RankLaws.{those_in_slots}
use Rattle.mp_topk.proofs.Through.{those_from_end, those_from_none, those_from_some}

pub one_window : (slot : Option Near) (x : Near) → slot ≡ Some x → those_in (slot ∷ []) ≡ x ∷ []
unfolding those_in
one_window slot x e = ap (λ s. those_in (s ∷ [])) e

pub no_window : (slot : Option Near) (list : List Near) → slot ≡ None → list ≡ list ++ those_in (slot ∷ [])
unfolding those_in
no_window slot list e = sym (append-nil list) ∙ ap (λ s. list ++ those_in (s ∷ [])) (sym e)

slot_first : (place : ℕ) (slot : Option Near) (slots : List (Option Near)) → place < length slots
    → get_or slots place None ≡ slot
    → those_in (slot ∷ []) ++ those_in (drop (place + 1) slots) ≡ those_in (drop place slots)
unfolding those_in
slot_first place None slots lt e = sym (those_from_none place slots lt e)
slot_first place (Some x) slots lt e = sym (those_from_some place slots x lt e)

-- one slot more
pub goes_on : (place : ℕ) (old new all : List Near) (slots : List (Option Near)) → place < length slots
    → new ≡ old ++ those_in (get_or slots place None ∷ []) → old ++ those_in (drop place slots) ≡ all
    → new ++ those_in (drop (place + 1) slots) ≡ all
goes_on place old new all slots lt e h = ap (λ xs. xs ++ those_in (drop (place + 1) slots)) e
    ∙ append_assoc old (those_in (get_or slots place None ∷ [])) (those_in (drop (place + 1) slots))
    ∙ ap (λ xs. old ++ xs) (slot_first place (get_or slots place None) slots lt refl) ∙ h

pub ends : (place : ℕ) (list all : List Near) (slots : List (Option Near)) → length slots ≤ place
    → list ++ those_in (drop place slots) ≡ all → list ≡ all
ends place list all slots le h = sym (append-nil list)
    ∙ ap (λ xs. list ++ xs) (sym (those_from_end place slots le)) ∙ h

-- the lists of the first places and those of the others behind them
pub listed_together : (n : ℕ) (places low high : List (List (Option Near))) (lists others all : List (Listed Near))
    → low ≡ take n places → high ≡ drop n places → lists_in lists ≡ map those_in low
    → lists_in others ≡ map those_in high → all ≡ lists ++ others → lists_in all ≡ map those_in places
listed_together n places low high lists others all d e f g h = ap lists_in h
    ∙ map-append (λ (l : Listed Near). l.items) lists others
    ∙ ap (λ xs. xs ++ lists_in others) (f ∙ ap (map those_in) d)
    ∙ ap (λ xs. map those_in (take n places) ++ xs) (g ∙ ap (map those_in) e)
    ∙ sym (map-append those_in (take n places) (drop n places)) ∙ ap (map those_in) (take-append-drop n places)

-- lists that give the same slots are the same
pub same_lists : (xs ys : List (List Near)) → map slots_of xs ≡ map slots_of ys → xs ≡ ys
same_lists xs ys e = sym (back xs) ∙ ap (map those_in) e ∙ back ys
  where
    back : (xs : List (List Near)) → map those_in (map slots_of xs) ≡ xs
    back [] = refl
    back (x ∷ xs) = cc (those_in_slots x, back xs)

-- and those of so many ranks are the ranks of the windows
pub are_ranks_of : (k n m : ℕ) (a : Series) (lists : List (List Near)) (together : Value) → k ≡ n
    → map slots_of lists ≡ together → together ≡ map slots_of (ranks_of n m a) → lists ≡ ranks_of k m a
are_ranks_of k n m a lists together same e f =
    same_lists lists (ranks_of n m a) (e ∙ f) ∙ ap (λ (r : ℕ). ranks_of r m a) (sym same)
