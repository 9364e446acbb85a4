-- The lists of some places.
use Rattle.std.proofs.Common.{◌≡◌, ℕ, zero, suc, ◌+◌, ◌<◌, ◌≤◌, List, [], ◌∷◌, length, get_or, map, take, refl, ap, ◌∙◌}
use Rattle.std.proofs.Common.{sym}
use Rattle.std.proofs.Common.{arith, below_more, replicate, subst}
use Rattle.std.specs.Prelude.{All, Option, None, slice_set}
use Rattle.std.proofs.lemmas.List.{ext_get_or, get_or-map, get_or-set_other, get_or-set_same, length-map, length-set}
use Rattle.std.proofs.lemmas.List.{length-replicate}
use Rattle.std.proofs.lemmas.List.{map-set}
use Rattle.std.proofs.lemmas.List.Elements.{All-cons, All-head, All-nil, All-replicate, All-set, All-tail}
use Rattle.std.proofs.lemmas.Simd.{get_or-zip2, length-zip2}
use Rattle.mp_nums.specs.declared.nearest.Near.{Near}
use Rattle.mp_results.specs.Ranks.{put}
use Rattle.mp_topk.specs.Ranking.{AreRanked, AreRanks, HasRanks, is_rising, merged_lists, merged_ranks, no_ranks}
use Rattle.mp_topk.specs.Ranking.{put_all}
use Rattle.mp_topk.specs.Ranking.{put_at, slots_of, those_in}
use Rattle.mp_topk.specs.RankLaws.{are_ranks, those_in_slots}
use Rattle.mp_topk.proofs.Through.{padded_none, padded_ranked, those_padded}

pub place_list : (i : ℕ) (places : List (List (Option Near))) → i < length places
    → those_in (get_or places i []) ≡ get_or (map those_in places) i []
place_list i places lt = sym (get_or-map those_in places i [] [] lt)

pub is_put_at : (k i : ℕ) (x : Near) (places : List (List (Option Near))) (slots : List (Option Near))
    → i < length places → those_in slots ≡ take k (put x (those_in (get_or places i [])))
    → map those_in (slice_set places i slots) ≡ put_at k (map those_in places) i x
is_put_at k i x places slots lt f = map-set those_in places i slots
    ∙ ap (λ list. slice_set (map those_in places) i list)
    (f ∙ ap (λ list. take k (put x list)) (place_list i places lt))

-- the places before one have the windows of both, and the others what they had
pub record AreMerged (k : ℕ) (old others : List (List (Option Near))) (i : ℕ) (new : List (List (Option Near)))
    : Type 0 where
  pub places : length new ≡ length old
  pub merged : (j : ℕ) → j < i → those_in (get_or new j [])
      ≡ take k (put_all (those_in (get_or old j [])) (those_in (get_or others j [])))
  pub left : (j : ℕ) → i ≤ j → get_or new j [] ≡ get_or old j []
  pub ranked : All (AreRanked k) new

pub merge_goes_on : (k i : ℕ) (old others new : List (List (Option Near))) (slots : List (Option Near))
    → AreMerged k old others i new → i < length old → AreRanked k slots
    → those_in slots ≡ take k (put_all (those_in (get_or new i [])) (those_in (get_or others i [])))
    → AreMerged k old others (i + 1) (slice_set new i slots)
merge_goes_on k i old others new slots h lt ranked those = record {
  places = length-set new i slots ∙ h.places;
  merged = λ j. below_more (λ j. those_in (get_or (slice_set new i slots) j [])
      ≡ take k (put_all (those_in (get_or old j [])) (those_in (get_or others j [])))) i
      (λ j less. ap those_in (get_or-set_other new i j slots [] (λ same. omega (arith, same, less))) ∙ h.merged j less)
      (ap those_in (get_or-set_same new i slots [] (omega (arith, h.places, lt))) ∙ those
      ∙ ap (λ xs. take k (put_all (those_in xs) (those_in (get_or others i [])))) (h.left i (omega arith))) j;
  left = λ j le. get_or-set_other new i j slots [] (λ same. omega (arith, same, le)) ∙ h.left j (omega (arith, le));
  ranked = All-set (AreRanked k) new i slots ranked h.ranked;
}

pub merge_begins : (k : ℕ) (old others : List (List (Option Near))) → All (AreRanked k) old
    → AreMerged k old others 0 old
merge_begins k old others ranked = record {
  places = refl;
  merged = λ j lt. absurd (omega (arith, lt));
  left = λ j le. refl;
  ranked = ranked;
}

pub merge_ends : (k i : ℕ) (old others new : List (List (Option Near))) → AreMerged k old others i new
    → length others ≡ length old → length old ≤ i
    → map those_in new ≡ merged_lists k (map those_in old) (map those_in others)
merge_ends k i old others new h same le =
    ext_get_or [] (map those_in new) (merged_lists k (map those_in old) (map those_in others)) long
    (λ j within. get_or-map those_in new j [] [] (inside j within)
    ∙ h.merged j (omega (arith, inside j within, le, h.places))
    ∙ ap (λ xs. take k (put_all xs (those_in (get_or others j []))))
    (sym (get_or-map those_in old j [] [] (omega (arith, inside j within, h.places))))
    ∙ ap (λ xs. take k (put_all (get_or (map those_in old) j []) xs))
    (sym (get_or-map those_in others j [] [] (omega (arith, inside j within, h.places, same))))
    ∙ sym (get_or-zip2 (λ xs ys. take k (put_all xs ys)) (map those_in old) (map those_in others) j [] [] []
    (omega (arith, inside j within, h.places, length-map old those_in))
    (omega (arith, inside j within, h.places, same, length-map others those_in))))
  where
    both_long : length (map those_in old) ≡ length (map those_in others)
    both_long = omega (arith, length-map old those_in, length-map others those_in, same)

    long : length (map those_in new) ≡ length (merged_lists k (map those_in old) (map those_in others))
    long = length-map new those_in ∙ h.places ∙ sym (length-map old those_in)
        ∙ sym (length-zip2 (λ xs ys. take k (put_all xs ys)) (map those_in old) (map those_in others) both_long)

    inside : (j : ℕ) → j < length (map those_in new) → j < length new
    inside j within = omega (arith, within, length-map new those_in)

-- ---- places as values

pub are_values : (k : ℕ) (places : List (List (Option Near))) → All (AreRanked k) places
    → HasRanks k (length (map those_in places)) (map slots_of (map those_in places))
are_values k places ranked = record {
  places = length-map (map those_in places) slots_of;
  ranks = each places ranked;
}
  where
    each : (xs : List (List (Option Near))) → All (AreRanked k) xs → All (AreRanks k) (map slots_of (map those_in xs))
    each [] h = All-nil (AreRanks k)
    each (x ∷ xs) h =
        let here = All-head (AreRanked k) x xs h in
        All-cons (AreRanks k) (slots_of (those_in x)) (map slots_of (map those_in xs))
        (are_ranks k (those_in x) here.few here.rising) (each xs (All-tail (AreRanked k) x xs h))

pub merged_values : (k : ℕ) (a b : List (List Near))
    → map slots_of (merged_lists k a b) ≡ merged_ranks k (map slots_of a) (map slots_of b)
merged_values k [] [] = refl
merged_values k [] (y ∷ ys) = refl
merged_values k (x ∷ xs) [] = refl
merged_values k (x ∷ xs) (y ∷ ys) = cc (those_in_slots x, those_in_slots y, merged_values k xs ys)

pub no_values : (size : ℕ) → map slots_of (replicate size []) ≡ no_ranks size
no_values zero = refl
no_values (suc size) = ap (λ xs. [] ∷ xs) (no_values size)

pub none_ranked : (k : ℕ) → AreRanked k (replicate k None)
unfolding is_rising
none_ranked k = subst (AreRanked k) (padded_none k) (padded_ranked k [] (omega arith) refl)

pub none_listed : (k n : ℕ) → map those_in (replicate n (replicate k None)) ≡ replicate n []
none_listed k zero = refl
none_listed k (suc n) = cc (
  ap those_in (sym (padded_none k)) ∙ those_padded k [] (omega arith),
  none_listed k n,
)

pub all_none_ranked : (k n : ℕ) (places : List (List (Option Near))) → places ≡ replicate n (replicate k None)
    → All (AreRanked k) places
all_none_ranked k n places e =
    subst (All (AreRanked k)) (sym e) (All-replicate (AreRanked k) n (replicate k None) (none_ranked k))

pub none_value : (k n : ℕ) (places : List (List (Option Near))) → places ≡ replicate n (replicate k None)
    → map slots_of (map those_in places) ≡ no_ranks n
none_value k n places e = ap (λ xs. map slots_of (map those_in xs)) e ∙ ap (map slots_of) (none_listed k n)
    ∙ no_values n

pub are_values_of : (k : ℕ) (places : List (List (Option Near))) (lists : List (List Near)) (n : ℕ)
    → lists ≡ map those_in places → n ≡ length places → All (AreRanked k) places → HasRanks k n (map slots_of lists)
are_values_of k places lists n e long ranked =
    subst (λ xs. HasRanks k n (map slots_of xs)) (sym e)
    (subst (λ m. HasRanks k m (map slots_of (map those_in places))) (length-map places those_in ∙ sym long)
    (are_values k places ranked))

pub none_has : (k n : ℕ) (places : List (List (Option Near))) → places ≡ replicate n (replicate k None)
    → HasRanks k n (map slots_of (map those_in places))
none_has k n places e = are_values_of k places (map those_in places) n refl
    (sym (ap length e ∙ length-replicate n (replicate k None))) (all_none_ranked k n places e)

pub none_value_of : (k : ℕ) (old new : List (List (Option Near))) (lists : List (List Near)) → lists ≡ map those_in old
    → new ≡ replicate (length old) (replicate k None)
    → map slots_of (map those_in new) ≡ no_ranks (length lists)
none_value_of k old new lists e f =
    none_value k (length old) new f ∙ ap no_ranks (sym (ap length e ∙ length-map old those_in))

pub merged_of : (k : ℕ) (new a b : List (List (Option Near))) (xs ys : List (List Near)) → xs ≡ map those_in a
    → ys ≡ map those_in b → map those_in new ≡ merged_lists k (map those_in a) (map those_in b)
    → map slots_of (map those_in new) ≡ merged_ranks k (map slots_of xs) (map slots_of ys)
merged_of k new a b xs ys e f h = ap (map slots_of) (h ∙ ap (λ zs. merged_lists k zs (map those_in b)) (sym e)
    ∙ ap (merged_lists k xs) (sym f)) ∙ merged_values k xs ys

pub merged_long : (k : ℕ) (new a b : List (List (Option Near))) (xs ys : List (List Near)) → xs ≡ map those_in a
    → ys ≡ map those_in b → map those_in new ≡ merged_lists k (map those_in a) (map those_in b)
    → length ys ≡ length xs → length (map those_in new) ≡ length xs
merged_long k new a b xs ys e f h same = ap length (h ∙ ap (λ zs. merged_lists k zs (map those_in b)) (sym e)
    ∙ ap (merged_lists k xs) (sym f)) ∙ length-zip2 (λ zs ws. take k (put_all zs ws)) xs ys (sym same)
