-- Places of which none may have slots so far.
use Rattle.std.proofs.Common.{◌≡◌, ℕ, zero, suc, ◌-◌, ◌≤◌, inl, inr, List, [], ◌++◌, length, get_or, map, refl, sym, ap}
use Rattle.std.proofs.Common.{◌∙◌, arith, replicate, subst}
use Rattle.std.specs.Prelude.{All, Option, None}
use Rattle.std.proofs.lemmas.Bool.{cases_lt}
use Rattle.std.proofs.lemmas.List.{append-nil, get_or_append_left, get_or-append_right, get_or_past, length-append}
use Rattle.std.proofs.lemmas.List.{length-map, length-replicate, map-append}
use Rattle.std.proofs.lemmas.List.Elements.{All-append, All-replicate}
use Rattle.mp_nums.specs.declared.nearest.Near.{Near}
use Rattle.mp_topk.specs.Ranking.{AreRanked, HasRanks, merged_lists, merged_ranks, no_ranks, slots_of}
use Rattle.mp_topk.specs.Ranking.{those_in, whole}
use Rattle.mp_topk.specs.RankLaws.{ranks_merge}
use Rattle.mp_topk.proofs.Places.{are_values_of, merged_of, none_has, none_listed, none_ranked, none_value}

pub whole_long : (k size : ℕ) (places : List (List (Option Near))) → length places ≤ size
    → length (whole k size places) ≡ size
whole_long k size places le =
    let more = length-replicate (size - length places) (replicate {A = Option Near} k None) in
    omega (arith, le, more, length-append places (replicate (size - length places) (replicate k None)))

-- where all have slots they are the whole
pub whole_all : (k size : ℕ) (places : List (List (Option Near))) → length places ≡ size → whole k size places ≡ places
whole_all k size places e =
    let none : size - length places ≡ 0 = omega (arith, e) in
    ap (λ n. places ++ replicate n (replicate k None)) none ∙ append-nil places

pub whole_none : (k size : ℕ) (places : List (List (Option Near))) → places ≡ []
    → whole k size places ≡ replicate size (replicate k None)
whole_none k size places e =
    let all : size - 0 ≡ size = omega arith in
    ap (whole k size) e ∙ ap (λ n. replicate n (replicate k None)) all

pub whole_ranked : (k size : ℕ) (places : List (List (Option Near))) → All (AreRanked k) places
    → All (AreRanked k) (whole k size places)
whole_ranked k size places h = All-append (AreRanked k) places (replicate (size - length places) (replicate k None)) h
    (All-replicate (AreRanked k) (size - length places) (replicate k None) (none_ranked k))

empty : (n j : ℕ) → get_or (replicate {A = List Near} n []) j [] ≡ []
empty zero j = refl
empty (suc n) zero = refl
empty (suc n) (suc j) = empty n j

nothing : (k n j : ℕ) → get_or (map those_in (replicate n (replicate k None))) j [] ≡ []
nothing k n j = ap (λ xs. get_or xs j []) (none_listed k n) ∙ empty n j

-- what stands at a place, whether it has slots or not
pub same_there : (k size i : ℕ) (places : List (List (Option Near)))
    → get_or (map those_in (whole k size places)) i [] ≡ get_or (map those_in places) i []
same_there k size i places =
    let more = replicate (size - length places) (replicate k None) in
    ap (λ xs. get_or xs i []) (map-append those_in places more)
    ∙ elim (cases_lt i (length places)) [
      | inl lt ↦ get_or_append_left (map those_in places) (map those_in more) [] i
          (omega (arith, lt, length-map places those_in))
      | inr le ↦ get_or-append_right (map those_in places) (map those_in more) (length places) i []
          (length-map places those_in) le
          ∙ nothing k (size - length places) (i - length places)
          ∙ sym (get_or_past (map those_in places) i [] (omega (arith, le, length-map places those_in)))
    ]

-- ---- the lists of all places

-- where none has slots
pub listed_none : (k size : ℕ) (places : List (List (Option Near))) (lists : List (List Near))
    → lists ≡ map those_in (whole k size places) → places ≡ [] → replicate size [] ≡ lists
listed_none k size places lists e none =
    sym (e ∙ ap (map those_in) (whole_none k size places none) ∙ none_listed k size)

-- where all have slots
pub listed_all : (k size : ℕ) (places : List (List (Option Near))) (lists : List (List Near))
    → lists ≡ map those_in (whole k size places) → length places ≡ size → map those_in places ≡ lists
listed_all k size places lists e all = sym (e ∙ ap (map those_in) (whole_all k size places all))

-- ---- as values

pub no_value_in : (k size : ℕ) (places : List (List (Option Near))) → places ≡ []
    → HasRanks k (length (map those_in (whole k size places))) (map slots_of (map those_in (whole k size places)))
no_value_in k size places e = subst (λ n. HasRanks k n (map slots_of (map those_in (whole k size places))))
    (sym (length-map (whole k size places) those_in
    ∙ whole_long k size places (omega (arith, ap length e))))
    (none_has k size (whole k size places) (whole_none k size places e))

pub whole_values : (k size : ℕ) (places : List (List (Option Near))) (lists : List (List Near))
    → lists ≡ map those_in (whole k size places) → length places ≤ size → All (AreRanked k) places
    → HasRanks k size (map slots_of lists)
whole_values k size places lists e le ranked = are_values_of k (whole k size places) lists size e
    (sym (whole_long k size places le)) (whole_ranked k size places ranked)

pub whole_size : (k size : ℕ) (places : List (List (Option Near))) (lists : List (List Near))
    → lists ≡ map those_in (whole k size places) → length places ≤ size → length lists ≡ size
whole_size k size places lists e le =
    ap length e ∙ length-map (whole k size places) those_in ∙ whole_long k size places le

pub no_value : (k size : ℕ) (places : List (List (Option Near))) → places ≡ []
    → map slots_of (map those_in (whole k size places)) ≡ no_ranks size
no_value k size places e = none_value k size (whole k size places) (whole_none k size places e)

pub no_value_has : (k size : ℕ) (places : List (List (Option Near))) → places ≡ []
    → HasRanks k size (map slots_of (map those_in (whole k size places)))
no_value_has k size places e = none_has k size (whole k size places) (whole_none k size places e)

-- of others where nothing was found
pub merged_none : (k size' : ℕ) (others : List (List (Option Near))) (lists lists' : List (List Near)) (size : ℕ)
    → HasRanks k size (map slots_of lists) → length lists ≡ size → others ≡ []
    → lists' ≡ map those_in (whole k size' others) → length lists' ≡ length lists
    → map slots_of lists ≡ merged_ranks k (map slots_of lists) (map slots_of lists')
merged_none k size' others lists lists' size has long e f same =
    let alike : size' ≡ size =
    sym (whole_size k size' others lists' f (omega (arith, ap length e))) ∙ same ∙ long in
    sym (ap (λ xs. merged_ranks k (map slots_of lists) (map slots_of xs)) f
    ∙ ap (merged_ranks k (map slots_of lists)) (no_value k size' others e ∙ ap no_ranks alike)
    ∙ (ranks_merge k).unit_last size (map slots_of lists) has)

pub has_merged : (k size : ℕ) (lists : List (List Near)) → length lists ≡ size → HasRanks k size (map slots_of lists)
    → HasRanks k (length lists) (map slots_of lists)
has_merged k size lists long has = subst (λ n. HasRanks k n (map slots_of lists)) (sym long) has

-- of others that all have slots
pub merged_some : (k size : ℕ) (old new others : List (List (Option Near))) (lists lists' : List (List Near))
    → length new ≡ size → length others ≡ size → lists ≡ map those_in (whole k size old)
    → lists' ≡ map those_in (whole k size others)
    → map those_in new ≡ merged_lists k (map those_in (whole k size old)) (map those_in others)
    → map slots_of (map those_in (whole k size new)) ≡ merged_ranks k (map slots_of lists) (map slots_of lists')
merged_some k size old new others lists lists' all all' e f h =
    ap (λ p. map slots_of (map those_in p)) (whole_all k size new all)
    ∙ merged_of k new (whole k size old) others lists lists' e
    (f ∙ ap (map those_in) (whole_all k size others all')) h
