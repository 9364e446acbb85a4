-- What pairs of windows give ranks that are told of at once.
use Rattle.std.proofs.Common.{◌≡◌, ℕ, zero, suc, ◌+◌, ◌-◌, ◌*◌, ◌<◌, ◌≤◌, ◌⊎◌, List, [], ◌∷◌, ◌++◌, Bool, true, false}
use Rattle.std.proofs.Common.{length, get_or}
use Rattle.std.proofs.Common.{inl, inr, refl, sym, ap, subst, ◌∙◌, arith}
use Rattle.std.specs.Prelude.{Option, Some, None, All, take, map, if◌then◌else◌}
use Rattle.std.specs.List.{range_with_len}
use Rattle.std.specs.Simd.Lanes.{zip2}
use Rattle.std.proofs.lemmas.Bool.Decides.{nat_tests}
use Rattle.std.proofs.lemmas.List.Elements.{All-head, All-tail}
use Rattle.std.proofs.lemmas.List.FromFn.{get_or-map-range_with_len, get_or-range_with_len, length-range_with_len}
use Rattle.std.proofs.lemmas.Bool.{or_cases}
use Rattle.mp_nums.specs.declared.nearest.Near.{Near}
use Rattle.mp_defs.specs.Series.{series_of}
use Rattle.mp_defs.specs.SeriesLaws.{series_are_of_samples}
use Rattle.mp_defs.specs.Window.{excl, is_allowed}
use Rattle.mp_defs.specs.Distance.{distance}
use Rattle.mp_defs.specs.DistanceLaws.{symmetric}
use Rattle.mp_defs.specs.Least.{at_distance, candidate, near_at}
use Rattle.mp_defs.specs.Profile.{windows_of}
use Rattle.mp_partial.specs.Values.{Value, merged_over}
use Rattle.mp_cuts.specs.Pairs.{has_pair, no_tile}
use Rattle.mp_tiles.specs.Among.{either_way}
use Rattle.mp_tiles.specs.Pieces.{OwnTiling, own_size}
use Rattle.mp_results.specs.Ranks.{in_order, ranks}
use Rattle.mp_topk.specs.declared.words.WordsView.{WordsView}
use Rattle.mp_topk.specs.Laws.{StandsIn}
use Rattle.mp_topk.specs.OrderLaws.{candidates_in_order, stood_before}
use Rattle.mp_topk.specs.Ranking.{merged_ranks, merged_slots, no_ranks, put_all, slots_of, those_in}
use Rattle.mp_topk.specs.RankLaws.{take_put, those_in_slots}
use Rattle.mp_topk.specs.Sharing.{GivesNone, RankSeries, count_of, series_in, whole_of}
use Rattle.mp_topk.specs.Taking.{chosen, lists_among, ranks_among}
use Rattle.mp_topk.specs.TakingLaws.{order_rises}
use Rattle.mp_topk.specs.Tiling.{rank_value, ranks_together, ranks_whole}
use Rattle.mp_topk.specs.Words.{AreRanksTold, Facts, IsIn, IsKnownOf, IsPieceKnown, IsToldOf, RankTellerState}
use Rattle.mp_topk.specs.Words.{SeenBelow, both_views}
use Rattle.mp_topk.proofs.Standing.{put_there}

-- ---- one pair

pub allowed_behind : (m i j : ℕ) → i + (excl m + 1) ≤ j → is_allowed m i j ≡ true
allowed_behind m i j le = grind (arith, nat_tests)

pub allowed_before : (m i j : ℕ) → i + (excl m + 1) ≤ j → is_allowed m j i ≡ true
allowed_before m i j le = grind (arith, nat_tests)

allowed_back : (m i j : ℕ) → is_allowed m i j ≡ true → is_allowed m j i ≡ true
allowed_back m i j e = grind (arith, nat_tests)

windows_are : (s : RankSeries) → windows_of s.m (series_of s.samples) ≡ count_of s
windows_are s = series_are_of_samples.windows_are s.m s.samples

whole_at : (k : ℕ) (s : RankSeries) (place : ℕ) → place < count_of s
    → get_or (whole_of k s) place [] ≡ ranks k s.m (series_of s.samples) place
whole_at k s place lt =
    get_or-map-range_with_len (ranks k s.m (series_of s.samples)) 0 (windows_of s.m (series_of s.samples)) place
    place []
    (omega (arith, lt, windows_are s)) (omega arith)

-- a candidate gives the first k of all nothing
candidate_gives : (k : ℕ) (c : ℕ → Option Near) (n j : ℕ) (x : Near) → j < n → c j ≡ Some x
    → GivesNone k (take k (in_order c n)) (Some x)
candidate_gives k c n j x lt e =
    let stands : StandsIn x (in_order c n) =
    ((candidates_in_order c n).candidates x).1 (record { place = j; below = lt; chosen = e }) in
    take_put k x (in_order c n) ∙ ap (take k) (put_there x (in_order c n) (order_rises c n) stands)

pub pair_gives : (k : ℕ) (s : RankSeries) (i j d : ℕ) → is_allowed s.m i j ≡ true → i < count_of s → j < count_of s
    → distance s.m (series_of s.samples) i (series_of s.samples) j ≡ Some d
    → GivesNone k (get_or (whole_of k s) i []) (Some (near_at j d))
pair_gives k s i j d may lt lt' is =
    let a = series_of s.samples in
    subst (λ list. GivesNone k list (Some (near_at j d))) (sym (whole_at k s i lt))
    (candidate_gives k (candidate (is_allowed s.m i) (λ n. distance s.m a i a n)) (windows_of s.m a) j (near_at j d)
    (omega (arith, lt', windows_are s))
    (ap (λ t. if t then at_distance j (distance s.m a i a j) else None) may ∙ ap (at_distance j) is))

-- ---- which pairs stand in ranks

stands_in_take : (k : ℕ) (x : Near) (xs : List Near) → StandsIn x (take k xs) → StandsIn x xs
unfolding StandsIn
stands_in_take zero x xs there = absurd there
stands_in_take (suc k) x [] there = there
stands_in_take (suc k) x (y ∷ ys) (inl same) = inl same
stands_in_take (suc k) x (y ∷ ys) (inr later) = inr (stands_in_take k x ys later)

stands_in_all : (x : Near) (xs ys : List Near) → StandsIn x (put_all xs ys) → StandsIn x xs ⊎ StandsIn x ys
unfolding put_all StandsIn
stands_in_all x xs [] there = inl there
stands_in_all x xs (y ∷ ys) there = elim (stood_before y x (put_all xs ys) there) [
  | inl same ↦ inr (inl same)
  | inr before ↦ elim (stands_in_all x xs ys before) [
    | inl first ↦ inl first
    | inr second ↦ inr (inr second)
  ]
]

-- a candidate is of an allowed window that has a distance
pub record IsPairOf (t : Bool) (f : Option ℕ) (j : ℕ) (x : Near) : Type 0 where
  pub may : t ≡ true
  pub d : ℕ
  pub is : f ≡ Some d
  pub near : x ≡ near_at j d

from_candidate : (t : Bool) (f : Option ℕ) (j : ℕ) (x : Near) → (if t then at_distance j f else None) ≡ Some x
    → IsPairOf t f j x
from_candidate false f j x e = absurd (cc (e))
from_candidate true None j x e = absurd (cc (e))
from_candidate true (Some d) j x e = record { may = refl; d = d; is = refl; near = cc }

-- ---- pieces

-- what stands at a place of a value
abbrev StandsAt : Value → ℕ → Near → Type 0
StandsAt value p x = StandsIn x (those_in (get_or value p []))

merged_stands : (k : ℕ) (xs ys : Value) (p : ℕ) (x : Near) → StandsAt (zip2 (merged_slots k) xs ys) p x
    → StandsAt xs p x ⊎ StandsAt ys p x
unfolding StandsIn those_in
merged_stands k [] ys p x there = absurd there
merged_stands k (a ∷ us) [] p x there = absurd there
merged_stands k (a ∷ us) (b ∷ bs) zero x there =
    stands_in_all x (those_in a) (those_in b) (stands_in_take k x (put_all (those_in a) (those_in b))
    (subst (StandsIn x) (those_in_slots (take k (put_all (those_in a) (those_in b)))) there))
merged_stands k (a ∷ us) (b ∷ bs) (suc p) x there = merged_stands k us bs p x there

none_stands : (size p : ℕ) (x : Near) → StandsAt (no_ranks size) p x → ⊥
unfolding StandsIn those_in
none_stands zero p x there = there
none_stands (suc size) zero x there = there
none_stands (suc size) (suc p) x there = none_stands size p x there

from_pieces : (k : ℕ) (own : OwnTiling) (p : ℕ) (x : Near) (Found : Type 0) (P : ℕ → Type 0) (ks : List ℕ)
    → All P ks → ((n : ℕ) → P n → StandsAt (rank_value k own n) p x → Found)
    → StandsAt (merged_over (merged_ranks k) (no_ranks (own_size own)) (rank_value k own) ks) p x → Found
from_pieces k own p x Found P [] all h there = absurd (none_stands (own_size own) p x there)
from_pieces k own p x Found P (n ∷ ns) all h there =
    elim (merged_stands k (rank_value k own n)
    (merged_over (merged_ranks k) (no_ranks (own_size own)) (rank_value k own) ns) p x there) [
      | inl here ↦ h n (All-head P n ns all) here
      | inr later ↦ from_pieces k own p x Found P ns (All-tail P n ns all) h later
    ]

slots_at : (lists : List (List Near)) (p : ℕ) → those_in (get_or (map slots_of lists) p []) ≡ get_or lists p []
unfolding those_in
slots_at [] p = refl
slots_at (x ∷ xs) zero = those_in_slots x
slots_at (x ∷ xs) (suc p) = slots_at xs p

-- what stands at a place of a piece's value is of one of its pairs
from_piece : (k : ℕ) (own : OwnTiling) (n p : ℕ) (x : Near) → p < own_size own → StandsAt (rank_value k own n) p x
    → (j : ℕ) × (j < own_size own)
    × IsPairOf (either_way (has_pair 0 (get_or own.tiles n no_tile)) p j)
    (distance own.m (series_of own.samples) p (series_of own.samples) j) j x
from_piece k own n p x lt there =
    let a = series_of own.samples in
    let may = either_way (has_pair 0 (get_or own.tiles n no_tile)) in
    let w = windows_of own.m a in
    let count : w ≡ own_size own = series_are_of_samples.windows_are own.m own.samples in
    let at : get_or (lists_among k may own.m a) p [] ≡ ranks_among k may own.m a p =
    get_or-map-range_with_len (ranks_among k may own.m a) 0 w p p [] (omega (arith, lt, count)) (omega arith) in
    let stands : StandsIn x (in_order (chosen may own.m a p) w) =
    stands_in_take k x (in_order (chosen may own.m a p) w)
    (subst (StandsIn x) (slots_at (lists_among k may own.m a) p ∙ at) there) in
    let is = ((candidates_in_order (chosen may own.m a p) w).candidates x).0 stands in (
      is.place,
      omega (arith, is.below, count),
      from_candidate (may p is.place) (distance own.m a p a is.place) is.place x is.chosen,
    )

-- what stands in the ranks of a place is of an allowed window
from_whole : (k : ℕ) (s : RankSeries) (p : ℕ) (x : Near) → p < count_of s → StandsIn x (get_or (whole_of k s) p [])
    → (j : ℕ) × (j < count_of s)
    × IsPairOf (is_allowed s.m p j) (distance s.m (series_of s.samples) p (series_of s.samples) j) j x
from_whole k s p x lt there =
    let a = series_of s.samples in
    let w = windows_of s.m a in
    let c = candidate (is_allowed s.m p) (λ n. distance s.m a p a n) in
    let stands : StandsIn x (in_order c w) =
    stands_in_take k x (in_order c w) (subst (StandsIn x) (whole_at k s p lt) there) in
    let is = ((candidates_in_order c w).candidates x).0 stands in (
      is.place,
      omega (arith, is.below, windows_are s),
      from_candidate (is_allowed s.m p is.place) (distance s.m a p a is.place) is.place x is.chosen,
    )

same_index : (x : Near) (i j d e : ℕ) → x ≡ near_at i d → x ≡ near_at j e → i ≡ j
same_index x i j d e a b = ap (λ (n : Near). n.index) (sym a ∙ b)

-- where the pairs of all pieces are known, all ranks are told of
pub all_told : (k : ℕ) (own : OwnTiling) (view : WordsView) → ranks_together k own ≡ ranks_whole k own
    → ((piece : ℕ) → piece < length own.tiles → IsPieceKnown k own view piece) → (place : ℕ) → place < own_size own
    → (x : Near) → StandsIn x (get_or (whole_of k (series_in own)) place []) → IsToldOf k view place x
all_told k own view together each place lt x there =
    let s = series_in own in
    let pieces = range_with_len 0 (length own.tiles) in
    let all : All (IsPieceKnown k own view) pieces =
    λ n d below. (let less : n < length own.tiles = omega (arith, below, length-range_with_len 0 (length own.tiles)) in
    let same : get_or pieces n d ≡ n = omega (arith, get_or-range_with_len 0 (length own.tiles) n d less) in
    subst (IsPieceKnown k own view) (sym same) (each n less)) in
    let stands : StandsAt (ranks_together k own) place x =
    subst (λ v. StandsAt v place x) (sym together) (subst (StandsIn x) (sym (slots_at (whole_of k s) place)) there) in
    from_pieces k own place x (IsToldOf k view place x) (IsPieceKnown k own view) pieces all
    (λ n known here. by n known (from_piece k own n place x lt here) (from_whole k s place x lt there)) stands
  where
    settle : (j d : ℕ) → x ≡ near_at j d → IsKnownOf k (series_in own) view place j d → IsToldOf k view place x
    settle j d same (inl told) = subst (IsToldOf k view place) (sym same) told
    settle j d same (inr out) =
        absurd (out (subst (λ z. StandsIn z (get_or (whole_of k (series_in own)) place [])) same there))

    by : (n : ℕ) → IsPieceKnown k own view n
        → ((j : ℕ) × (j < own_size own)
        × IsPairOf (either_way (has_pair 0 (get_or own.tiles n no_tile)) place j)
        (distance own.m (series_of own.samples) place (series_of own.samples) j) j x)
        → ((j : ℕ) × (j < own_size own)
        × IsPairOf (is_allowed own.m place j)
        (distance own.m (series_of own.samples) place (series_of own.samples) j) j x)
        → IsToldOf k view place x
    by n known (j, below, pair) (i, _, allowed) =
        let a = series_of own.samples in
        let same : i ≡ j = same_index x i j allowed.d pair.d allowed.near pair.near in
        let may : is_allowed own.m place j ≡ true =
        subst (λ t. is_allowed own.m place t ≡ true) same allowed.may in
        settle j pair.d pair.near (elim (or_cases (has_pair 0 (get_or own.tiles n no_tile) place j)
        (has_pair 0 (get_or own.tiles n no_tile) j place) pair.may) [
          | inl first ↦ known.row place j pair.d lt below first may pair.is
          | inr second ↦ known.column j place pair.d below lt second (allowed_back own.m place j may)
              (symmetric own.m a j a place ∙ pair.is)
        ])

-- ---- what holds know of pieces

pub piece_more : (k : ℕ) (own : OwnTiling) (old new : WordsView) (piece : ℕ)
    → ((place : ℕ) (near : Near) → IsToldOf k old place near → IsToldOf k new place near)
    → IsPieceKnown k own old piece → IsPieceKnown k own new piece
piece_more k own old new piece h known = record {
  row = λ i j d lt lt' e may is. more i j d (known.row i j d lt lt' e may is);
  column = λ i j d lt lt' e may is. more j i d (known.column i j d lt lt' e may is);
}
  where
    more : (place j d : ℕ) → IsKnownOf k (series_in own) old place j d → IsKnownOf k (series_in own) new place j d
    more place j d (inl told) = inl (h place (near_at j d) told)
    more place j d (inr out) = inr out

in_first : (xs ys : Facts) (place word : ℕ) → IsIn xs place word → IsIn (xs ++ ys) place word
in_first [] ys place word is = absurd is
in_first (x ∷ xs) ys place word (inl here) = inl here
in_first (x ∷ xs) ys place word (inr later) = inr (in_first xs ys place word later)

in_second : (xs ys : Facts) (place word : ℕ) → IsIn ys place word → IsIn (xs ++ ys) place word
in_second [] ys place word is = is
in_second (x ∷ xs) ys place word is = inr (in_second xs ys place word is)

seen_first : (xs ys : Facts) (at word : ℕ) → SeenBelow xs at word → SeenBelow (xs ++ ys) at word
seen_first [] ys at word is = absurd is
seen_first (x ∷ xs) ys at word (inl here) = inl here
seen_first (x ∷ xs) ys at word (inr later) = inr (seen_first xs ys at word later)

seen_second : (xs ys : Facts) (at word : ℕ) → SeenBelow ys at word → SeenBelow (xs ++ ys) at word
seen_second [] ys at word is = is
seen_second (x ∷ xs) ys at word is = inr (seen_second xs ys at word is)

pub told_first : (k : ℕ) (view other : WordsView) (place : ℕ) (near : Near) → IsToldOf k view place near
    → IsToldOf k (both_views view other) place near
told_first k view other place near (word, real, slot, inl is) =
    (word, real, slot, inl (in_first view.told other.told place word is))
told_first k view other place near (word, real, slot, inr is) =
    (word, real, slot, inr (seen_first view.seen other.seen (place * k + (k - 1)) word is))

pub told_second : (k : ℕ) (view other : WordsView) (place : ℕ) (near : Near) → IsToldOf k other place near
    → IsToldOf k (both_views view other) place near
told_second k view other place near (word, real, slot, inl is) =
    (word, real, slot, inl (in_second view.told other.told place word is))
told_second k view other place near (word, real, slot, inr is) =
    (word, real, slot, inr (seen_second view.seen other.seen (place * k + (k - 1)) word is))

-- the pairs of a piece that were offered
pub piece_known : (k : ℕ) (own : OwnTiling) (old new : RankTellerState) (piece : ℕ)
    → old.words.series ≡ series_in own
    → AreRanksTold k own.m (series_of own.samples) (series_of own.samples)
    (has_pair 0 (get_or own.tiles piece no_tile)) old new → IsPieceKnown k own new.view piece
piece_known k own old new piece e s =
    let count : windows_of own.m (series_of own.samples) ≡ own_size own =
    series_are_of_samples.windows_are own.m own.samples in
    record {
      row = λ i j d lt lt' on may is. subst (λ (t : RankSeries). IsKnownOf k t new.view i j d) e
          (s.row i j d (omega (arith, lt, count)) (omega (arith, lt', count)) on may is);
      column = λ i j d lt lt' on may is. subst (λ (t : RankSeries). IsKnownOf k t new.view j i d) e
          (s.column i j d (omega (arith, lt, count)) (omega (arith, lt', count)) on may is);
    }
