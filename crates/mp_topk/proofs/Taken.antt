-- What a tile gives, as the value of a part.
use Rattle.std.proofs.Common.{◌≡◌, ℕ, zero, suc, ◌+◌, ◌<◌, ◌≤◌, List, [], ◌∷◌, length, get_or, map, take, refl, sym, ap}
use Rattle.std.proofs.Common.{◌∙◌, arith, subst, Bool, true}
use Rattle.std.specs.Prelude.{All}
use Rattle.std.proofs.lemmas.Bool.Decides.{nat_tests}
use Rattle.std.proofs.lemmas.List.{ext_get_or}
use Rattle.std.proofs.lemmas.List.Elements.{All-head, All-tail}
use Rattle.std.proofs.lemmas.Simd.{get_or-zip2, length-zip2}
use Rattle.mp_nums.specs.declared.nearest.Near.{Near}
use Rattle.mp_defs.specs.Series.{Series, series_of}
use Rattle.mp_defs.specs.Profile.{windows_of}
use Rattle.mp_cuts.specs.declared.cuts.Tile.{Tile}
use Rattle.mp_cuts.specs.Pairs.{has_pair, no_tile}
use Rattle.mp_scans.specs.Offering.{in_block}
use Rattle.mp_tiles.specs.Among.{either_way}
use Rattle.mp_tiles.specs.Pieces.{OwnTiling}
use Rattle.mp_results.specs.Ranks.{in_order}
use Rattle.mp_topk.specs.Ranking.{AreRanks, is_rising, merged_lists, merged_ranks, put_all, slots_of}
use Rattle.mp_topk.specs.RankLaws.{lists_commute, take_all, take_few, take_rises, those_in_slots}
use Rattle.mp_topk.specs.Taking.{chosen, lists_among}
use Rattle.mp_topk.specs.TakingLaws.{order_rises}
use Rattle.mp_topk.specs.ScanLaws.{AreFew, AreTaken}
use Rattle.mp_topk.specs.Tiling.{among_value, rank_value}
use Rattle.mp_topk.specs.TileLaws.{as_long, at_window}
use Rattle.mp_topk.proofs.Places.{merged_values}

nothing : (k : ℕ) → take {A = Near} k [] ≡ []
nothing zero = refl
nothing (suc k) = refl

pub are_few : (k : ℕ) (lists : List (List Near)) → All (AreRanks k) (map slots_of lists) → AreFew k lists
are_few k [] h i = nothing k
are_few k (x ∷ xs) h zero =
    take_few k x (subst (λ list. length list ≤ k) (those_in_slots x)
    (All-head (AreRanks k) (slots_of x) (map slots_of xs) h).few)
are_few k (x ∷ xs) h (suc i) = are_few k xs (All-tail (AreRanks k) (slots_of x) (map slots_of xs) h) i

rise : (k i : ℕ) (lists : List (List Near)) → All (AreRanks k) (map slots_of lists) → i < length lists
    → is_rising (get_or lists i []) ≡ true
rise k i [] h lt = absurd (omega (arith, lt))
rise k zero (x ∷ xs) h lt =
    ap is_rising (sym (those_in_slots x)) ∙ (All-head (AreRanks k) (slots_of x) (map slots_of xs) h).rising
rise k (suc i) (x ∷ xs) h lt = rise k i xs (All-tail (AreRanks k) (slots_of x) (map slots_of xs) h) (omega (arith, lt))

-- the first k of those that are put are enough
take_other : (k : ℕ) (xs ys : List Near) → is_rising xs ≡ true → is_rising ys ≡ true
    → take k (put_all xs ys) ≡ take k (put_all xs (take k ys))
take_other k xs ys g h = lists_commute k xs ys g h ∙ sym (take_all k ys xs)
    ∙ lists_commute k (take k ys) xs (take_rises k ys h) g

-- what the windows that may be chosen give each place
merged_at : (k : ℕ) (may : ℕ → ℕ → Bool) (m : ℕ) (a : Series) (old : List (List Near)) (i : ℕ)
    → length old ≡ windows_of m a → All (AreRanks k) (map slots_of old) → i < length old
    → get_or (merged_lists k old (lists_among k may m a)) i []
    ≡ take k (put_all (get_or old i []) (in_order (chosen may m a i) (windows_of m a)))
merged_at k may m a old i long ranks within =
    let order = in_order (chosen may m a i) (windows_of m a) in
    let both_long : length old ≡ length (lists_among k may m a) = long ∙ sym (as_long k may m a) in
    get_or-zip2 (λ xs ys. take k (put_all xs ys)) old (lists_among k may m a) i [] [] [] within
    (omega (arith, within, both_long))
    ∙ ap (λ ys. take k (put_all (get_or old i []) ys)) (at_window k may m a i (omega (arith, within, long)))
    ∙ sym (take_other k (get_or old i []) order (rise k i old ranks within)
    (order_rises (chosen may m a i) (windows_of m a)))

merged_long : (k : ℕ) (may : ℕ → ℕ → Bool) (m : ℕ) (a : Series) (old : List (List Near))
    → length old ≡ windows_of m a → length (merged_lists k old (lists_among k may m a)) ≡ length old
merged_long k may m a old long =
    length-zip2 (λ xs ys. take k (put_all xs ys)) old (lists_among k may m a) (long ∙ sym (as_long k may m a))

-- they are taken where all lists of them are merged
pub merged_taken : (k : ℕ) (may : ℕ → ℕ → Bool) (m : ℕ) (a : Series) (old : List (List Near))
    → length old ≡ windows_of m a → All (AreRanks k) (map slots_of old)
    → AreTaken k may m a old (merged_lists k old (lists_among k may m a))
merged_taken k may m a old long ranks = record {
  places = merged_long k may m a old long;
  at = λ i within. merged_at k may m a old i long ranks within;
}

-- and nowhere else
pub taken_value : (k : ℕ) (may : ℕ → ℕ → Bool) (m : ℕ) (a : Series) (old new : List (List Near))
    → length old ≡ windows_of m a → All (AreRanks k) (map slots_of old) → AreTaken k may m a old new
    → map slots_of new ≡ merged_ranks k (map slots_of old) (among_value k may m a)
taken_value k may m a old new long ranks h = ap (map slots_of) lists ∙ merged_values k old (lists_among k may m a)
  where
    lists : new ≡ merged_lists k old (lists_among k may m a)
    lists = ext_get_or [] new (merged_lists k old (lists_among k may m a))
        (h.places ∙ sym (merged_long k may m a old long))
        (λ i lt.
        let within : i < length old = omega (arith, lt, h.places) in
        h.at i within ∙ sym (merged_at k may m a old i long ranks within))

-- the tile's rows and diagonals
pub block_is : (tile : Tile) (i j : ℕ)
    → in_block tile.first (tile.last + 1) tile.first_row (tile.last_row + 1) i j ≡ has_pair 0 tile i j
block_is tile i j = grind (arith, nat_tests)

-- a piece of the kernel, by its tile
pub piece_taken : (k : ℕ) (own seen : OwnTiling) (n : ℕ) (tile : Tile) (old new : List (List Near)) → own ≡ seen
    → get_or own.tiles n no_tile ≡ tile
    → map slots_of new ≡ merged_ranks k (map slots_of old)
    (among_value k (either_way (has_pair 0 tile)) own.m (series_of own.samples))
    → map slots_of new ≡ merged_ranks k (map slots_of old) (rank_value k seen n)
piece_taken k own seen n tile old new same is taken = taken
    ∙ ap (λ t. merged_ranks k (map slots_of old)
    (among_value k (either_way (has_pair 0 t)) own.m (series_of own.samples)))
    (sym is)
    ∙ ap (λ o. merged_ranks k (map slots_of old) (rank_value k o n)) same
