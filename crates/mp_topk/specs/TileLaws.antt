-- Why tiles make the ranks of windows.
use Rattle.std.proofs.Common.{◌≡◌, ℕ, zero, suc, ◌<◌, List, [], ◌∷◌, length, get_or, Bool, false, refl}
use Rattle.std.proofs.Common.{sym, ap, ◌∙◌, arith, replicate, take}
use Rattle.std.specs.Prelude.{◌||◌, if◌then◌else◌, map, All, None}
use Rattle.std.specs.List.{range_with_len}
use Rattle.std.proofs.lemmas.List.{length-map, length-take}
use Rattle.std.proofs.lemmas.List.Elements.{All-cons, All-nil}
use Rattle.std.proofs.lemmas.List.FromFn.{length-map-range_with_len, get_or-map-range_with_len}
use Rattle.std.proofs.lemmas.List.{ext_get_or}
use Rattle.mp_nums.specs.declared.nearest.Near.{Near}
use Rattle.mp_nums.specs.declared.samples.Sample.{Sample}
use Rattle.mp_defs.specs.Series.{Series, series_of}
use Rattle.mp_defs.specs.SeriesLaws.{series_are_of_samples}
use Rattle.mp_defs.specs.Window.{excl, is_allowed, windows}
use Rattle.mp_defs.specs.Distance.{distance}
use Rattle.mp_defs.specs.Least.{at_distance}
use Rattle.mp_defs.specs.Profile.{windows_of}
use Rattle.mp_partial.specs.Values.{merged_over}
use Rattle.mp_cuts.specs.declared.cuts.Tile.{Tile}
use Rattle.mp_cuts.specs.Pairs.{has_pair, no_tile}
use Rattle.mp_cuts.specs.Cutting.{own_tiles}
use Rattle.mp_tiles.specs.Among.{either_way}
use Rattle.mp_tiles.specs.PairLaws.{apart_both, apart_never, are_apart, either_may, either_more, some_has}
use Rattle.mp_tiles.specs.PairLaws.{own_tiles_hold_each_once, tiles_by_number}
use Rattle.mp_results.specs.Ranks.{in_order, ranks_of}
use Rattle.mp_topk.specs.Ranking.{AreRanks, HasRanks, merged_ranks, no_ranks, put_all, slots_of, those_in}
use Rattle.mp_topk.specs.RankLaws.{are_ranks, take_rises, those_in_slots}
use Rattle.mp_topk.specs.Taking.{chosen, lists_among, ranks_among}
use Rattle.mp_topk.specs.TakingLaws.{first_both, order_rises}
use Rattle.mp_topk.specs.ScanLaws.{either_is, order_none, order_same}
use Rattle.mp_topk.specs.Tiling.{TilesMakeTheRanks, among_value, tiles_value}

-- ---- the lists of some windows

ranks_same : (k : ℕ) (p q : ℕ → ℕ → Bool) (m : ℕ) (a : Series) (i : ℕ)
    → ((j : ℕ) → j < windows_of m a → p i j ≡ q i j) → ranks_among k p m a i ≡ ranks_among k q m a i
ranks_same k p q m a i same = ap (take k) (order_same (chosen p m a i) (chosen q m a i) (windows_of m a)
    (λ j lt. ap (λ t. if t then at_distance j (distance m a i a j) else None) (same j lt)))

pub as_long : (k : ℕ) (may : ℕ → ℕ → Bool) (m : ℕ) (a : Series)
    → length (lists_among k may m a) ≡ windows_of m a
as_long k may m a = length-map-range_with_len (ranks_among k may m a) 0 (windows_of m a)

pub at_window : (k : ℕ) (may : ℕ → ℕ → Bool) (m : ℕ) (a : Series) (i : ℕ) → i < windows_of m a
    → get_or (lists_among k may m a) i [] ≡ ranks_among k may m a i
at_window k may m a i lt =
    get_or-map-range_with_len (ranks_among k may m a) 0 (windows_of m a) i i [] lt (omega arith)

pub lists_same : (k : ℕ) (p q : ℕ → ℕ → Bool) (m : ℕ) (a : Series)
    → ((i j : ℕ) → i < windows_of m a → j < windows_of m a → p i j ≡ q i j)
    → lists_among k p m a ≡ lists_among k q m a
lists_same k p q m a same =
    ext_get_or [] (lists_among k p m a) (lists_among k q m a) (as_long k p m a ∙ sym (as_long k q m a))
    (λ i lt. let within : i < windows_of m a = omega (arith, lt, as_long k p m a) in
    at_window k p m a i within ∙ ranks_same k p q m a i (λ j less. same i j within less)
    ∙ sym (at_window k q m a i within))

nothing_taken : (k : ℕ) → take {A = Near} k [] ≡ []
nothing_taken zero = refl
nothing_taken (suc k) = refl

all_alike : (f : ℕ → List Near) (xs : List ℕ) → ((i : ℕ) → f i ≡ [])
    → map f xs ≡ replicate (length xs) []
all_alike f [] h = refl
all_alike f (x ∷ xs) h = cc (h x, all_alike f xs h)

none_listed : (f : ℕ → List Near) (n : ℕ) → ((i : ℕ) → f i ≡ [])
    → map f (range_with_len 0 n) ≡ replicate n []
none_listed f n h = all_alike f (range_with_len 0 n) h
    ∙ ap (λ l. replicate l []) (sym (length-map (range_with_len 0 n) f) ∙ length-map-range_with_len f 0 n)

no_slots : (n : ℕ) → map slots_of (replicate n []) ≡ no_ranks n
no_slots zero = refl
no_slots (suc n) = ap (λ xs. [] ∷ xs) (no_slots n)

pub value_none : (k : ℕ) (may : ℕ → ℕ → Bool) (m : ℕ) (a : Series) → ((i j : ℕ) → may i j ≡ false)
    → among_value k may m a ≡ no_ranks (windows_of m a)
value_none k may m a none = ap (map slots_of) (none_listed (ranks_among k may m a) (windows_of m a)
    (λ i. ap (take k) (order_none (chosen may m a i) (windows_of m a)
    (λ j lt. ap (λ t. if t then at_distance j (distance m a i a j) else None) (none i j))) ∙ nothing_taken k))
    ∙ no_slots (windows_of m a)

-- of both kinds, place by place
both_listed : (k : ℕ) (f g h : ℕ → List Near) (xs : List ℕ)
    → ((i : ℕ) → take k (put_all (f i) (g i)) ≡ h i)
    → merged_ranks k (map slots_of (map f xs)) (map slots_of (map g xs)) ≡ map slots_of (map h xs)
both_listed k f g h [] e = refl
both_listed k f g h (x ∷ xs) e = cc (
  ap (λ ys. slots_of (take k (put_all ys (those_in (slots_of (g x)))))) (those_in_slots (f x))
      ∙ ap (λ ys. slots_of (take k (put_all (f x) ys))) (those_in_slots (g x)) ∙ ap slots_of (e x),
  both_listed k f g h xs e,
)

value_either : (k : ℕ) (p q : ℕ → ℕ → Bool) (m : ℕ) (a : Series)
    → merged_ranks k (among_value k p m a) (among_value k q m a) ≡ among_value k (λ i j. p i j || q i j) m a
value_either k p q m a = both_listed k (ranks_among k p m a) (ranks_among k q m a)
    (ranks_among k (λ i j. p i j || q i j) m a) (range_with_len 0 (windows_of m a))
    (λ i. first_both k (chosen p m a i) (chosen q m a i) (chosen (λ i j. p i j || q i j) m a i) (windows_of m a)
    (either_is p q m a i (windows_of m a)))

pub value_has_ranks : (k : ℕ) (may : ℕ → ℕ → Bool) (m : ℕ) (samples : List Sample)
    → HasRanks k (windows (length samples) m) (among_value k may m (series_of samples))
value_has_ranks k may m samples = record {
  places = length-map (lists_among k may m (series_of samples)) slots_of ∙ as_long k may m (series_of samples)
      ∙ series_are_of_samples.windows_are m samples;
  ranks = each (range_with_len 0 (windows_of m (series_of samples)));
}
  where
    one : (i : ℕ) → AreRanks k (slots_of (ranks_among k may m (series_of samples) i))
    one i =
        let list = in_order (chosen may m (series_of samples) i) (windows_of m (series_of samples)) in
        are_ranks k (take k list) (omega (arith, length-take k list))
        (take_rises k list (order_rises (chosen may m (series_of samples) i) (windows_of m (series_of samples))))

    each : (xs : List ℕ) → All (AreRanks k) (map slots_of (map (ranks_among k may m (series_of samples)) xs))
    each [] = All-nil (AreRanks k)
    each (x ∷ xs) = All-cons (AreRanks k) (slots_of (ranks_among k may m (series_of samples) x))
        (map slots_of (map (ranks_among k may m (series_of samples)) xs)) (one x) (each xs)

-- ---- the pairs of some tiles

-- the values of some tiles together are that of their pairs
tiles_together : (tile : ℕ → Tile) (k m : ℕ) (a : Series) (ns : List ℕ)
    → merged_over (merged_ranks k) (no_ranks (windows_of m a))
    (λ n. among_value k (either_way (has_pair 0 (tile n))) m a) ns
    ≡ among_value k (either_way (some_has 0 (map tile ns))) m a
tiles_together tile k m a [] = sym (value_none k (either_way (some_has 0 [])) m a (λ i j. refl))
tiles_together tile k m a (n ∷ ns) =
    let here = either_way (has_pair 0 (tile n)) in
    let there = either_way (some_has 0 (map tile ns)) in
    ap (merged_ranks k (among_value k here m a)) (tiles_together tile k m a ns)
    ∙ value_either k here there m a
    ∙ ap (map slots_of) (lists_same k (λ i j. here i j || there i j)
    (either_way (some_has 0 (map tile (n ∷ ns)))) m a
    (λ i j _ _. either_more (tile n) (map tile ns) i j))

pub among_tiles : (k m : ℕ) (a : Series) (tiles : List Tile)
    → tiles_value k m a tiles ≡ among_value k (either_way (some_has 0 tiles)) m a
among_tiles k m a tiles =
    tiles_together (λ n. get_or tiles n no_tile) k m a (range_with_len 0 (length tiles))
    ∙ ap (λ ts. among_value k (either_way (some_has 0 ts)) m a) (tiles_by_number tiles)

-- some pairs and others that together may be compared make the ranks
pub among_and_others : (k : ℕ) (pairs others : ℕ → ℕ → Bool) (m : ℕ) (a : Series)
    → ((i j : ℕ) → i < windows_of m a → j < windows_of m a
    → (either_way pairs i j || others i j) ≡ is_allowed m i j)
    → merged_ranks k (among_value k (either_way pairs) m a) (among_value k others m a)
    ≡ map slots_of (ranks_of k m a)
among_and_others k pairs others m a may =
    value_either k (either_way pairs) others m a
    ∙ ap (map slots_of) (lists_same k (λ i j. either_way pairs i j || others i j) (is_allowed m) m a may)

-- ---- the cut outside the exclusion zone

-- the cut of the windows that start further apart than a zone has their ranks
pub tiles_apart : (k m width zone : ℕ) (a : Series) → 0 < width
    → tiles_value k m a (own_tiles (windows_of m a) zone width) ≡ among_value k (are_apart zone) m a
tiles_apart k m width zone a pos =
    let tiles = own_tiles (windows_of m a) zone width in
    among_tiles k m a tiles
    ∙ ap (map slots_of) (lists_same k (either_way (some_has 0 tiles)) (are_apart zone) m a
    (either_may (are_apart zone) (apart_never zone) (apart_both zone) (windows_of m a) tiles
    (own_tiles_hold_each_once zone (windows_of m a) width pos)))

pub make_the_ranks : TilesMakeTheRanks
make_the_ranks k m width a pos = tiles_apart k m width (excl m) a pos
