-- What the words of ranks keep, and what a worker has that takes from them.
use Rattle.std.proofs.Common.{◌≡◌, ℕ, zero, suc, ◌+◌, ◌*◌, ◌/◌, ◌^◌, ◌<◌, ◌≤◌, inl, inr, min, List, [], ◌∷◌, length}
use Rattle.std.proofs.Common.{get_or}
use Rattle.std.proofs.Common.{refl, sym, ap, subst, ◌∙◌, arith, get_or-set_same, get_or-set_other}
use Rattle.std.specs.Prelude.{slice_index, slice_set, map, take, Option, Some, None, replicate}
use Rattle.std.specs.Prelude.{Bool, false, ◌&&◌, ◌||◌, nat_le}
use Rattle.std.proofs.lemmas.Bool.Decides.{nat_tests}
use Rattle.mp_nums.specs.declared.samples.Sample.{Sample}
use Rattle.mp_cuts.specs.declared.cuts.Tile.{Tile}
use Rattle.mp_cuts.specs.Pairs.{has_pair, no_tile, on_its_diagonals}
use Rattle.mp_tiles.specs.Among.{either_way}
use Rattle.mp_tiles.specs.Pieces.{OwnTiling, own_size}
use Rattle.mp_workers.specs.SharingLaws.{one_more_run, piece_within}
use Rattle.mp_topk.specs.Ranking.{no_ranks}
use Rattle.mp_topk.specs.Tiling.{among_value, rank_value, ranks_together, ranks_whole, tiles_value}
use Rattle.mp_partial.specs.Values.{merged_below}
use Rattle.mp_cuts.specs.Cutting.{own_tiles}
use Rattle.mp_tiles.specs.PairLaws.{some_has}
use Rattle.std.specs.Simd.Lanes.{zip2}
use Rattle.std.proofs.Math.ListN.{set, length-set}
use Rattle.std.proofs.Math.Nat.{mul-le-mul_right}
use Rattle.std.proofs.lemmas.Bool.{cases_eq, cases_lt}
use Rattle.std.proofs.lemmas.Nat.{div-mul-add}
use Rattle.std.proofs.lemmas.List.{get_or-replicate, length-replicate, map-set}
use Rattle.std.proofs.lemmas.List.FromFn.{length-map-range_with_len}
use Rattle.mp_nums.specs.declared.nearest.Near.{Near}
use Rattle.mp_defs.specs.Series.{series_of}
use Rattle.mp_defs.specs.Window.{excl, is_allowed, windows}
use Rattle.mp_defs.specs.Profile.{windows_of}
use Rattle.mp_defs.specs.SeriesLaws.{series_are_of_samples}
use Rattle.mp_results.specs.Ranks.{put, put_if_there, ranks}
use Rattle.mp_tiles.specs.Compact.{IsWordOf, slot_of_word}
use Rattle.mp_topk.specs.declared.entries.RanksView.{RanksView}
use Rattle.mp_topk.specs.Ranking.{AreRanked, HasRanks, merged_lists, merged_ranks, put_all, slots_of, those_in}
use Rattle.mp_series.specs.declared.limits.TheConstants.{MAX_SAMPLES}
use Rattle.mp_topk.specs.declared.ranks.TheConstants.{MAX_RANKS}
use Rattle.mp_topk.specs.RankLaws.{ranks_merge, those_in_slots}
use Rattle.mp_topk.specs.RankLaws.{all_put, take_again, take_all, take_few, take_put}
use Rattle.mp_topk.specs.TakingLaws.{gives_nothing_more}
use Rattle.mp_topk.specs.Sharing.{AreEntriesOf, Finds, GiveNone, GivesNone, HasMore, IsWithin, Lowers, RankSeries}
use Rattle.mp_topk.specs.Sharing.{count_of, no_word, put_slot_at, series_in, view_of, whole_of}
use Rattle.mp_topk.specs.TileLaws.{among_tiles, lists_same, make_the_ranks, value_has_ranks, value_none}
use Rattle.mp_topk.proofs.Merging.{nothing_more}
use Rattle.mp_topk.proofs.Places.{place_list}
use Rattle.mp_topk.proofs.Taken.{are_few}
use Rattle.atomic_table.specs.Table.{Me, Allows, Enters, step, keeps, opening}
use mathlib.Core.Option.{none}

-- ---- one place

-- the slots of a place once a slot was put among them
pub slot_there : (k i : ℕ) (found : Option Near) (places : List (List (Option Near))) (slots : List (Option Near))
    → i < length places → those_in slots ≡ take k (put_if_there found (those_in (get_or places i [])))
    → map those_in (slice_set places i slots) ≡ put_slot_at k (map those_in places) i found
slot_there k i found places slots lt f = map-set those_in places i slots
    ∙ ap (λ list. slice_set (map those_in places) i list)
    (f ∙ ap (λ list. take k (put_if_there found list)) (place_list i places lt))

-- no slot gives nothing to few windows
none_gives_none : (k : ℕ) (list : List Near) → length list ≤ k → GivesNone k list None
none_gives_none k list few = take_few k list few

pub word_gives_none : (k rank : ℕ) (slots : List (Option Near)) (word : ℕ) → AreRanked k slots → rank < k
    → IsWordOf (get_or slots rank None) word → GivesNone k (those_in slots) (slot_of_word word)
word_gives_none k rank slots word ranked lt is = elim is [
  | inl nothing ↦ subst (GivesNone k (those_in slots)) (sym nothing) (none_gives_none k (those_in slots) ranked.few)
  | inr same ↦ subst (GivesNone k (those_in slots)) (sym same)
      (sym (nothing_more k rank slots (get_or slots rank None) ranked lt refl))
]

-- ---- lists that take slots

abbrev merged_list : ℕ → List Near → List Near → List Near
merged_list k xs ys = take k (put_all xs ys)

-- a slot is put before a merge or behind it
put_first : (k : ℕ) (x o : List Near) (s : Option Near)
    → merged_list k (take k (put_if_there s x)) o ≡ take k (put_if_there s (merged_list k x o))
put_first k x o None = take_all k x o ∙ sym (take_again k k (put_all x o) (omega arith))
put_first k x o (Some y) =
    take_all k (put y x) o ∙ ap (take k) (all_put y x o) ∙ sym (take_put k y (put_all x o))

parts_of_cons : (x y : List Near) (xs ys : List (List Near)) → x ∷ xs ≡ y ∷ ys → (x ≡ y) × (xs ≡ ys)
parts_of_cons x y xs ys e = (cc, cc)

set_within : (k : ℕ) (xs ws : List (List Near)) (p : ℕ) (s : Option Near) → zip2 (merged_list k) xs ws ≡ ws
    → GivesNone k (get_or ws p []) s
    → zip2 (merged_list k) (set xs p (take k (put_if_there s (get_or xs p [])))) ws ≡ ws
set_within k [] ws p s h g = h
set_within k (x ∷ xs) [] zero s h g = refl
set_within k (x ∷ xs) [] (suc p) s h g = refl
set_within k (x ∷ xs) (w ∷ ws) zero s h g =
    let both = parts_of_cons (merged_list k x w) w (zip2 (merged_list k) xs ws) ws h in
    let first : merged_list k (take k (put_if_there s x)) w ≡ w =
    put_first k x w s ∙ ap (λ v. take k (put_if_there s v)) both.0 ∙ g in
    cc (first, both.1)
set_within k (x ∷ xs) (w ∷ ws) (suc p) s h g =
    let both = parts_of_cons (merged_list k x w) w (zip2 (merged_list k) xs ws) ws h in
    cc (both.0, set_within k xs ws p s both.1 g)

set_more : (k : ℕ) (xs os : List (List Near)) (p : ℕ) (s : Option Near) → zip2 (merged_list k) xs os ≡ xs
    → zip2 (merged_list k) (set xs p (take k (put_if_there s (get_or xs p [])))) os
    ≡ set xs p (take k (put_if_there s (get_or xs p [])))
set_more k [] os p s h = h
set_more k (x ∷ xs) [] p s h = absurd (cc (h))
set_more k (x ∷ xs) (o ∷ os) zero s h =
    let both = parts_of_cons (merged_list k x o) x (zip2 (merged_list k) xs os) xs h in
    let first : merged_list k (take k (put_if_there s x)) o ≡ take k (put_if_there s x) =
    put_first k x o s ∙ ap (λ v. take k (put_if_there s v)) both.0 in
    cc (first, both.1)
set_more k (x ∷ xs) (o ∷ os) (suc p) s h =
    let both = parts_of_cons (merged_list k x o) x (zip2 (merged_list k) xs os) xs h in
    cc (both.0, set_more k xs os p s both.1)

pub one_taken : (k : ℕ) (whole old new after : List (List Near)) (p : ℕ) (s : Option Near) → HasMore k whole old new
    → GivesNone k (get_or whole p []) s → after ≡ put_slot_at k new p s → HasMore k whole old after
one_taken k whole old new after p s h g e =
    subst (HasMore k whole old) (sym e) (record {
      within = set_within k new whole p s h.within g;
      more = set_more k new old p s h.more;
      places = length-set new p (take k (put_if_there s (get_or new p []))) ∙ h.places;
    })

-- ---- what is told

list_within : (k : ℕ) (xs ws : List (List Near)) (p : ℕ) → p < length ws → zip2 (merged_list k) xs ws ≡ ws
    → merged_list k (get_or xs p []) (get_or ws p []) ≡ get_or ws p []
list_within k xs [] p lt h = absurd (omega (arith, lt))
list_within k [] (w ∷ ws) p lt h = absurd (cc (h))
list_within k (x ∷ xs) (w ∷ ws) zero lt h =
    (parts_of_cons (merged_list k x w) w (zip2 (merged_list k) xs ws) ws h).0
list_within k (x ∷ xs) (w ∷ ws) (suc p) lt h =
    list_within k xs ws p (omega (arith, lt))
    (parts_of_cons (merged_list k x w) w (zip2 (merged_list k) xs ws) ws h).1

slot_gives : (k : ℕ) (list whole : List Near) (s : Option Near) → GivesNone k list s
    → merged_list k list whole ≡ whole → GivesNone k whole s
slot_gives k list whole None g h =
    ap (take k) (sym h) ∙ take_again k k (put_all list whole) (omega arith) ∙ h
slot_gives k list whole (Some x) g h =
    subst (λ ys. take k (put x ys) ≡ ys) h (gives_nothing_more k list x whole g)

-- a slot that gives a list nothing gives the whole nothing in which that is
pub told : (k : ℕ) (whole lists : List (List Near)) (p : ℕ) (s : Option Near) → IsWithin k whole lists
    → p < length whole → GivesNone k (get_or lists p []) s → GivesNone k (get_or whole p []) s
told k whole lists p s w lt g =
    slot_gives k (get_or lists p []) (get_or whole p []) s g (list_within k lists whole p lt w)

-- ---- words

pub whole_count : (k : ℕ) (s : RankSeries) → length (whole_of k s) ≡ count_of s
whole_count k s =
    let a = series_of s.samples in
    length-map-range_with_len (ranks k s.m a) 0 (windows_of s.m a) ∙ series_are_of_samples.windows_are s.m s.samples

-- the place that a word belongs to
pub place_of : (k place rank : ℕ) → rank < k → (place * k + rank) / k ≡ place
place_of k place rank lt = div-mul-add place k rank lt

-- a word of a place
pub word_below : (k place rank count : ℕ) → place < count → rank < k → place * k + rank < count * k
word_below k place rank count lt below =
    elim (cases_lt (place * k + rank) (count * k)) [
      | inl less ↦ less
      | inr more ↦
          let le : count ≤ place = at_least k place rank count below more in
          absurd (omega (arith, lt, le))
    ]
  where
    one_more : (place k : ℕ) → (place + 1) * k ≡ place * k + k
    one_more place k = omega arith

    at_least : (k place rank count : ℕ) → rank < k → count * k ≤ place * k + rank → count ≤ place
    at_least k place rank count below more = elim (cases_lt place count) [
      | inl less ↦
          let all : (place + 1) * k ≤ count * k = mul-le-mul_right k (omega (arith, less)) in
          absurd (omega (arith, all, more, below, one_more place k))
      | inr le ↦ le
    ]

-- ---- steps

pub enters : (k : ℕ) (s : RankSeries) (slots word words : ℕ) → words ≡ length (whole_of k s) * k → word < words
    → Enters (AreEntriesOf k s) slots word
    (λ n w. Finds (step slots word 0 0 none) (view_of k s, []) n (w, []))
enters k s slots word words e lt state holds homes fits =
    (view_of k s, holds, holds.each word (omega (arith, lt, e, holds.places)))

lesser_gives : (k : ℕ) (list : List Near) (n word : ℕ) → GivesNone k list (slot_of_word n)
    → GivesNone k list (slot_of_word word) → GivesNone k list (slot_of_word (min n word))
lesser_gives k list n word g h = elim (cases_lt n word) [
  | inl less ↦ subst (λ x. GivesNone k list (slot_of_word x)) (first n word less) g
  | inr more ↦ subst (λ x. GivesNone k list (slot_of_word x)) (other n word more) h
]
  where
    first : (n word : ℕ) → n < word → n ≡ min n word
    first n word lt = omega (arith, lt)

    other : (n word : ℕ) → word ≤ n → word ≡ min n word
    other n word le = omega (arith, le)

pub lowered : (k : ℕ) (whole : List (List Near)) (words : List ℕ) (at word : ℕ) → GiveNone k whole words
    → at < length words → GivesNone k (get_or whole (at / k) []) (slot_of_word word)
    → GiveNone k whole (set words at (min (slice_index words at) word))
lowered k whole words at word h lt is = record {
  places = length-set words at (min (slice_index words at) word) ∙ h.places;
  each = λ n below. elim (cases_eq n at) [
    | inl same ↦ subst (λ (q : ℕ). GivesNone k (get_or whole (q / k) [])
        (slot_of_word (slice_index (set words at (min (slice_index words at) word)) q))) (sym same)
        (subst (λ x. GivesNone k (get_or whole (at / k) []) (slot_of_word x))
        (sym (get_or-set_same words at (min (slice_index words at) word) _ lt))
        (lesser_gives k (get_or whole (at / k) []) (slice_index words at) word (h.each at lt) is))
    | inr other ↦ subst (λ x. GivesNone k (get_or whole (n / k) []) (slot_of_word x))
        (sym (get_or-set_other words at n (min (slice_index words at) word) _ other))
        (h.each n (omega (arith, below, length-set words at (min (slice_index words at) word))))
  ];
}

pub allows_lower : (k : ℕ) (s : RankSeries) (slots id at word words : ℕ) (me : Me (Unit {0}) RanksView)
    → words ≡ length (whole_of k s) * k → at < words
    → GivesNone k (get_or (whole_of k s) (at / k) []) (slot_of_word word)
    → Allows (AreEntriesOf k s) slots id me at (λ n. min n word) (Lowers (step slots at word 0 none) me)
allows_lower k s slots id at word words me e lt is state holds homes there fits =
    (me.0, keeps, tt, lowered k (whole_of k s) state.words at word holds (omega (arith, lt, e, holds.places)) is, tt)

-- words that tell nothing
pub opens : (k : ℕ) (s : RankSeries) (count : ℕ) → count ≡ length (whole_of k s) * k
    → AreEntriesOf k s (opening (replicate count no_word) [] (view_of k s))
opens k s count e = record {
  places = length-replicate count no_word ∙ e;
  each = λ n lt.
      let is = get_or-replicate count n no_word _ (omega (arith, lt, length-replicate count no_word)) in
      subst (λ x. GivesNone k (get_or (whole_of k s) (n / k) []) (slot_of_word x)) (sym is)
      (few_at k s (n / k));
}
  where
    few_at : (k : ℕ) (s : RankSeries) (p : ℕ) → take k (get_or (whole_of k s) p []) ≡ get_or (whole_of k s) p []
    few_at k s p = are_few k (whole_of k s) (value_has_ranks k (is_allowed s.m) s.m s.samples).ranks p

-- ---- what loops need

slots_back : (lists : List (List Near)) → map those_in (map slots_of lists) ≡ lists
slots_back [] = refl
slots_back (x ∷ xs) = cc (those_in_slots x, slots_back xs)

-- merged lists as slots
pub merged_as_slots : (k : ℕ) (a b : List (List Near))
    → merged_ranks k (map slots_of a) (map slots_of b) ≡ map slots_of (merged_lists k a b)
merged_as_slots k [] b = refl
merged_as_slots k (x ∷ xs) [] = refl
merged_as_slots k (x ∷ xs) (y ∷ ys) = cc (
  ap (λ a. slots_of (take k (put_all a (those_in (slots_of y))))) (those_in_slots x)
      ∙ ap (λ b. slots_of (take k (put_all x b))) (those_in_slots y),
  merged_as_slots k xs ys,
)

-- lists that are the same as slots
pub lists_back : (a b : List (List Near)) → map slots_of a ≡ map slots_of b → a ≡ b
lists_back a b e = sym (slots_back a) ∙ ap (map those_in) e ∙ slots_back b

-- where nothing is taken
pub none_taken : (k size : ℕ) (whole lists : List (List Near)) → HasRanks k size (map slots_of lists)
    → IsWithin k whole lists → HasMore k whole lists lists
none_taken k size whole lists is within = record {
  within = within;
  more = lists_back (merged_lists k lists lists) lists
      (sym (merged_as_slots k lists lists) ∙ (ranks_merge k).idempotent size (map slots_of lists) is);
  places = refl;
}

-- how large a number of a word is
pub word_small : (k place rank count : ℕ) → place < count → rank < k → count ≤ MAX_SAMPLES → k ≤ MAX_RANKS
    → place * k + rank < 2 ^ 32
word_small k place rank count lt below few ranks =
    let most : count * k ≤ MAX_SAMPLES * k = mul-le-mul_right k few in
    omega (arith, word_below k place rank count lt below, most, ranks)

-- what a word of a place tells
pub word_at_place : (k : ℕ) (s : RankSeries) (place rank : ℕ) (slot : Option Near) → rank < k
    → GivesNone k (get_or (whole_of k s) ((place * k + rank) / k) []) slot
    → GivesNone k (get_or (whole_of k s) place []) slot
word_at_place k s place rank slot lt h =
    subst (λ p. GivesNone k (get_or (whole_of k s) p []) slot) (place_of k place rank lt) h

pub place_of_word : (k : ℕ) (s : RankSeries) (place rank : ℕ) (slot : Option Near) → rank < k
    → GivesNone k (get_or (whole_of k s) place []) slot
    → GivesNone k (get_or (whole_of k s) ((place * k + rank) / k) []) slot
place_of_word k s place rank slot lt h =
    subst (λ p. GivesNone k (get_or (whole_of k s) p []) slot) (sym (place_of k place rank lt)) h

-- a place and a rank have a word
pub word_there : (k words : ℕ) (s t : RankSeries) (place rank : ℕ) → words ≡ length (whole_of k s) * k → s ≡ t
    → place < count_of t → rank < k → place * k + rank < words
word_there k words s t place rank e same lt below =
    omega (
      arith,
      e,
      ap (λ n. n * k) (whole_count k s),
      ap (λ n. n * k) (ap count_of same),
      word_below k place rank (count_of t) lt below,
    )

pub put_slot_long : (k : ℕ) (old new : List (List Near)) (p : ℕ) (s : Option Near) → new ≡ put_slot_at k old p s
    → length new ≡ length old
put_slot_long k old new p s e = ap length e ∙ length-set old p (take k (put_if_there s (get_or old p [])))

-- ---- tiles

-- ranks whose value is within the whole
pub within_whole : (k : ℕ) (whole lists : List (List Near))
    → merged_ranks k (map slots_of lists) (map slots_of whole) ≡ map slots_of whole → IsWithin k whole lists
within_whole k whole lists h =
    lists_back (merged_lists k lists whole) whole (sym (merged_as_slots k lists whole) ∙ h)

pub value_within : (k : ℕ) (whole lists : List (List Near)) → IsWithin k whole lists
    → merged_ranks k (map slots_of lists) (map slots_of whole) ≡ map slots_of whole
value_within k whole lists h = merged_as_slots k lists whole ∙ ap (map slots_of) h

pub value_more : (k : ℕ) (whole old new : List (List Near)) → HasMore k whole old new
    → merged_ranks k (map slots_of new) (map slots_of old) ≡ map slots_of new
value_more k whole old new h = merged_as_slots k new old ∙ ap (map slots_of) h.more

-- a tile without rows gives nothing
pub no_row_gives_nothing : (k m : ℕ) (samples : List Sample) (tile : Tile) → tile.last_row < tile.first_row
    → among_value k (either_way (has_pair 0 tile)) m (series_of samples) ≡ no_ranks (windows (length samples) m)
no_row_gives_nothing k m samples tile empty =
    let a = series_of samples in
    let never = λ (i j : ℕ). no_pair (on_its_diagonals 0 tile i j) tile.first_row tile.last_row i empty in
    value_none k (either_way (has_pair 0 tile)) m a
    (λ i j. ap (λ p. p || has_pair 0 tile j i) (never i j) ∙ never j i)
    ∙ ap no_ranks (series_are_of_samples.windows_are m samples)
  where
    no_pair : (on : Bool) (first last i : ℕ) → last < first → (on && (nat_le first i && nat_le i last)) ≡ false
    no_pair on first last i lt = grind (arith, nat_tests)

-- a worker takes what others found, and then the ranks by the pairs of a piece
pub piece_run : (k : ℕ) (own : OwnTiling) (old found new : List (List Near)) (piece : ℕ)
    → ranks_together k own ≡ ranks_whole k own → piece < length own.tiles
    → HasRanks k (own_size own) (map slots_of old) → HasRanks k (own_size own) (map slots_of found)
    → HasMore k (whole_of k (series_in own)) old found
    → map slots_of new ≡ merged_ranks k (map slots_of found) (rank_value k own piece)
    → (merged_ranks k (map slots_of new) (rank_value k own piece) ≡ map slots_of new)
    × (merged_ranks k (map slots_of new) (map slots_of old) ≡ map slots_of new)
    × (merged_ranks k (map slots_of new) (ranks_whole k own) ≡ ranks_whole k own)
piece_run k own old found new piece together lt is_old is_found more e =
    let size = own_size own in
    let whole = whole_of k (series_in own) in
    let values = λ (n : ℕ) (_ : n < length own.tiles).
    value_has_ranks k (either_way (has_pair 0 (get_or own.tiles n no_tile))) own.m own.samples in
    let is_whole = value_has_ranks k (is_allowed own.m) own.m own.samples in
    let within = subst (λ v. merged_ranks k (rank_value k own piece) v ≡ v) together
    (piece_within (HasRanks k) no_ranks (merged_ranks k) (ranks_merge k) size (rank_value k own)
    (length own.tiles) piece
    values lt) in
    one_more_run (HasRanks k) no_ranks (merged_ranks k) (ranks_merge k) size (ranks_whole k own) (map slots_of old)
    (map slots_of found) (rank_value k own piece) (map slots_of new) is_whole is_old is_found (values piece lt)
    (value_more k whole old found more) (value_within k whole found more.within) within e

-- tiles that have the pairs of the cut outside the exclusion zone have the ranks of all windows
pub parts_make_ranks : (k width : ℕ) (own : OwnTiling) (cut : List Tile) → 0 < width
    → cut ≡ own_tiles (windows (length own.samples) own.m) (excl own.m) width
    → ((i j : ℕ) → some_has 0 own.tiles i j ≡ some_has 0 cut i j) → ranks_together k own ≡ ranks_whole k own
parts_make_ranks k width own cut pos is same =
    let m = own.m in
    let a = series_of own.samples in
    let count = series_are_of_samples.windows_are m own.samples in
    let parted = some_has 0 own.tiles in
    let whole = some_has 0 cut in
    subst (λ w. merged_below (merged_ranks k) (no_ranks w) (rank_value k own) (length own.tiles) ≡ ranks_whole k own)
    count
    (among_tiles k m a own.tiles
    ∙ ap (map slots_of) (lists_same k (either_way parted) (either_way whole) m a
    (λ i j _ _. ap (λ p. p || parted j i) (same i j) ∙ ap (λ p. whole i j || p) (same j i)))
    ∙ sym (among_tiles k m a cut)
    ∙ ap (tiles_value k m a) (is ∙ ap (λ w. own_tiles w (excl m) width) (sym count))
    ∙ make_the_ranks k m width a pos)
