-- Why each of two windows is offered to the other at some successive lengths as scans want it.
use Rattle.std.proofs.Common.{◌≡◌, ℕ, ◌+◌, ◌-◌, ◌*◌, ◌<◌, ◌≤◌, ◌⊎◌, length, get_or, Bool, true, false, refl, sym}
use Rattle.std.proofs.Common.{ap, ◌∙◌, arith, subst, inl, inr}
use Rattle.std.specs.Prelude.{Option, Some, None, ◌&&◌, ◌||◌, if◌then◌else◌}
use Rattle.std.proofs.lemmas.Bool.Decides.{nat_tests}
use Rattle.std.proofs.lemmas.List.{length-set}
use Rattle.mp_nums.specs.Near.{nearer_of}
use Rattle.mp_defs.specs.Series.{Series, series_of}
use Rattle.mp_defs.specs.Window.{is_allowed}
use Rattle.mp_defs.specs.Distance.{distance}
use Rattle.mp_defs.specs.DistanceLaws.{symmetric}
use Rattle.mp_defs.specs.Least.{at_distance}
use Rattle.mp_defs.specs.Profile.{nearest_column, windows_of}
use Rattle.mp_defs.specs.NearestLaws.{zone_is_mutual}
use Rattle.mp_partial.specs.Values.{Column}
use Rattle.mp_scans.specs.Offering.{only, IsLimiting, IsOffering}
use Rattle.mp_scans.specs.Slots.{Covers}
use Rattle.mp_tiles.specs.Among.{either_way}
use Rattle.mp_tiles.specs.OfferingLaws.{and_either, or_pairs}
use Rattle.mp_tiles.specs.PatchScanning.{HasTakenFrom}
use Rattle.mp_tiles.specs.Scanning.{taken}
use Rattle.mp_tiles.specs.TakenLaws.{at_taken_from, both_ways, covers_more, taken_nothing, taken_one_from}
use Rattle.mp_tiles.specs.TakenLaws.{taken_quiet_from, taken_same_from, taken_then_from}
use Rattle.mp_pan.specs.declared.lengths.Lengths.{Lengths}
use Rattle.mp_pan.specs.declared.offers.AtLengths.{AtLengths}
use Rattle.mp_pan.specs.Longer.{distance_free, free_within, shorter}
use Rattle.mp_pan.specs.SlotLaws.{all_at, at_place, length_all, length_at}
use Rattle.mp_pan.specs.Spans.{all_put, AreTakenAt, column_at, distance_apart, FitsLengths, IsScannedAt}
use Rattle.mp_pan.specs.Spans.{keeps_at, keeps_lengths}
use Rattle.mp_pan.specs.Spans.{may_lengths, pairs_at}

-- ---- tests

either_true : (s t : Bool) → (s || t) ≡ true → (s ≡ true) ⊎ (t ≡ true)
either_true true t e = inl refl
either_true false t e = inr e

first_true : (s t : Bool) → (s && t) ≡ true → s ≡ true
first_true true t e = refl
first_true false t e = e

last_true : (s t : Bool) → (s && t) ≡ true → t ≡ true
last_true true t e = e
last_true false t e = absurd (cc)

only_row : (i j r c : ℕ) → only i j r c ≡ true → r ≡ i
only_row i j r c is = grind (arith, nat_tests)

only_column : (i j r c : ℕ) → only i j r c ≡ true → c ≡ j
only_column i j r c is = grind (arith, nat_tests)

turned_only : (i j r c : ℕ) → only j i r c ≡ only i j c r
turned_only i j r c = grind (arith, nat_tests)

-- ---- one pair

-- the distance of the one pair, from either window
pair_distance : (i j m : ℕ) (a : Series) (r c : ℕ) → either_way (only i j) r c ≡ true
    → distance m a r a c ≡ distance m a i a j
pair_distance i j m a r c is = elim (either_true (only i j r c) (only i j c r) is) [
  | inl e ↦ ap (λ n. distance m a n a c) (only_row i j r c e)
      ∙ ap (λ n. distance m a i a n) (only_column i j r c e)
  | inr e ↦ ap (λ n. distance m a n a c) (only_column i j c r e)
      ∙ ap (λ n. distance m a j a n) (only_row i j c r e)
      ∙ symmetric m a j a i
]

pair_allowed : (i j m r c : ℕ) → either_way (only i j) r c ≡ true → is_allowed m r c ≡ is_allowed m i j
pair_allowed i j m r c is = elim (either_true (only i j r c) (only i j c r) is) [
  | inl e ↦ ap (λ n. is_allowed m n c) (only_row i j r c e) ∙ ap (λ n. is_allowed m i n) (only_column i j r c e)
  | inr e ↦ ap (λ n. is_allowed m n c) (only_column i j c r e) ∙ ap (λ n. is_allowed m j n) (only_row i j c r e)
      ∙ zone_is_mutual.symmetric m j i
]

-- without a distance it gives nothing
pair_none : (i j m : ℕ) (a : Series) (slots : Column) → distance_apart m a i j ≡ None
    → HasTakenFrom (pairs_at (only i j) m) m a a 0 slots slots
pair_none i j m a slots missing =
    taken_quiet_from (pairs_at (only i j) m) m a a 0 slots
    (λ r c d _ _ _ _ is found.
    let pair = first_true (either_way (only i j) r c) (is_allowed m r c) is in
    absurd (no_distance (is_allowed m i j) (distance m a i a j) d missing
    (sym (pair_allowed i j m r c pair) ∙ last_true (either_way (only i j) r c) (is_allowed m r c) is)
    (sym (pair_distance i j m a r c pair) ∙ found)))
  where
    no_distance : (t : Bool) (x : Option ℕ) (d : ℕ) → (if t then x else None) ≡ None
        → t ≡ true → x ≡ Some d → ⊥
    no_distance true x d e f g = absurd (cc)
    no_distance false x d e f g = absurd (cc)

both_only : (i j m r c : ℕ) → is_allowed m i j ≡ true
    → (only i j r c || only j i r c) ≡ pairs_at (only i j) m r c
both_only i j m r c may =
    ap (λ t. only i j r c || t) (turned_only i j r c)
    ∙ keep (either_way (only i j) r c) (is_allowed m r c) (λ is. pair_allowed i j m r c is ∙ may)
  where
    keep : (s t : Bool) → (s ≡ true → t ≡ true) → s ≡ (s && t)
    keep true t h = sym (h refl)
    keep false t h = refl

pair_some : (i j m : ℕ) (a : Series) (slots : Column) (d : ℕ) → is_allowed m i j ≡ true
    → distance m a i a j ≡ Some d → 1 ≤ m → i < length slots → j < length slots
    → HasTakenFrom (pairs_at (only i j) m) m a a 0 slots
    (taken (taken slots i (at_distance j (Some d))) j (at_distance i (Some d)))
pair_some i j m a slots d may found some lt lt' =
    let back = symmetric m a j a i ∙ found in
    let row : i < windows_of m a = free_within m a i some (distance_free m a i a j d found) in
    let column : j < windows_of m a = free_within m a j some (distance_free m a j a i d back) in
    let mid = taken slots i (at_distance j (Some d)) in
    let new = taken mid j (at_distance i (Some d)) in
    let same : length mid ≡ length slots =
    length-set slots i (nearer_of (get_or slots i None) (at_distance j (Some d)))
    in
    taken_same_from (λ r c. only i j r c || only j i r c) (pairs_at (only i j) m) m a a 0 slots new
    (taken_then_from (only i j) (only j i) m a a 0 slots mid new
    (taken_one_from i j m a a 0 slots mid (Some d) row column (sym found) (omega arith) (omega (arith, lt))
    (ap (λ n. taken slots n (at_distance j (Some d))) (omega arith)))
    (taken_one_from j i m a a 0 mid new (Some d) column row (sym back) (omega arith) (omega (arith, lt', same))
    (ap (λ n. taken mid n (at_distance i (Some d))) (omega arith))))
    (λ r c _ _. both_only i j m r c may)

nothing_put : (i j : ℕ) (slots : Column) → slots ≡ taken (taken slots i None) j None
nothing_put i j slots =
    sym (taken_nothing (taken slots i None) j ∙ taken_nothing slots i)

-- the windows of the pair take each other at a length
pub pair_taken : (i j m : ℕ) (a : Series) (slots : Column) → 1 ≤ m → i < length slots → j < length slots
    → HasTakenFrom (pairs_at (only i j) m) m a a 0 slots
    (taken (taken slots i (at_distance j (distance_apart m a i j))) j (at_distance i (distance_apart m a i j)))
pair_taken i j m a slots some lt lt' =
    by_distance (distance_apart m a i j) refl
  where
    chosen : (t : Bool) (x : Option ℕ) (d : ℕ) → (if t then x else None) ≡ Some d
        → (t ≡ true) × (x ≡ Some d)
    chosen true x d e = (refl, e)
    chosen false x d e = absurd (cc)

    by_distance : (d : Option ℕ) → distance_apart m a i j ≡ d
        → HasTakenFrom (pairs_at (only i j) m) m a a 0 slots
        (taken (taken slots i (at_distance j d)) j (at_distance i d))
    by_distance None e =
        subst (HasTakenFrom (pairs_at (only i j) m) m a a 0 slots) (nothing_put i j slots) (pair_none i j m a slots e)
    by_distance (Some d) e =
        let (may, found) = chosen (is_allowed m i j) (distance m a i a j) d e in
        pair_some i j m a slots d may found some lt lt'

-- and so at each of the lengths
pub pair_taken_at : (count i j m : ℕ) (a : Series) (slots : Column) → 1 ≤ m → count ≤ 4
    → i < j → j < windows_of m a
    → length slots ≡ 4 * windows_of m a → AreTakenAt count m a (only i j) slots (all_put count m a i j slots)
pair_taken_at count i j m a slots some few order lt long =
    let w = windows_of m a in
    record {
      places = length_all count m a i j slots;
      each = λ k less. subst (HasTakenFrom (pairs_at (only i j) (m + k)) (m + k) a a 0 (column_at w k slots))
          (sym (all_at w count k m a i j slots less few order lt (omega (arith, long))))
          (pair_taken i j (m + k) a (column_at w k slots) (omega (arith, some))
          (omega (arith, order, lt, length_at w k slots)) (omega (arith, lt, length_at w k slots)));
    }

-- ---- what scans want

same_windows : (m : ℕ) (a b : Series) → a ≡ b → windows_of m b ≡ windows_of m a
same_windows m a b e = ap (windows_of m) (sym e)

-- both windows are of one series
pub same_series : (m : ℕ) (a b : Series) (i j : ℕ) (d : Option ℕ) → a ≡ b → distance m a i b j ≡ d
    → distance m a i a j ≡ d
same_series m a b i j d e h = subst (λ (x : Series). distance m a i x j ≡ d) (sym e) h

-- pairs that give nothing at any length
taken_at_none : (count m : ℕ) (a : Series) (pairs : ℕ → ℕ → Bool) (slots : Column)
    → ((i j k d : ℕ) → k < count → pairs_at pairs (m + k) i j ≡ true
    → distance (m + k) a i a j ≡ Some d → ⊥)
    → AreTakenAt count m a pairs slots slots
taken_at_none count m a pairs slots h = record {
  places = refl;
  each = λ k less. taken_quiet_from (pairs_at pairs (m + k)) (m + k) a a 0 (column_at (windows_of m a) k slots)
      (λ i j d _ _ _ _ is found. absurd (h i j k d less is found));
}

either_none : (p : ℕ → ℕ → Bool) → ((i j : ℕ) → p i j ≡ false)
    → (i j : ℕ) → either_way p i j ≡ false
either_none p none i j = ap (λ t. t || p j i) (none i j) ∙ none j i

missing_longer : (m k : ℕ) (a : Series) (i j d : ℕ) → distance m a i a j ≡ None
    → distance (m + k) a i a j ≡ Some d → ⊥
missing_longer m k a i j d missing found =
    let h = shorter m k a i a j d found in
    let same : Some h.shorter ≡ None = sym h.is ∙ missing in absurd (cc)

taken_at_then : (count m : ℕ) (a : Series) (p q : ℕ → ℕ → Bool) (old mid new : Column)
    → AreTakenAt count m a p old mid → AreTakenAt count m a q mid new
    → AreTakenAt count m a (λ i j. p i j || q i j) old new
taken_at_then count m a p q old mid new g h = record {
  places = h.places ∙ g.places;
  each = λ k less.
      let w = windows_of m a in
      taken_same_from (λ i j. pairs_at p (m + k) i j || pairs_at q (m + k) i j)
      (pairs_at (λ i j. p i j || q i j) (m + k)) (m + k) a a 0 (column_at w k old) (column_at w k new)
      (taken_then_from (pairs_at p (m + k)) (pairs_at q (m + k)) (m + k) a a 0 (column_at w k old) (column_at w k mid)
      (column_at w k new) (g.each k less) (h.each k less))
      (λ i j _ _. and_either (either_way p i j) (either_way q i j) (is_allowed (m + k) i j)
      ∙ ap (λ t. t && is_allowed (m + k) i j) (or_pairs (p i j) (q i j) (p j i) (q j i)));
}

fewer_windows : (m k : ℕ) (a : Series) (i : ℕ) → i < windows_of (m + k) a → i < windows_of m a
fewer_windows m k a i lt = omega (arith, lt)

taken_at_same : (count m : ℕ) (a : Series) (p q : ℕ → ℕ → Bool) (old new : Column)
    → AreTakenAt count m a p old new
    → ((i j : ℕ) → i < windows_of m a → j < windows_of m a → p i j ≡ q i j)
    → AreTakenAt count m a q old new
taken_at_same count m a p q old new h same = record {
  places = h.places;
  each = λ k less.
      let w = windows_of m a in
      taken_same_from (pairs_at p (m + k)) (pairs_at q (m + k)) (m + k) a a 0 (column_at w k old) (column_at w k new)
      (h.each k less) (λ i j lt lt'.
      let row = fewer_windows m k a i lt in
      let column = fewer_windows m k a j lt' in
      ap (λ t. (t || p j i) && is_allowed (m + k) i j) (same i j row column)
      ∙ ap (λ t. (q i j || t) && is_allowed (m + k) i j) (same j i column row));
}

still_fits : (m : ℕ) (a b : Series) (pairs : ℕ → ℕ → Bool) (old new : AtLengths) → FitsLengths m a b old
    → IsScannedAt m a b pairs old new → FitsLengths m a b new
still_fits m a b pairs old new h s = record {
  series = h.series ∙ ap (λ (l : Lengths). series_of l.samples.now) (sym s.lengths);
  same = h.same;
  least = ap (λ (l : Lengths). l.least) s.lengths ∙ h.least;
  places = s.slots.places ∙ h.places;
}

pub lengths_offer : IsOffering 1 FitsLengths may_lengths IsScannedAt
lengths_offer = record {
  may = λ m a b into row column dist h lt lt' apart known.
      let same = same_windows m a b h.same in
      (omega (arith, apart), omega (arith, lt', same, h.places));
  still_fits = λ m a b pairs old new h s. still_fits m a b pairs old new h s;
  none = λ m a b pairs into h none. record {
    slots = taken_at_none into.lengths.count m a pairs into.slots.now
        (λ i j k d less is found. both_ways (either_way pairs i j)
        (first_true (either_way pairs i j) (is_allowed (m + k) i j) is) (either_none pairs none i j));
    lengths = refl;
    same_slots = refl;
  };
  skipped = λ m a b row column into h lt lt' apart missing. record {
    slots = taken_at_none into.lengths.count m a (only row column) into.slots.now
        (λ i j k d less is found. missing_longer m k a row column d (same_series m a b row column None h.same missing)
        (sym (pair_distance row column (m + k) a i j
        (first_true (either_way (only row column) i j) (is_allowed (m + k) i j) is)) ∙ found));
    lengths = refl;
    same_slots = refl;
  };
  both = λ m a b p q old mid new g h. record {
    slots = taken_at_then old.lengths.count m a p q old.slots.now mid.slots.now new.slots.now g.slots
        (subst (λ n. AreTakenAt n m a q mid.slots.now new.slots.now) (ap (λ l. l.count) g.lengths) h.slots);
    lengths = h.lengths ∙ g.lengths;
    same_slots = h.same_slots ∙ g.same_slots;
  };
  same = λ m a b p q old new h s same.
      let wide = same_windows m a b h.same in
      record {
        slots = taken_at_same old.lengths.count m a p q old.slots.now new.slots.now s.slots
            (λ i j lt lt'. same i j lt (omega (arith, lt', wide)));
        lengths = s.lengths;
        same_slots = s.same_slots;
      };
}

-- ---- limits

lengths_quiet : (m : ℕ) (a : Series) (pairs : ℕ → ℕ → Bool) (into : AtLengths) → FitsLengths m a a into
    → ((i j d : ℕ) → i < windows_of m a → j < windows_of m a → pairs i j ≡ true
    → distance m a i a j ≡ Some d
    → keeps_lengths into i j d × keeps_lengths into j i d)
    → AreTakenAt into.lengths.count m a pairs into.slots.now into.slots.now
lengths_quiet m a pairs into h q = record {
  places = refl;
  each = λ k less.
      taken_quiet_from (pairs_at pairs (m + k)) (m + k) a a 0 (column_at (windows_of m a) k into.slots.now)
      (λ i j d _ _ lt lt' is found. covered k less i j d (fewer_windows m k a i lt) (fewer_windows m k a j lt')
      (either_true (pairs i j) (pairs j i) (first_true (either_way pairs i j) (is_allowed (m + k) i j) is)) found);
}
  where
    here : (k i j d : ℕ) → distance (m + k) a i a j ≡ Some d
        → distance (into.lengths.least + k) (series_of into.lengths.samples.now) i
        (series_of into.lengths.samples.now) j
        ≡ Some d
    here k i j d found =
        let s = series_of into.lengths.samples.now in
        ap (λ n. distance (n + k) s i s j) h.least
        ∙ ap (λ (x : Series). distance (m + k) x i x j) (sym h.series) ∙ found

    at_least : (i j d : ℕ) → distance m a i a j ≡ Some d
        → distance into.lengths.least (series_of into.lengths.samples.now) i (series_of into.lengths.samples.now) j
        ≡ Some d
    at_least i j d found =
        let s = series_of into.lengths.samples.now in
        ap (λ n. distance n s i s j) h.least ∙ ap (λ (x : Series). distance m x i x j) (sym h.series) ∙ found

    keeps : (k i j d : ℕ) → i < windows_of m a → j < windows_of m a
        → (pairs i j ≡ true) ⊎ (pairs j i ≡ true)
        → (e : ℕ) → distance m a i a j ≡ Some e → keeps_lengths into i j e
    keeps k i j d lt lt' way e is = elim way [
      | inl here ↦ (q i j e lt lt' here is).0
      | inr back ↦ (q j i e lt' lt back (symmetric m a j a i ∙ is)).1
    ]

    covered : (k : ℕ) → k < into.lengths.count → (i j d : ℕ) → i < windows_of m a → j < windows_of m a
        → (pairs i j ≡ true) ⊎ (pairs j i ≡ true) → distance (m + k) a i a j ≡ Some d
        → Covers (get_or (column_at (windows_of m a) k into.slots.now) (i - 0) None) j d
    covered k less i j d lt lt' way found =
        let near = shorter m k a i a j d found in
        let same : i ≡ i - 0 = omega arith in
        subst (λ n. Covers (get_or (column_at (windows_of m a) k into.slots.now) n None) j d) same
        (subst (λ s. Covers s j d) (sym (at_place (windows_of m a) k into.slots.now i lt))
        (keeps k i j d lt lt' way near.shorter near.is (at_least i j near.shorter near.is) k d less
        (here k i j d found)))

-- what gives nothing gives nothing from then on
lengths_stay : (m : ℕ) (a b : Series) (pairs : ℕ → ℕ → Bool) (old new : AtLengths) (i j d : ℕ)
    → IsScannedAt m a b pairs old new → i < windows_of m a → keeps_lengths old i j d → keeps_lengths new i j d
lengths_stay m a b pairs old new i j d s lt keeps =
    subst (λ (l : Lengths). keeps_at l new.slots.now i j d) (sym s.lengths)
    (λ is k more less found.
    let w = windows_of m a in
    let before = column_at w k old.slots.now in
    let after = column_at w k new.slots.now in
    let there = nearest_column (pairs_at pairs (m + k)) (m + k) a a in
    subst (λ s. Covers s j more) (at_place w k new.slots.now i lt)
    (subst (λ s. Covers s j more) (sym (at_taken_from (pairs_at pairs (m + k)) (m + k) a a 0 before after i
    (omega (arith, lt, length_at w k old.slots.now)) (s.slots.each k less)))
    (covers_more (get_or before i None) (get_or there (0 + i) None) j more
    (subst (λ s. Covers s j more) (sym (at_place w k old.slots.now i lt)) (keeps is k more less found)))))

-- in one series
one_series : (m : ℕ) (a b : Series) (pairs : ℕ → ℕ → Bool) (into : AtLengths) → a ≡ b
    → ((i j d : ℕ) → i < windows_of m a → j < windows_of m b → pairs i j ≡ true
    → distance m a i b j ≡ Some d
    → keeps_lengths into i j d × keeps_lengths into j i d)
    → (i j d : ℕ) → i < windows_of m a → j < windows_of m a → pairs i j ≡ true
    → distance m a i a j ≡ Some d
    → keeps_lengths into i j d × keeps_lengths into j i d
one_series m a b pairs into e q =
    subst (λ (x : Series). (i j d : ℕ) → i < windows_of m a → j < windows_of m x → pairs i j ≡ true
    → distance m a i x j ≡ Some d → keeps_lengths into i j d × keeps_lengths into j i d) (sym e) q

pub lengths_limit : IsLimiting 1 FitsLengths IsScannedAt keeps_lengths keeps_lengths
lengths_limit = record {
  quiet = λ m a b pairs into h order q. record {
    slots = lengths_quiet m a pairs into
        (record { series = h.series; same = refl; least = h.least; places = h.places })
        (one_series m a b pairs into h.same q);
    lengths = refl;
    same_slots = refl;
  };
  row_stays = λ m a b pairs old new h s i j d lt keeps. lengths_stay m a b pairs old new i j d s lt keeps;
  column_stays = λ m a b pairs old new h s j i d lt keeps.
      lengths_stay m a b pairs old new j i d s (omega (arith, lt, same_windows m a b h.same)) keeps;
}
