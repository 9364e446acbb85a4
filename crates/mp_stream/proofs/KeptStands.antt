-- A store with one sample more stands for the list of samples with this one behind.
use Rattle.std.proofs.Common.{◌≡◌, ℕ, ◌+◌, ◌-◌, ◌<◌, ◌≤◌, inl, inr, List, [], ◌∷◌, ◌++◌, length, get_or, drop}
use Rattle.std.proofs.Common.{Bool, false, refl, sym, ap, ◌∙◌, arith, subst}
use Rattle.std.specs.Prelude.{Option, Some, None}
use Rattle.std.specs.List.{range_with_len}
use Rattle.std.proofs.lemmas.Bool.{cases_lt}
use Rattle.std.proofs.lemmas.Bool.Decides.{nat_tests}
use Rattle.std.proofs.lemmas.List.{drop-drop, get_or-drop, length-append, length-drop, length-map}
use Rattle.std.proofs.lemmas.Simd.{zip2-map}
use Rattle.mp_nums.specs.declared.nearest.Near.{Near}
use Rattle.mp_nums.specs.declared.samples.Sample.{Sample}
use Rattle.mp_nums.specs.Near.{nearer_of}
use Rattle.mp_defs.specs.Series.{reading_of, series_of}
use Rattle.mp_defs.specs.Window.{is_free, windows}
use Rattle.mp_defs.specs.Least.{near}
use Rattle.mp_defs.specs.Profile.{column, entry, left_entry, right_entry}
use Rattle.mp_defs.specs.ColumnLaws.{columns_have_places}
use Rattle.mp_defs.specs.NearestLaws.{entries_are_of_both_sides}
use Rattle.mp_partial.specs.Values.{Column, merged_column}
use Rattle.mp_series.specs.HeldSamples.{Held}
use Rattle.mp_series.specs.Samples.{numbers_in}
use Rattle.mp_stream.specs.Blocks.{numbered, renumbered}
use Rattle.mp_defs.specs.Limits.{max_appended}
use Rattle.mp_defs.specs.Band.{first_kept, is_allowed_in, live_column, live_windows}
use Rattle.mp_stream.specs.Kept.{Keeping, StandsFor, last_samples}
use Rattle.mp_stream.specs.KeptProfiles.{IsAdded, IsKept, IsOfLast, leaving, offered_in}
use Rattle.mp_stream.specs.Rows.{IsTaken, distance_from, last_place, offered_before, row_candidate, with_best}
use Rattle.mp_stream.specs.Streams.{HasRowOf, room_of}
use Rattle.mp_stream.specs.Appended.{AreNumbers}
use Rattle.mp_stream.specs.declared.profiles.GrowingProfile.{GrowingProfile}
use Rattle.mp_stream.proofs.Growing.{best_here, best_long, best_other, column_is, numbers_are, pushed_before}
use Rattle.mp_stream.proofs.Growing.{pushed_last}
use Rattle.mp_stream.proofs.Growing.{series_with}
use Rattle.mp_stream.proofs.KeptEntries.{AreLast, left_before, left_of_last, rights_after}
use Rattle.mp_stream.proofs.ShiftLemmas.{dropped_behind, free_behind, numbers_behind, series_behind, sum_behind}

-- ---- both sides

irreflexive : (keep m i : ℕ) → is_allowed_in keep m i i ≡ false
irreflexive keep m i = grind (arith, nat_tests)

-- the entries of the live windows, from the left and the right ones
pub live_entries : (keep m n : ℕ) (samples : List Sample) (left right : Column)
    → left ≡ live_column (left_entry (is_allowed_in keep m) m (series_of samples)) keep m n
    → right ≡ live_column (right_entry (is_allowed_in keep m) m (series_of samples)) keep m n
    → merged_column left right ≡ live_column (entry (is_allowed_in keep m) m (series_of samples)) keep m n
live_entries keep m n samples left right e f =
    let a = series_of samples in
    let may = is_allowed_in keep m in
    let first = first_kept keep n in
    let w = live_windows keep m n in
    let lefts = λ (p : ℕ). left_entry may m a (first + p) in
    let rights = λ (p : ℕ). right_entry may m a (first + p) in
    let both = λ (p : ℕ). nearer_of (lefts p) (rights p) in
    ap (λ x. merged_column x right) e ∙ ap (merged_column (column lefts w)) f
    ∙ zip2-map nearer_of lefts rights (range_with_len 0 w)
    ∙ column_is (λ p. entry may m a (first + p)) w (column both w) (columns_have_places.count both w)
    (λ p lt. columns_have_places.at_place both w p lt
    ∙ sym (entries_are_of_both_sides may (irreflexive keep m) m a (first + p)))

-- ---- one sample more

-- a store of so many samples that has held some, and lets the first k of them go as the next one comes
pub record IsNext (keep m n k : ℕ) (samples held front items : List Sample) (sample : Sample) : Type 0 where
  pub least : 1 ≤ m
  pub kept : m ≤ keep
  pub count : length samples ≡ n
  pub held_is : held ≡ last_samples keep samples
  pub leaving_is : k ≡ length held + 1 - keep
  pub front_is : front ≡ drop k held
  pub items_are : items ≡ front ++ sample ∷ []

module _ (keep m n k : ℕ) (samples held front items : List Sample) (sample : Sample)
    (h : IsNext keep m n k samples held front items sample) where
  held_long : length held ≡ n - (n - keep)
  held_long =
      ap length h.held_is ∙ length-drop (first_kept keep (length samples)) samples
      ∙ omega (arith, h.count)

  first_more : first_kept keep (n + 1) ≡ first_kept keep n + k
  first_more = omega (arith, h.leaving_is, held_long, h.kept, h.least)

  front_of : front ≡ drop (first_kept keep (n + 1)) samples
  front_of =
      h.front_is ∙ ap (drop k) h.held_is ∙ drop-drop k (first_kept keep (length samples)) samples
      ∙ ap (λ j. drop j samples) (ap (λ j. first_kept keep j + k) h.count ∙ sym first_more)

  pub items_of : items ≡ last_samples keep (samples ++ sample ∷ [])
  items_of =
      let more = length-append samples (sample ∷ []) in
      let all : n + 1 ≡ length (samples ++ sample ∷ []) = omega (arith, more, h.count) in
      h.items_are ∙ ap (λ list. list ++ sample ∷ []) front_of
      ∙ sym (dropped_behind (first_kept keep (n + 1)) samples sample (omega (arith, h.count, h.kept, h.least)))
      ∙ ap (λ j. drop (first_kept keep j) (samples ++ sample ∷ [])) all

  front_long : length front ≡ n - first_kept keep (n + 1)
  front_long = ap length front_of ∙ length-drop (first_kept keep (n + 1)) samples ∙ omega (arith, h.count)

  pub items_long : length items ≡ length front + 1
  items_long = ap length h.items_are ∙ length-append front (sample ∷ [])

  pub live_more : live_windows keep m (n + 1) ≡ windows (length items) m
  live_more = omega (arith, items_long, front_long)

  live_front : live_windows keep m n ≡ windows (length held) m
  live_front = omega (arith, held_long)

  -- a column of the live windows, with those gone that leave
  pub before_last : (f : ℕ → Option Near) (old : Column) → old ≡ live_column f keep m n → (p : ℕ)
      → p < windows (length front) m → get_or (drop k old) p None ≡ f (first_kept keep (n + 1) + p)
  before_last f old e p lt =
      let left = ap length h.front_is ∙ length-drop k held in
      let below : k + p < live_windows keep m n = omega (arith, lt, left, live_front) in
      get_or-drop k old p None ∙ ap (λ list. get_or list (k + p) None) e
      ∙ columns_have_places.at_place (λ q. f (first_kept keep n + q)) (live_windows keep m n) (k + p) below
      ∙ ap f (omega (arith, first_more))

  -- the windows of the items are the last ones of all samples
  are_last : (free : List Bool) → m ≤ length items
      → ((i : ℕ) → i < windows (length items) m → get_or free i false ≡ is_free m (series_of items) i)
      → AreLast keep m (series_of samples) (reading_of sample) (numbers_in (samples ++ sample ∷ []))
      (first_kept keep (n + 1)) (last_place m items) free (distance_from m (numbers_in items) (last_place m items))
  are_last free long frees =
      let first = first_kept keep (n + 1) in
      let w = last_place m items in
      let all = samples ++ sample ∷ [] in
      let many = length-map samples reading_of in
      let whole : length all ≡ n + 1 = length-append samples (sample ∷ []) ∙ ap (λ j. j + 1) h.count in
      let shifted : items ≡ drop first all = items_of ∙ ap (λ j. drop (first_kept keep j) all) whole in
      record {
        long = omega (arith, many, h.count, long, items_long, front_long);
        numbers = subst (λ a. AreNumbers a (numbers_in all)) (series_with samples sample) (numbers_are all);
        last = omega (arith, many, h.count, long, items_long, front_long);
        band = omega (arith, long, items_long, front_long);
        whole = λ j lt. omega (arith, lt, long, items_long, front_long);
        frees = λ p lt. frees p (omega (arith, lt, long, h.least))
            ∙ ap (λ a. is_free m a p) (ap series_of shifted ∙ series_behind first all)
            ∙ free_behind first m (series_of all) p
            ∙ ap (λ a. is_free m a (first + p)) (series_with samples sample);
        dists = λ p lt. ap (λ xs. distance_from m xs w p) (ap numbers_in shifted ∙ numbers_behind first all)
            ∙ sum_behind first (numbers_in all) m p w;
      }

  -- the columns with the last window
  pub right_grows : (old : Column) (before after : GrowingProfile)
      → old ≡ live_column (right_entry (is_allowed_in keep m) m (series_of samples)) keep m n
      → before.entries.profile.right ≡ drop k old → length before.entries.profile.right ≡ windows (length front) m
      → before.entries.profile.first ≡ Some (first_kept keep (n + 1)) → m ≤ length items
      → HasRowOf m items after → IsAdded m items before after
      → after.entries.profile.right
      ≡ live_column (right_entry (is_allowed_in keep m) m (series_of (samples ++ sample ∷ []))) keep m (n + 1)
  right_grows old before after e right_is places first_is long row added =
      let first = first_kept keep (n + 1) in
      let w = last_place m items in
      let right = before.entries.profile.right in
      let free = after.free.items in
      let dist = distance_from m (numbers_in items) w in
      let here : length right ≡ w = omega (arith, places, items_long) in
      let is_last = are_last free long row.free in
      let last_free : is_free m (series_of items) w ≡ get_or free w false =
      sym (row.free w (omega (arith, long, h.least))) in
      let taken : IsTaken free dist (first + w) 0 (offered_before (get_or free w false) m w) (right ++ None ∷ [])
      after.entries.profile.right =
      subst (λ t. IsTaken free dist (first + w) 0 (offered_before t m w) (right ++ None ∷ [])
      after.entries.profile.right) last_free
      (subst (λ f. IsTaken free dist (numbered f w) 0 (offered_in m items) (right ++ None ∷ [])
      after.entries.profile.right) first_is added.right) in
      column_is
      (λ p. right_entry (is_allowed_in keep m) m (series_of (samples ++ sample ∷ [])) (first + p))
      (live_windows keep m (n + 1)) after.entries.profile.right
      (taken.places ∙ length-append right (None ∷ []) ∙ omega (arith, here, live_more, long))
      (λ p lt. rights_after keep m (series_of samples) (reading_of sample) (numbers_in (samples ++ sample ∷ [])) first w
      free dist is_last (right ++ None ∷ []) after.entries.profile.right taken
      (λ q less. pushed_before right q (omega (arith, less, here)) ∙ ap (λ list. get_or list q None) right_is
      ∙ before_last (right_entry (is_allowed_in keep m) m (series_of samples)) old e q
      (omega (arith, less, here, places)))
      (pushed_last right w here) p (omega (arith, lt, live_more, long))
      ∙ ap (λ a. right_entry (is_allowed_in keep m) m a (first + p)) (sym (series_with samples sample)))

  pub left_grows : (old : Column) (before after : GrowingProfile)
      → old ≡ live_column (left_entry (is_allowed_in keep m) m (series_of samples)) keep m n
      → before.entries.profile.left ≡ drop k old → length before.entries.profile.left ≡ windows (length front) m
      → before.entries.profile.first ≡ Some (first_kept keep (n + 1)) → m ≤ length items
      → HasRowOf m items after → IsAdded m items before after
      → after.entries.profile.left
      ≡ live_column (left_entry (is_allowed_in keep m) m (series_of (samples ++ sample ∷ []))) keep m (n + 1)
  left_grows old before after e left_is places first_is long row added =
      let first = first_kept keep (n + 1) in
      let w = last_place m items in
      let left = before.entries.profile.left in
      let new = after.entries.profile.left in
      let free = after.free.items in
      let dist = distance_from m (numbers_in items) w in
      let may = is_allowed_in keep m in
      let here : length left ≡ w = omega (arith, places, items_long) in
      let is_last = are_last free long row.free in
      let last_free : is_free m (series_of items) w ≡ get_or free w false =
      sym (row.free w (omega (arith, long, h.least))) in
      let grown = left ++ None ∷ [] in
      let best = renumbered (Some first) (near (row_candidate free dist) (offered_before (get_or free w false) m w)) in
      let written : new ≡ with_best grown w best =
      added.left
      ∙ ap (λ f. with_best grown w (renumbered f (near (row_candidate free dist) (offered_in m items)))) first_is
      ∙ ap (λ t. with_best grown w (renumbered (Some first) (near (row_candidate free dist) (offered_before t m w))))
      last_free in
      let more = length-append left (None ∷ []) in
      let same = series_with samples sample in
      written
      ∙ column_is (λ p. left_entry may m (series_of (samples ++ sample ∷ [])) (first + p)) (live_windows keep m (n + 1))
      (with_best grown w best) (best_long grown w best ∙ more ∙ omega (arith, here, live_more, long))
      (λ p lt. elim (cases_lt p w) [
        | inl less ↦ best_other grown w p best (λ at. omega (arith, at, less))
            ∙ pushed_before left p (omega (arith, less, here)) ∙ ap (λ list. get_or list p None) left_is
            ∙ before_last (left_entry may m (series_of samples)) old e p (omega (arith, less, here, places))
            ∙ sym (left_before keep m (series_of samples) (reading_of sample)
            (numbers_in (samples ++ sample ∷ [])) first
            w free dist is_last p less)
            ∙ ap (λ a. left_entry may m a (first + p)) (sym same)
        | inr ge ↦ let at : w ≡ p = omega (arith, ge, lt, live_more, long) in
            subst (λ q. get_or (with_best grown w best) q None
            ≡ left_entry may m (series_of (samples ++ sample ∷ [])) (first + q)) at
            (best_here grown w best (omega (arith, more, here)) (pushed_last left w here)
            ∙ sym (left_of_last keep m (series_of samples) (reading_of sample) (numbers_in (samples ++ sample ∷ []))
            first w free dist is_last)
            ∙ ap (λ a. left_entry may m a (first + w)) (sym same))
      ])

  -- where there is no window yet
  pub none_grow : (f : ℕ → Option Near) (new : Column) → length items < m → length new ≡ windows (length items) m
      → new ≡ live_column f keep m (n + 1)
  none_grow f new short places =
      column_is (λ p. f (first_kept keep (n + 1) + p)) (live_windows keep m (n + 1)) new (places ∙ sym live_more)
      (λ p lt. absurd (omega (arith, lt, live_more, short)))

-- ---- stores

-- what is seen of a store
abbrev pub seen_of : ℕ → ℕ → Held → GrowingProfile → Keeping
seen_of m keep ring growing = record {
  held = ring.items;
  count = length ring.items + ring.dropped;
  m = m;
  keep = keep;
  all = merged_column growing.entries.profile.left growing.entries.profile.right;
  left = growing.entries.profile.left;
  right = growing.entries.profile.right;
  reads = ring.reads;
}

-- the number of the first window once there is room for one sample more
first_after : (keep held dropped : ℕ) → held ≤ keep → (held < keep → dropped ≡ 0) → 1 ≤ keep
    → dropped + (held + 1 - keep) ≡ held + dropped + 1 - keep
first_after keep held dropped le few some = elim (cases_lt held keep) [
  | inl less ↦ omega (arith, few less, less)
  | inr ge ↦ omega (arith, ge, le)
]

-- how many samples are there in all, and how many are held
long_after : (keep held dropped : ℕ) → held ≤ keep → 1 ≤ keep
    → held + dropped + 1 ≡ held - (held + 1 - keep) + 1 + (dropped + (held + 1 - keep))
long_after keep held dropped le some = omega (arith, le, some)

pub stands_next : (m keep : ℕ) (ring next : Held) (growing roomy after : GrowingProfile) (sample : Sample)
    (samples : List Sample) → IsKept m keep ring growing
    → next.items ≡ drop (leaving keep ring.items) ring.items ++ sample ∷ []
    → next.dropped ≡ ring.dropped + leaving keep ring.items
    → roomy.entries.profile.left ≡ drop (leaving keep ring.items) growing.entries.profile.left
    → roomy.entries.profile.right ≡ drop (leaving keep ring.items) growing.entries.profile.right
    → IsOfLast m (drop (leaving keep ring.items) ring.items) (ring.dropped + leaving keep ring.items) roomy
    → IsOfLast m next.items next.dropped after → (m ≤ length next.items → IsAdded m next.items roomy after)
    → StandsFor samples (seen_of m keep ring growing)
    → StandsFor (samples ++ sample ∷ []) (seen_of m keep next after)
stands_next m keep ring next growing roomy after sample samples kept items_are dropped_is left_is right_is is_roomy
    is_of added h =
    let held = ring.items in
    let k = leaving keep held in
    let n = length held + ring.dropped in
    let front = drop k held in
    let first = first_kept keep (n + 1) in
    let is_next : IsNext keep m n k samples held front next.items sample = record {
      least = omega (arith, kept.shortest);
      kept = kept.least;
      count = h.count;
      held_is = h.held;
      leaving_is = refl;
      front_is = refl;
      items_are = items_are;
    } in
    let some : 1 ≤ keep = omega (arith, kept.shortest, kept.least) in
    let first_is : roomy.entries.profile.first ≡ Some first =
    is_roomy.first ∙ ap Some (first_after keep (length held) ring.dropped kept.held kept.dropped some) in
    let count : n + 1 ≡ length next.items + next.dropped =
    long_after keep (length held) ring.dropped kept.held some
    ∙ omega (
      arith,
      items_long keep m n k samples held front next.items sample is_next,
      length-drop k held,
      dropped_is,
    ) in
    let more = length-append samples (sample ∷ []) in
    let a = series_of (samples ++ sample ∷ []) in
    let right : after.entries.profile.right ≡ live_column (right_entry (is_allowed_in keep m) m a) keep m (n + 1) =
    elim (cases_lt (length next.items) m) [
      | inl short ↦ none_grow keep m n k samples held front next.items sample is_next
          (right_entry (is_allowed_in keep m) m a) after.entries.profile.right short is_of.rights
      | inr long ↦ right_grows keep m n k samples held front next.items sample is_next
          growing.entries.profile.right roomy after h.right right_is is_roomy.rights first_is long is_of.row
          (added long)
    ] in
    let left : after.entries.profile.left ≡ live_column (left_entry (is_allowed_in keep m) m a) keep m (n + 1) =
    elim (cases_lt (length next.items) m) [
      | inl short ↦ none_grow keep m n k samples held front next.items sample is_next
          (left_entry (is_allowed_in keep m) m a) after.entries.profile.left short is_of.lefts
      | inr long ↦ left_grows keep m n k samples held front next.items sample is_next
          growing.entries.profile.left roomy after h.left left_is is_roomy.lefts first_is long is_of.row (added long)
    ] in
    let both = live_entries keep m (n + 1) (samples ++ sample ∷ []) after.entries.profile.left
    after.entries.profile.right left right in
    record {
      count = more ∙ ap (λ j. j + 1) h.count ∙ count;
      held = items_of keep m n k samples held front next.items sample is_next;
      all = subst (λ j. merged_column after.entries.profile.left after.entries.profile.right
          ≡ live_column (entry (is_allowed_in keep m) m a) keep m j) count both;
      left = subst (λ j. after.entries.profile.left ≡ live_column (left_entry (is_allowed_in keep m) m a) keep m j)
          count
          left;
      right = subst (λ j. after.entries.profile.right ≡ live_column (right_entry (is_allowed_in keep m) m a) keep m j)
          count right;
    }

-- how often samples were read is no matter
pub stands_read : (m keep : ℕ) (ring next : Held) (growing : GrowingProfile) (samples : List Sample)
    → next.items ≡ ring.items → next.dropped ≡ ring.dropped → StandsFor samples (seen_of m keep ring growing)
    → StandsFor samples (seen_of m keep next growing)
stands_read m keep ring next growing samples e f h =
    let seen : List Sample → ℕ → Keeping = λ items dropped. record {
      held = items;
      count = length items + dropped;
      m = m;
      keep = keep;
      all = merged_column growing.entries.profile.left growing.entries.profile.right;
      left = growing.entries.profile.left;
      right = growing.entries.profile.right;
      reads = next.reads;
    } in
    subst (λ items. StandsFor samples (seen items next.dropped)) (sym e)
    (subst (λ dropped. StandsFor samples (seen ring.items dropped)) (sym f)
    (record { count = h.count; held = h.held; all = h.all; left = h.left; right = h.right }))

-- a sample that was pushed
pub pushed_items : (keep capacity : ℕ) (items : List Sample) (sample : Sample) → capacity ≡ keep
    → length items ≤ keep → 1 ≤ keep
    → drop (length (items ++ sample ∷ []) - capacity) (items ++ sample ∷ [])
    ≡ drop (leaving keep items) items ++ sample ∷ []
pushed_items keep capacity items sample same held some =
    let k : length (items ++ sample ∷ []) - capacity ≡ leaving keep items =
    omega (arith, length-append items (sample ∷ []), same) in
    ap (λ n. drop n (items ++ sample ∷ [])) k
    ∙ dropped_behind (leaving keep items) items sample (omega (arith, held, some))

pub pushed_dropped : (keep before after dropped now : ℕ) → before ≤ keep → 1 ≤ keep
    → after ≡ before - (before + 1 - keep) + 1 → after + now ≡ before + dropped + 1
    → now ≡ dropped + (before + 1 - keep)
pushed_dropped keep before after dropped now held some e f = omega (arith, held, some, e, f)

-- the first window that is kept, and how many are
pub first_is : (m keep : ℕ) (ring : Held) (growing : GrowingProfile) → IsKept m keep ring growing
    → ring.dropped ≡ first_kept keep (length ring.items + ring.dropped)
first_is m keep ring growing kept = elim (cases_lt (length ring.items) keep) [
  | inl less ↦ omega (arith, kept.dropped less, less)
  | inr ge ↦ omega (arith, ge, kept.held)
]

pub live_is : (m keep : ℕ) (ring : Held) (growing : GrowingProfile) → IsKept m keep ring growing
    → windows (length ring.items) m ≡ live_windows keep m (length ring.items + ring.dropped)
live_is m keep ring growing kept =
    omega (arith, first_is m keep ring growing kept, kept.held, kept.least)

-- the room for windows
pub room_after : (need front front' items items' before after : ℕ) → need ≤ front + before
    → before + front' ≤ after + items → front' ≡ front → items' ≡ items → need ≤ items' + after
room_after need front front' items items' before after h k e f = omega (arith, h, k, e, f)

-- what is kept with one sample more
pub kept_next : (m keep : ℕ) (ring next : Held) (growing after : GrowingProfile) → IsKept m keep ring growing
    → next.capacity ≡ ring.capacity → length next.items ≡ length ring.items - leaving keep ring.items + 1
    → next.dropped ≡ ring.dropped + leaving keep ring.items → length ring.items + ring.dropped < max_appended
    → IsOfLast m next.items next.dropped after → windows keep m ≤ windows (length next.items) m + room_of after
    → IsKept m keep next after
kept_next m keep ring next growing after kept capacity long dropped few is_of room = record {
  shortest = kept.shortest;
  longest = kept.longest;
  least = kept.least;
  greatest = kept.greatest;
  capacity = capacity ∙ kept.capacity;
  held = omega (arith, long, kept.held, kept.least, kept.shortest);
  dropped = λ less.
      let before : length ring.items < keep = omega (arith, less, long, kept.held, kept.least, kept.shortest) in
      omega (arith, dropped, kept.dropped before, before);
  appended = omega (arith, long, dropped, few, kept.held, kept.least, kept.shortest);
  is_of = is_of;
  room = room;
}

none_at_first : (f : ℕ → Option Near) (keep m : ℕ) (new : Column) → 1 ≤ m → length new ≡ windows 0 m
    → new ≡ live_column f keep m 0
none_at_first f keep m new least places =
    column_is (λ p. f (first_kept keep 0 + p)) (live_windows keep m 0) new (omega (arith, places))
    (λ p lt. absurd (omega (arith, lt, least)))

-- a store of which nothing is held stands for the empty list
pub stands_first : (m keep : ℕ) (ring : Held) (growing : GrowingProfile) → 1 ≤ m → ring.items ≡ [] → ring.dropped ≡ 0
    → IsOfLast m [] 0 growing → StandsFor [] (seen_of m keep ring growing)
stands_first m keep ring growing least none no_drop h =
    let count : 0 ≡ length ring.items + ring.dropped = omega (arith, ap length none, no_drop) in
    let a = series_of [] in
    let left = none_at_first (left_entry (is_allowed_in keep m) m a) keep m growing.entries.profile.left least
    h.lefts in
    let right = none_at_first (right_entry (is_allowed_in keep m) m a) keep m growing.entries.profile.right least
    h.rights in
    record {
      count = count;
      held = none ∙ nothing keep;
      all = subst (λ j. merged_column growing.entries.profile.left growing.entries.profile.right
          ≡ live_column (entry (is_allowed_in keep m) m a) keep m j) count
          (live_entries keep m 0 [] growing.entries.profile.left growing.entries.profile.right left right);
      left = subst (λ j. growing.entries.profile.left ≡ live_column (left_entry (is_allowed_in keep m) m a) keep m j)
          count left;
      right = subst (λ j. growing.entries.profile.right ≡ live_column (right_entry (is_allowed_in keep m) m a) keep m j)
          count right;
    }
  where
    nothing : (keep : ℕ) → [] ≡ last_samples keep []
    nothing keep =
        let none : 0 - keep ≡ 0 = omega arith in
        sym (ap (λ (k : ℕ). drop {A = Sample} k []) none)
