-- What a store keeps of its windows, with the first one less and with one more.
use Rattle.std.proofs.Common.{◌≡◌, ℕ, ◌+◌, ◌^◌, ◌<◌, ◌≤◌, inl, inr, List, [], ◌∷◌, ◌++◌, length, get_or, drop}
use Rattle.std.proofs.Common.{Bool, true, false, sym, ap, ◌∙◌, arith, subst}
use Rattle.std.specs.Prelude.{Option, Some, None, pos, if◌then◌else◌}
use Rattle.std.proofs.lemmas.Bool.{cases_lt}
use Rattle.std.proofs.lemmas.Grind.{get_or_after_one}
use Rattle.std.proofs.lemmas.List.{length-append, length-drop}
use Rattle.mp_nums.specs.declared.nearest.Near.{Near}
use Rattle.mp_nums.specs.declared.samples.Sample.{Sample}
use Rattle.mp_nums.specs.Near.{nearer_of}
use Rattle.mp_defs.specs.Limits.{max_window}
use Rattle.mp_defs.specs.Series.{series_of}
use Rattle.mp_defs.specs.Window.{is_free, windows}
use Rattle.mp_defs.specs.Least.{near, near_at}
use Rattle.mp_series.specs.Samples.{numbers_in}
use Rattle.mp_sums.specs.Ranges.{AreWithin, IsInRange, SumsFit}
use Rattle.mp_sums.specs.declared.ranges.Range.{Range}
use Rattle.mp_stream.specs.Blocks.{numbered, renumbered}
use Rattle.mp_stream.specs.Limits.{limit_by, StartsAtMost, AllStartAtMost, AreLimits}
use Rattle.mp_stream.specs.Rows.{HavePlaces, IsRow, IsTaken, distance_from, last_place, offered_before}
use Rattle.mp_stream.specs.Rows.{row_candidate, sum_at, with_best}
use Rattle.mp_stream.specs.Streams.{HasRowOf, IsDropped, IsGrown, IsOffered, IsWaiting, without_last}
use Rattle.mp_stream.specs.KeptProfiles.{IsAdded, IsOfLast, offered_in}
use Rattle.mp_stream.specs.declared.profiles.GrowingProfile.{GrowingProfile}
use Rattle.mp_stream.proofs.Growing.{IsSplit, best_long, grown_waits, pushed_before, pushed_from, row_grows}
use Rattle.mp_stream.proofs.ShiftLemmas.{free_behind, numbers_behind, series_behind, sum_behind}
use Rattle.mp_stream.proofs.Taken.{nearer_starts, starts_more}

-- ---- one window less

limits_drop : (limit : Option Near → ℕ) (right : List (Option Near)) (limits : List ℕ) → AreLimits limit right limits
    → AreLimits limit (drop 1 right) (drop 1 limits)
limits_drop limit right limits h = record {
  places = omega (arith, length-drop 1 limits, length-drop 1 right, h.places);
  each = λ i lt. get_or_after_one limits i 0 ∙ h.each (1 + i) (omega (arith, lt, length-drop 1 right))
      ∙ ap limit (sym (get_or_after_one right i None));
}

range_drops : (range : Range) (items : List Sample) → AreWithin range (numbers_in items)
    → AreWithin range (numbers_in (drop 1 items))
range_drops range items h =
    subst (AreWithin range) (sym (numbers_behind 1 items))
    (λ k lt. subst (IsInRange range) (sym (get_or_after_one (numbers_in items) k (pos 0)))
    (h (1 + k) (omega (arith, lt, length-drop 1 (numbers_in items)))))

row_of_drops : (m : ℕ) (items : List Sample) (sums : List ℕ) → 1 ≤ m → m ≤ length items
    → length sums ≡ windows (length items) m → IsRow (numbers_in items) m (last_place m items) sums
    → IsRow (numbers_in (drop 1 items)) m (last_place m (drop 1 items)) (drop 1 sums)
row_of_drops m items sums least long places h i lt =
    let xs = numbers_in items in
    let fewer = length-drop 1 items in
    let last : 1 + last_place m (drop 1 items) ≡ last_place m items =
    omega (arith, lt, length-drop 1 sums, places, fewer) in
    get_or_after_one sums i 0 ∙ h (1 + i) (omega (arith, lt, length-drop 1 sums))
    ∙ ap (sum_at xs m (1 + i)) (sym last)
    ∙ sym (sum_behind 1 xs m i (last_place m (drop 1 items)))
    ∙ ap (λ list. sum_at list m i (last_place m (drop 1 items))) (sym (numbers_behind 1 items))

places_drop : (m : ℕ) (items : List Sample) (sums next new new' : List ℕ) → new ≡ drop 1 sums → new' ≡ drop 1 next
    → 1 ≤ m → m ≤ length items → HavePlaces (windows (length items) m) sums next
    → HavePlaces (windows (length (drop 1 items)) m) new new'
places_drop m items sums next new new' e f least long h = record {
  sums_are = ap length e ∙ omega (arith, length-drop 1 sums, h.sums_are, length-drop 1 items);
  next_are = ap length f ∙ omega (arith, length-drop 1 next, h.next_are, length-drop 1 items);
}

pub row_drops : (m : ℕ) (items : List Sample) (old new : GrowingProfile) → 1 ≤ m → m ≤ length items
    → HasRowOf m items old → IsDropped old new → HasRowOf m (drop 1 items) new
row_drops m items old new least long h gone =
    let fewer = length-drop 1 items in
    record {
      frees = ap length gone.free ∙ omega (arith, length-drop 1 old.free.items, h.frees, fewer);
      free = λ i lt. ap (λ list. get_or list i false) gone.free ∙ get_or_after_one old.free.items i false
          ∙ h.free (1 + i) (omega (arith, lt, fewer, least)) ∙ sym (free_behind 1 m (series_of items) i)
          ∙ ap (λ a. is_free m a i) (sym (series_behind 1 items));
      range = subst (λ r. AreWithin r (numbers_in (drop 1 items))) (sym gone.range)
          (range_drops old.range items h.range);
      limits = subst (λ t. AreLimits (limit_by t) new.entries.profile.right new.entries.limits.items)
          (sym gone.is_narrow)
          (subst (λ column. AreLimits (limit_by old.is_narrow) column new.entries.limits.items) (sym gone.right)
          (subst (AreLimits (limit_by old.is_narrow) (drop 1 old.entries.profile.right)) (sym gone.limits)
          (limits_drop (limit_by old.is_narrow) old.entries.profile.right old.entries.limits.items h.limits)));
      rows = record {
        narrow = places_drop m items _ _ _ _ gone.narrow gone.narrow_next least long h.rows.narrow;
        wide = places_drop m items _ _ _ _ gone.wide gone.wide_next least long h.rows.wide;
      };
      fits = λ is. subst (SumsFit m 63) (sym gone.range) (h.fits (sym gone.is_narrow ∙ is));
      narrow = λ is. subst (IsRow (numbers_in (drop 1 items)) m (last_place m (drop 1 items))) (sym gone.narrow)
          (row_of_drops m items old.narrow.sums.items least long h.rows.narrow.sums_are
          (h.narrow (sym gone.is_narrow ∙ is)));
      wide = λ is. subst (IsRow (numbers_in (drop 1 items)) m (last_place m (drop 1 items))) (sym gone.wide)
          (row_of_drops m items old.wide.sums.items least long h.rows.wide.sums_are
          (h.wide (sym gone.is_narrow ∙ is)));
    }

pub last_drops : (m : ℕ) (items : List Sample) (dropped : ℕ) (old new : GrowingProfile) → 1 ≤ m → m ≤ length items
    → IsOfLast m items dropped old → IsDropped old new → IsOfLast m (drop 1 items) (dropped + 1) new
last_drops m items dropped old new least long h gone =
    let fewer = length-drop 1 items in
    let same : dropped + windows (length items) m ≡ dropped + 1 + windows (length (drop 1 items)) m =
    omega (arith, fewer, long) in
    record {
      first = gone.first ∙ ap (λ first. Some (numbered first 1)) h.first;
      lefts = ap length gone.left ∙ omega (arith, length-drop 1 old.entries.profile.left, h.lefts, fewer);
      rights = ap length gone.right ∙ omega (arith, length-drop 1 old.entries.profile.right, h.rights, fewer);
      starts = subst (λ n. AllStartAtMost n new.entries.profile.right) same
          (subst (AllStartAtMost (dropped + windows (length items) m)) (sym gone.right)
          (λ i. subst (StartsAtMost (dropped + windows (length items) m))
          (sym (get_or_after_one old.entries.profile.right i None)) (h.starts (1 + i))));
      row = row_drops m items old new least long h.row gone;
    }

-- where nothing is dropped, or the first window is
pub last_without : (m k : ℕ) (items : List Sample) (dropped : ℕ) (growing : GrowingProfile) → k ≡ 0
    → IsOfLast m items dropped growing → IsOfLast m (drop k items) (dropped + k) growing
last_without m k items dropped growing none h =
    let same : dropped ≡ dropped + 0 = omega arith in
    subst (λ n. IsOfLast m (drop n items) (dropped + n) growing) (sym none)
    (subst (λ d. IsOfLast m items d growing) same h)

pub last_without_first : (m k : ℕ) (items : List Sample) (dropped : ℕ) (growing : GrowingProfile) → k ≡ 1
    → IsOfLast m (drop 1 items) (dropped + 1) growing → IsOfLast m (drop k items) (dropped + k) growing
last_without_first m k items dropped growing one h =
    subst (λ n. IsOfLast m (drop n items) (dropped + n) growing) (sym one) h

-- ---- one window more

starts_pushed : (j : ℕ) (column : List (Option Near)) → AllStartAtMost j column
    → AllStartAtMost j (column ++ None ∷ [])
starts_pushed j column h i = elim (cases_lt i (length column)) [
  | inl less ↦ subst (StartsAtMost j) (sym (pushed_before column i less)) (h i)
  | inr ge ↦ subst (StartsAtMost j) (sym (pushed_from column i ge)) tt
]

lowered_starts : (t : Bool) (old : Option Near) (d j : ℕ) → StartsAtMost j old
    → StartsAtMost j (if t then nearer_of old (Some (near_at j d)) else old)
lowered_starts true old d j h = nearer_starts old d j h
lowered_starts false old d j h = h

taken_starts : (free : List Bool) (dist : ℕ → ℕ) (j end : ℕ) (old new : List (Option Near))
    → IsTaken free dist j 0 end old new → AllStartAtMost j old → AllStartAtMost j new
taken_starts free dist j end old new taken h i = elim (cases_lt i end) [
  | inl less ↦ subst (StartsAtMost j) (sym (taken.within i (omega arith) less))
      (lowered_starts (get_or free i false) (get_or old i None) (dist i) j (h i))
  | inr ge ↦ subst (StartsAtMost j) (sym (taken.behind i ge)) (h i)
]

pub last_waits : (m : ℕ) (items : List Sample) (dropped : ℕ) (last_free : Bool) (before grown : GrowingProfile)
    → 3 ≤ m → m ≤ max_window → m ≤ length items → length items + dropped < 2 ^ 63
    → IsOfLast m (without_last items) dropped before → IsSplit m items → IsGrown last_free before grown
    → AreWithin before.range (numbers_in items) → IsWaiting m (numbers_in items) (last_place m items) grown
last_waits m items dropped last_free before grown least width long few h split grown_is range =
    let w = last_place m items in
    let right = before.entries.profile.right in
    grown_waits m items last_free before grown least width long h.row split grown_is (h.rights ∙ split.front)
    (subst (λ first. numbered first w < 2 ^ 64) (sym h.first) (omega (arith, few)))
    (subst (λ first. AllStartAtMost (numbered first w) (right ++ None ∷ [])) (sym h.first)
    (starts_pushed (dropped + w) right (subst (λ n. AllStartAtMost (dropped + n) right) split.front h.starts))) range

pub last_grows : (m : ℕ) (items : List Sample) (dropped : ℕ) (last_free : Bool) (before grown after : GrowingProfile)
    → IsOfLast m (without_last items) dropped before → IsSplit m items → IsGrown last_free before grown
    → IsOffered m (numbers_in items) (last_place m items) last_free grown after
    → last_free ≡ is_free m (series_of items) (last_place m items)
    → IsWaiting m (numbers_in items) (last_place m items) grown → IsOfLast m items dropped after
last_grows m items dropped last_free before grown after h split grown_is offered last waiting =
    let w = last_place m items in
    let right = before.entries.profile.right in
    let number : grown.entries.profile.first ≡ Some dropped = grown_is.first ∙ h.first in
    let taken = subst (λ first. IsTaken grown.free.items (distance_from m (numbers_in items) w) (numbered first w) 0
    (offered_before last_free m w) grown.entries.profile.right after.entries.profile.right) number offered.right in
    let starts : AllStartAtMost (dropped + w) grown.entries.profile.right =
    subst (λ first. AllStartAtMost (numbered first w) grown.entries.profile.right) number waiting.ready.starts in
    let more : dropped + w ≤ dropped + windows (length items) m = omega (arith, split.more) in
    record {
      first = offered.first ∙ number;
      lefts = ap length offered.left ∙ best_long grown.entries.profile.left w _ ∙ ap length grown_is.left
          ∙ length-append before.entries.profile.left (None ∷ []) ∙ ap (λ n. n + 1) (h.lefts ∙ split.front)
          ∙ sym split.more;
      rights = offered.right.places ∙ ap length grown_is.right ∙ length-append right (None ∷ [])
          ∙ ap (λ n. n + 1) (h.rights ∙ split.front) ∙ sym split.more;
      starts = λ i. starts_more (get_or after.entries.profile.right i None) (dropped + w)
          (dropped + windows (length items) m) more
          (taken_starts grown.free.items (distance_from m (numbers_in items) w) (dropped + w)
          (offered_before last_free m w) grown.entries.profile.right after.entries.profile.right taken starts i);
      row = row_grows m items last_free before grown after h.row split grown_is offered last waiting;
    }

pub last_added : (m : ℕ) (items : List Sample) (last_free : Bool) (before grown after : GrowingProfile)
    → IsGrown last_free before grown → IsOffered m (numbers_in items) (last_place m items) last_free grown after
    → last_free ≡ is_free m (series_of items) (last_place m items) → IsAdded m items before after
last_added m items last_free before grown after grown_is offered last =
    let w = last_place m items in
    let dist = distance_from m (numbers_in items) w in
    let new = after.entries.profile in
    let frees : grown.free.items ≡ after.free.items = ap (λ free. free.items) (sym offered.free) in
    record {
      right = subst (λ column. IsTaken after.free.items dist (numbered before.entries.profile.first w) 0
          (offered_in m items) column new.right) grown_is.right
          (subst (λ first. IsTaken after.free.items dist (numbered first w) 0 (offered_in m items)
          grown.entries.profile.right new.right) grown_is.first
          (subst (λ t. IsTaken after.free.items dist (numbered grown.entries.profile.first w) 0 (offered_before t m w)
          grown.entries.profile.right new.right) last
          (subst (λ free. IsTaken free dist (numbered grown.entries.profile.first w) 0 (offered_before last_free m w)
          grown.entries.profile.right new.right) frees offered.right)));
      left = offered.left
          ∙ ap (λ free. with_best grown.entries.profile.left w (renumbered grown.entries.profile.first
          (near (row_candidate free dist) (offered_before last_free m w)))) frees
          ∙ ap (λ t. with_best grown.entries.profile.left w (renumbered grown.entries.profile.first
          (near (row_candidate after.free.items dist) (offered_before t m w)))) last
          ∙ ap (λ first. with_best grown.entries.profile.left w (renumbered first
          (near (row_candidate after.free.items dist) (offered_in m items)))) grown_is.first
          ∙ ap (λ column. with_best column w (renumbered before.entries.profile.first
          (near (row_candidate after.free.items dist) (offered_in m items)))) grown_is.left;
    }

-- ---- a sample without a window

pub last_stays : (m : ℕ) (items : List Sample) (dropped : ℕ) (growing : GrowingProfile)
    → windows (length (without_last items)) m ≡ windows (length items) m → HasRowOf m items growing
    → IsOfLast m (without_last items) dropped growing → IsOfLast m items dropped growing
last_stays m items dropped growing same row h = record {
  first = h.first;
  lefts = h.lefts ∙ same;
  rights = h.rights ∙ same;
  starts = subst (λ n. AllStartAtMost (dropped + n) growing.entries.profile.right) same h.starts;
  row = row;
}

-- with the range of one sample more
pub last_covered : (m : ℕ) (items : List Sample) (dropped : ℕ) (before after : GrowingProfile)
    → after.entries.profile ≡ before.entries.profile → HasRowOf m items after → IsOfLast m items dropped before
    → IsOfLast m items dropped after
last_covered m items dropped before after same row h = record {
  first = ap (λ profile. profile.first) same ∙ h.first;
  lefts = ap (λ profile. length profile.left) same ∙ h.lefts;
  rights = ap (λ profile. length profile.right) same ∙ h.rights;
  starts = subst (AllStartAtMost (dropped + windows (length items) m)) (ap (λ profile. profile.right) (sym same))
      h.starts;
  row = row;
}

-- a window that was added to what has the same nearest windows
pub added_as : (m : ℕ) (items : List Sample) (old other new : GrowingProfile)
    → old.entries.profile ≡ other.entries.profile → IsAdded m items old new → IsAdded m items other new
added_as m items old other new same h = record {
  right = subst (λ profile. IsTaken new.free.items (distance_from m (numbers_in items) (last_place m items))
      (numbered profile.first (last_place m items)) 0 (offered_in m items) (profile.right ++ None ∷ [])
      new.entries.profile.right) same h.right;
  left = h.left ∙ ap (λ profile. with_best (profile.left ++ None ∷ []) (last_place m items) (renumbered profile.first
      (near (row_candidate new.free.items (distance_from m (numbers_in items) (last_place m items)))
      (offered_in m items)))) same;
}
