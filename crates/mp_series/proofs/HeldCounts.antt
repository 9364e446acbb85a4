-- Counts of missing samples in a ring: one sample dropped, one more, and free windows.
use Rattle.std.proofs.Common.{◌≡◌, ℕ, zero, suc, ◌+◌, ◌-◌, ◌^◌, ◌<◌, ◌≤◌, List, [], ◌∷◌, ◌++◌, length, drop}
use Rattle.std.proofs.Common.{get_or, refl, sym, ap, ◌∙◌, arith, subst, below_more}
use Rattle.std.specs.Prelude.{◌==◌, slice_index_or, ℤ}
use Rattle.std.proofs.Math.ListN.{get_or-append}
use Rattle.std.proofs.Math.Seq.{get_or-append_seam}
use Rattle.std.proofs.lemmas.List.{map-append, length-append, length-drop, drop-map}
use Rattle.std.proofs.lemmas.Grind.{get_or_after_one}
use Rattle.std.proofs.lemmas.Bool.Decides.{nat_tests}
use Rattle.circular_buffer.specs.Buffer.{Buffer, buffer}
use Rattle.mp_nums.specs.declared.samples.Sample.{Sample}
use Rattle.mp_nums.specs.declared.samples.Sample.TheVariants.{Missing}
use Rattle.mp_defs.specs.Series.{series_of}
use Rattle.mp_defs.specs.Window.{is_free}
use Rattle.mp_defs.specs.Limits.{max_samples}
use Rattle.mp_series.specs.Samples.{number_in, numbers_in, gap_in, missing_before}
use Rattle.mp_series.specs.HeldSamples.{IsHeld}
use Rattle.mp_series.proofs.MissingCounts.{none_before, one_more, at_most, gap_at_most, before_stays, with_last}
use Rattle.mp_series.proofs.MissingCounts.{free_by_counts}

-- nothing is held, and nothing was dropped
pub held_none : (capacity : ℕ) → 0 < capacity → capacity ≤ max_samples
    → IsHeld (buffer [] capacity) (buffer [] capacity) 0 (buffer [] capacity) 0
held_none capacity some within = record {
  some_room = some;
  room_within = within;
  within = omega arith;
  pushed_within = omega arith;
  numbers_are = refl;
  numbers_room = refl;
  counted = refl;
  counts_room = refl;
  few_missing = omega arith;
  counts = none;
}
  where
    none : (k : ℕ) → k ≤ 0 → get_or (0 ∷ []) k 0 ≡ 0 + missing_before [] k
    none zero le = omega (arith, none_before [])
    none (suc k) le = omega (arith, le)

-- ---- the first is dropped

after_first : (items : List Sample) (k : ℕ)
    → missing_before items 1 + missing_before (drop 1 items) k ≡ missing_before items (k + 1)
after_first items zero = omega (arith, none_before (drop 1 items))
after_first items (suc k) =
    let one : k + 1 ≡ suc k = omega arith in
    let next : 1 + k ≡ k + 1 = omega arith in
    let same : gap_in (slice_index_or (drop 1 items) k Missing) ≡ gap_in (slice_index_or items (k + 1) Missing) =
    ap gap_in (get_or_after_one items k Missing ∙ ap (λ j. slice_index_or items j Missing) next) in
    subst (λ j. missing_before items 1 + missing_before (drop 1 items) j ≡ missing_before items (j + 1)) one
    (omega (arith, one_more (drop 1 items) k, one_more items (k + 1), same, after_first items k))

shifted : (xs : List ℕ) (k : ℕ) → get_or (get_or xs 0 0 ∷ drop 1 xs) k 0 ≡ get_or xs k 0
shifted xs zero = refl
shifted xs (suc k) =
    let next : 1 + k ≡ suc k = omega arith in
    get_or_after_one xs k 0 ∙ ap (λ j. get_or xs j 0) next

module _ (items : Buffer Sample) (numbers : Buffer ℤ) (gone : ℕ) (missing : Buffer ℕ) (dropped : ℕ)
    (h : IsHeld items numbers gone missing dropped) where
  with_held : (k : ℕ) → k < length items.items
      → get_or missing.items k 0 ≡ gone + missing_before items.items (k + 1)
  with_held k less =
      let one : k + 1 ≡ suc k = omega arith in
      subst (λ j. get_or (gone ∷ missing.items) j 0 ≡ gone + missing_before items.items (k + 1)) one
      (h.counts (k + 1) (omega (arith, less)))

  pub held_without_first : 0 < length items.items
      → IsHeld (buffer (drop 1 items.items) items.capacity) (buffer (drop 1 numbers.items) numbers.capacity)
      (get_or missing.items 0 0) (buffer (drop 1 missing.items) missing.capacity) (dropped + 1)
  held_without_first some =
      let long : length (drop 1 items.items) ≡ length items.items - 1 = length-drop 1 items.items in
      let begin : get_or missing.items 0 0 ≡ gone + missing_before items.items 1 = with_held 0 some in
      record {
        some_room = h.some_room;
        room_within = h.room_within;
        within = omega (arith, long, h.within);
        pushed_within = omega (arith, long, some, h.pushed_within);
        numbers_are = ap (λ xs. drop 1 xs) h.numbers_are ∙ drop-map number_in 1 items.items;
        numbers_room = h.numbers_room;
        counted = omega (arith, length-drop 1 missing.items, h.counted, long);
        counts_room = h.counts_room;
        few_missing = omega (arith, begin, at_most items.items 1, h.few_missing);
        counts = λ k le.
            shifted missing.items k ∙ with_held k (omega (arith, le, long, some))
            ∙ omega (arith, begin, after_first items.items k);
      }

  -- ---- one more

  pub fits_one_more : (sample : Sample) (gap : ℕ) → gap ≡ gap_in sample
      → length items.items + dropped < 2 ^ 64 - 1
      → get_or (gone ∷ missing.items) (length missing.items) 0 + gap < 2 ^ 64
  fits_one_more sample gap e within =
      let all : get_or (gone ∷ missing.items) (length missing.items) 0
      ≡ gone + missing_before items.items (length missing.items) =
      h.counts (length missing.items) (omega (arith, h.counted)) in
      omega (
        arith,
        all,
        at_most items.items (length missing.items),
        h.counted,
        h.few_missing,
        e,
        gap_at_most sample,
        within,
      )

  counts_with : (sample : Sample) (gap : ℕ) → gap ≡ gap_in sample
      → (k : ℕ) → k ≤ length items.items + 1
      → get_or (gone ∷ missing.items ++ (get_or (gone ∷ missing.items) (length missing.items) 0 + gap) ∷ []) k 0
      ≡ gone + missing_before (items.items ++ sample ∷ []) k
  counts_with sample gap e k le =
      let last = get_or (gone ∷ missing.items) (length missing.items) 0 + gap in
      let all : get_or (gone ∷ missing.items) (length missing.items) 0
      ≡ gone + missing_before items.items (length items.items) =
      h.counts (length missing.items) (omega (arith, h.counted))
      ∙ ap (λ n. gone + missing_before items.items n) h.counted in
      let end : length items.items + 1 ≡ length (gone ∷ missing.items) = omega (arith, h.counted) in
      below_more
      (λ p. get_or (gone ∷ missing.items ++ last ∷ []) p 0 ≡ gone + missing_before (items.items ++ sample ∷ []) p)
      (length items.items + 1)
      (λ p less. get_or-append (gone ∷ missing.items) (last ∷ []) 0 p (omega (arith, less, end))
      ∙ h.counts p (omega (arith, less))
      ∙ ap (λ n. gone + n) (sym (before_stays items.items (sample ∷ []) p (omega (arith, less)))))
      (ap (λ p. get_or (gone ∷ missing.items ++ last ∷ []) p 0) end
      ∙ get_or-append_seam (gone ∷ missing.items) last [] 0
      ∙ omega (arith, all, with_last items.items sample, e))
      k (omega (arith, le))

  pub held_with : (sample : Sample) (number : ℤ) (gap : ℕ) → number ≡ number_in sample → gap ≡ gap_in sample
      → length items.items < items.capacity → length items.items + dropped < 2 ^ 64 - 1
      → IsHeld (buffer (items.items ++ sample ∷ []) items.capacity)
      (buffer (numbers.items ++ number ∷ []) numbers.capacity)
      gone
      (buffer (missing.items ++ (get_or (gone ∷ missing.items) (length missing.items) 0 + gap) ∷ []) missing.capacity)
      dropped
  held_with sample number gap e f room within =
      let long : length (items.items ++ sample ∷ []) ≡ length items.items + 1 = simp length-append in
      record {
        some_room = h.some_room;
        room_within = h.room_within;
        within = omega (arith, long, room);
        pushed_within = omega (arith, long, within);
        numbers_are = ap (λ front. front ++ number ∷ []) h.numbers_are ∙ ap (λ x. numbers_in items.items ++ x ∷ []) e
            ∙ sym (map-append number_in items.items (sample ∷ []));
        numbers_room = h.numbers_room;
        counted = simp length-append (omega (arith, h.counted));
        counts_room = h.counts_room;
        few_missing = h.few_missing;
        counts = λ k le. counts_with sample gap f k (omega (arith, le, long));
      }

  -- ---- free windows

  pub held_free : (i m : ℕ) → i + m ≤ length items.items
      → (get_or (gone ∷ missing.items) i 0 == get_or (gone ∷ missing.items) (i + m) 0)
      ≡ is_free m (series_of items.items) i
  held_free i m le =
      rw (h.counts i (omega (arith, le)), h.counts (i + m) le)
      (beside gone (missing_before items.items i) (missing_before items.items (i + m)) ∙ free_by_counts items.items i m)
    where
      beside : (a b c : ℕ) → (a + b == a + c) ≡ (b == c)
      beside a b c = grind (arith, nat_tests)

-- a list that is no longer than what is kept of it
pub kept_all : {X : Type 0} (n : ℕ) (xs : List X) → length xs ≤ n → drop (length xs - n) xs ≡ xs
kept_all n xs le =
    let none : length xs - n ≡ 0 = omega (arith, le) in
    ap (λ k. drop k xs) none
