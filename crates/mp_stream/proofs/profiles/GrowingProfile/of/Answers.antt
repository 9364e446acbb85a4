use Rattle.std.proofs.Common.{◌≡◌, ◌∙◌, ap, ℕ, ◌+◌, ◌-◌, ◌*◌, ◌<◌, ◌≤◌, List, Option, length, arith, subst, sym}
use Rattle.mp_nums.specs.declared.samples.Sample.{Sample}
use Rattle.mp_defs.specs.Series.{series_of}
use Rattle.mp_defs.specs.Window.{is_free, windows}
use Rattle.mp_series.specs.Samples.{numbers_in}
use Rattle.mp_nums.specs.declared.nearest.Near.{Near}
use Rattle.mp_stream.specs.Limits.{AreLimits, limit_by}
use Rattle.mp_stream.specs.Rows.{HavePlaces, IsRow}
use Rattle.mp_stream.proofs.Growing.{all_first}
use Rattle.mp_stream.proofs.profiles.GrowingProfile.of.Goals as goal

pub returns-clause-is_of : goal.returns-clause-is_of
returns-clause-is_of c =
    let m = c.args.m in
    let now = c.args.samples.now.items in
    let narrow = c.in_ok-narrow.narrow in
    let wide = c.in_ok-narrow.wide in
    let ranged = c.whole_range-range.new.samples.items in
    let same : ranged ≡ now = c.whole_range-range.ensures.items in
    let count : c.windows-count.result ≡ windows (length now) m =
    c.windows-count.ensures ∙ ap (λ (n : ℕ). windows n m) (c.len.ensures.length ∙ ap length same) in
    let profile = c.in_ok-profile.ensures in
    let rows = c.in_ok-narrow.ensures in
    all_first m now _ (omega arith) profile.first (profile.left ∙ c.requires.profile.left_is)
    (profile.right ∙ c.requires.profile.right_is)
    (c.in_ok-free.ensures.places ∙ count)
    (λ i lt. c.in_ok-free.ensures.free i (subst (λ (n : ℕ). i < n) (sym count) lt)
    ∙ ap (λ (xs : List Sample). is_free m (series_of xs) i) same)
    c.whole_range-range.ensures.range c.sums_fit-is_narrow.ensures.fit.0 c.sums_fit-is_narrow.ensures.fit.1
    c.whole_range-range.ensures.none
    (record {
      narrow = subst (λ (n : ℕ). HavePlaces n narrow.sums.items narrow.next.items) count rows.narrow;
      wide = subst (λ (n : ℕ). HavePlaces n wide.sums.items wide.next.items) count rows.wide;
    })
    (subst (λ (xs : List Sample). IsRow (numbers_in xs) m (windows (length now) m - 1) wide.sums.items) same
    (subst (λ (n : ℕ). IsRow (numbers_in ranged) m (n - 1) wide.sums.items) count rows.row))
    rows.narrow_row
    (subst (λ (right : List (Option Near)). AreLimits (limit_by c.sums_fit-is_narrow.result) right
    c.in_ok-limits.limits.items)
    (c.right.ensures ∙ sym profile.right) c.in_ok-limits.ensures)

within : (n m old ranged last : ℕ) → ranged ≤ old + 2 * n → last ≤ ranged + n * (2 * m) → last ≤ old + n * (2 * (m + 1))
within n m old ranged last a b = omega arith

-- the samples are read for the range, and for the row
reads_within : (now ranged : List Sample) (m before a b : ℕ) → ranged ≡ now → a ≤ before + 2 * length now
    → b ≤ a + length ranged * (2 * m) → b ≤ before + length now * (2 * (m + 1))
reads_within now ranged m before a b same first second =
    within (length now) m before a b first (subst (λ (xs : List Sample). b ≤ a + length xs * (2 * m)) same second)

pub returns-clause-reads : goal.returns-clause-reads
returns-clause-reads c =
    reads_within _ _ c.args.m _ _ _ c.whole_range-range.ensures.items c.whole_range-range.ensures.reads
    c.both_rows.ensures.reads

pub returns-in_err-narrow-clause-reads : goal.returns-in_err-narrow-clause-reads
returns-in_err-narrow-clause-reads c =
    omega (
      arith,
      c.both_rows.ensures.reads,
      ap (λ items. length items * (2 * c.args.m)) c.whole_range-range.ensures.items,
      c.whole_range-range.ensures.reads,
    )
