-- What is computed of a profile is what the summary tells.
use Rattle.std.proofs.Common.{◌≡◌, ◌∙◌, ◌*◌, ◌<◌, List, [], ◌∷◌, ℕ, ap, arith, length, subst, sym, ◌≤◌}
use Rattle.std.specs.Prelude.{All, IfSome, Option, None, Some, slice_get}
use Rattle.std.proofs.lemmas.List.{length-map}
use Rattle.mp_results.specs.Regimes.{regimes_in}
use Rattle.mp_defs.specs.ColumnLaws.{columns_have_places}
use Rattle.mp_defs.specs.Limits.{max_samples, min_window}
use Rattle.mp_defs.specs.Profile.{entry, matrix_profile, windows_of}
use Rattle.mp_defs.specs.Series.{reading_of, series_of}
use Rattle.mp_defs.specs.Window.{excl, is_allowed}
use Rattle.mp_nums.specs.declared.nearest.Near.{Near}
use Rattle.mp_nums.specs.declared.samples.Sample.{Sample}
use Rattle.mp_replies.specs.SegmentsCommand.{curve_in}
use Rattle.mp_replies.specs.Summary.{summary_factor, summary_text}
use Rattle.mp_made.specs.Summaries.{summary_by}

pub summary_is : (m samples : ℕ) (column : List (Option Near)) (zone : ℕ) (regime : Option ℕ) (curve : List (ℕ × ℕ))
    → zone ≡ excl m → regime ≡ slice_get (regimes_in curve (summary_factor * m) 1) 0
    → curve ≡ curve_in m column summary_factor
    → summary_text samples column zone regime curve ≡ summary_by m samples column
summary_is m samples column zone regime curve zone_is regime_is curve_is =
    let first : List (ℕ × ℕ) → Option ℕ = λ (c : List (ℕ × ℕ)). slice_get (regimes_in c (summary_factor * m) 1) 0 in
    ap (λ (z : ℕ). summary_text samples column z regime curve) zone_is
    ∙ ap (λ (r : Option ℕ). summary_text samples column (excl m) r curve) regime_is
    ∙ ap (λ (c : List (ℕ × ℕ)). summary_text samples column (excl m) (first c) c) curve_is

-- a profile has no more windows than a series may have samples
pub column_few : (m : ℕ) (items : List Sample) → min_window ≤ m → length items ≤ max_samples
    → length (matrix_profile m (series_of items)).all ≤ max_samples
column_few m items shortest within =
    let series = series_of items in
    omega (
      arith,
      columns_have_places.count (entry (is_allowed m) m series) (windows_of m series),
      length-map items reading_of,
    )

-- where all lie below a number, the first does
pub first_within : (places : List ℕ) (first : Option ℕ) (n : ℕ) → All (λ at. at < n) places
    → first ≡ slice_get places 0 → IfSome first (λ at. at < n)
first_within [] None n all is = tt
first_within [] (Some at) n all is = absurd (cc is)
first_within (place ∷ places) None n all is = tt
first_within (place ∷ places) (Some at) n all is =
    let same : at ≡ place = cc in subst (λ k. k < n) (sym same) (all 0 place (omega arith))
