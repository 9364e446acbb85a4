-- What the values of diagonals have.
use Rattle.std.proofs.Common.{◌≡◌, ℕ, zero, suc, List, [], ◌∷◌, length, Bool, refl, sym, ◌∙◌, arith}
use Rattle.std.specs.Prelude.{All, None, slice_index_or}
use Rattle.std.proofs.lemmas.Simd.{length-zip2}
use Rattle.mp_nums.specs.Near.{nearer_of}
use Rattle.mp_nums.specs.declared.nearest.Near.{Near}
use Rattle.mp_nums.specs.declared.samples.Sample.{Sample}
use Rattle.mp_defs.specs.Series.{series_of}
use Rattle.mp_defs.specs.Window.{windows}
use Rattle.mp_defs.specs.Profile.{windows_of, profile, entry, left_entry, right_entry}
use Rattle.mp_defs.specs.SeriesLaws.{series_are_of_samples}
use Rattle.mp_defs.specs.ColumnLaws as columns
use Rattle.mp_partial.specs.Values.{Column, HasColumns}
use Rattle.mp_partial.specs.Profiled.{Profiled}
use Rattle.mp_tiles.specs.Among.{columns_value}
use Rattle.mp_anytime.specs.Bounds.{columns_of, kept_sides, numbered}

pub all_three : (P : Column → Type 0) (a b c : Column) → P a → P b → P c → All P (a ∷ b ∷ c ∷ [])
all_three P a b c p q r zero d lt = p
all_three P a b c p q r (suc zero) d lt = q
all_three P a b c p q r (suc (suc zero)) d lt = r
all_three P a b c p q r (suc (suc (suc k))) d lt = absurd (omega (arith, lt))

pub columns_have_places : (may : ℕ → ℕ → Bool) (m : ℕ) (samples : List Sample)
    → HasColumns 3 (windows (length samples) m) (columns_value (profile may m (series_of samples)))
columns_have_places may m samples =
    let a = series_of samples in
    let same = series_are_of_samples.windows_are m samples in
    let p = profile may m a in
    record {
      columns = refl;
      places = all_three (λ column. length column ≡ windows (length samples) m) p.all p.left p.right
          (columns.columns_have_places.count (entry may m a) (windows_of m a) ∙ same)
          (columns.columns_have_places.count (left_entry may m a) (windows_of m a) ∙ same)
          (columns.columns_have_places.count (right_entry may m a) (windows_of m a) ∙ same);
    }

pub kept_have_places : (fits : Near → Bool) (kept : Profiled)
    → HasColumns 3 (length kept.all) (columns_of (kept_sides fits kept))
kept_have_places fits kept =
    let n = length kept.all in
    let left = columns.columns_have_places.count (λ k. numbered fits (slice_index_or kept.left k None)) n in
    let right = columns.columns_have_places.count (λ k. numbered fits (slice_index_or kept.right k None)) n in
    record {
      columns = refl;
      places = all_three (λ column. length column ≡ n) (kept_sides fits kept).all (kept_sides fits kept).left
          (kept_sides fits kept).right
          (length-zip2 nearer_of (kept_sides fits kept).left (kept_sides fits kept).right (left ∙ sym right) ∙ left)
          left right;
    }
