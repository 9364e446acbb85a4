-- What samples tell of a series.
use Rattle.std.proofs.Common.{◌≡◌, ℕ, ◌+◌, ◌-◌, ◌<◌, ◌≤◌, List, get_or, Bool, true, false, sym, ap, ◌∙◌, arith, inl, inr}
use Rattle.std.specs.Prelude.{Option, is_some}
use Rattle.mp_nums.specs.declared.samples.Sample.{Sample}
use Rattle.mp_nums.specs.declared.samples.Sample.TheVariants.{Missing}
use Rattle.mp_defs.specs.Series.{Series, number_at, reading_of, series_of}
use Rattle.mp_defs.specs.SeriesLaws.{series_are_of_samples}
use Rattle.mp_defs.specs.Distance.{square_between}
use Rattle.mp_defs.specs.Window.{is_free}
use Rattle.mp_partial.specs.PatchingLaws.{either_below}
use Rattle.mp_sums.specs.declared.limits.Limit.{Limit}
use Rattle.mp_sums.specs.declared.limits.Limit.TheVariants.{Below, Every, Within}
use Rattle.mp_sums.specs.Limits.{IsBeyond}
use Rattle.mp_pan.specs.Longer.{free_there}

-- the number that the sample at a place stands for
pub number_is : (samples : List Sample) (n : ℕ) (sample : Sample) → sample ≡ get_or samples n Missing
    → reading_of sample ≡ number_at (series_of samples) n
number_is samples n sample e = ap reading_of e ∙ sym (series_are_of_samples.numbers samples n)

pub square_is : (samples : List Sample) (i j : ℕ) (first second : Sample) (square : Option ℕ)
    → first ≡ get_or samples i Missing → second ≡ get_or samples j Missing
    → square ≡ square_between (reading_of first) (reading_of second)
    → square ≡ square_between (number_at (series_of samples) i) (number_at (series_of samples) j)
square_is samples i j first second square e f h =
    h ∙ ap (λ x. square_between x (reading_of second)) (number_is samples i first e)
    ∙ ap (square_between (number_at (series_of samples) i)) (number_is samples j second f)

not_both : (t : Bool) → t ≡ true → t ≡ false → ⊥
not_both t e f = absurd (cc)

-- a window that has all samples ends before one that is missing
pub ends_before : (m k n : ℕ) (a : Series) (i place : ℕ) → is_free (m + k) a i ≡ true → 1 ≤ n
    → place ≡ i + (m + (n - 1)) → false ≡ is_some (number_at a place) → k < n
ends_before m k n a i place free some e missing = elim (either_below k n) [
  | inl lt ↦ lt
  | inr le ↦ absurd (not_both (is_some (number_at a place))
      (ap (λ t. is_some (number_at a t)) e
      ∙ free_there (m + k) a i (m + (n - 1)) free (omega (arith, le, some))) (sym missing))
]

-- what is beyond a limit stays so
pub beyond_more : (limit : Limit) (d e : ℕ) → d ≤ e → IsBeyond limit d → IsBeyond limit e
beyond_more Every d e le h = h
beyond_more (Within most) d e le h = omega (arith, le, h)
beyond_more (Below end) d e le h = omega (arith, le, h)
