-- Why a series has the numbers and the windows of its samples.
use Rattle.std.proofs.Common.{◌≡◌, refl, ap}
use Rattle.std.specs.Prelude.{Option, Some, None, slice_get, unwrap_or}
use Rattle.std.specs.Option.{option_map}
use Rattle.std.proofs.lemmas.List.{length-map}
use Rattle.std.proofs.lemmas.Option.{slice_get-map, unwrap_or-slice_get}
use Rattle.mp_nums.specs.declared.samples.Sample.{Sample}
use Rattle.mp_nums.specs.declared.samples.Sample.TheVariants.{Missing}
use Rattle.mp_defs.specs.Series.{reading_of, present}
use Rattle.mp_defs.specs.Window.{windows}
use Rattle.mp_defs.specs.Laws.{SeriesAreOfSamples}

reading_of_unwrapped : (x : Option Sample) → present (option_map reading_of x) ≡ reading_of (unwrap_or x Missing)
reading_of_unwrapped None = refl
reading_of_unwrapped (Some x) = refl

pub series_are_of_samples : SeriesAreOfSamples
series_are_of_samples = record {
  numbers = λ samples n.
      rw (slice_get-map reading_of samples n, ← unwrap_or-slice_get samples n Missing)
      (reading_of_unwrapped (slice_get samples n));
  windows_are = λ m samples. ap (λ n. windows n m) (length-map samples reading_of);
}
