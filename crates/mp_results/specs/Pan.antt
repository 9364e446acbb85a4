-- All window lengths of a range: for each the nearest pair of windows and the most unusual window.
use Rattle.std.specs.Prelude.{ℕ, ◌+◌, ◌-◌, List, map, Option}
use Rattle.std.specs.List.{range_with_len}
use Rattle.std.specs.Option.{option_map}
use Rattle.mp_nums.specs.declared.finds.Discord.{Discord}
use Rattle.mp_nums.specs.declared.finds.Pair.{Pair}
use Rattle.mp_nums.specs.declared.finds.PanRow.{PanRow}
use Rattle.mp_defs.specs.Profile.{matrix_profile, windows_of}
use Rattle.mp_defs.specs.Series.{Series}
use Rattle.mp_defs.specs.Window.{excl}
use Rattle.mp_results.specs.Best.{best_in, discord_in}

abbrev pub pair_of : Discord → Pair
pair_of window = record { start = window.start; near = window.near }

-- the pair whose windows are least far apart, by the smaller start, and the first discord
abbrev pub pan_row : Series → ℕ → PanRow
pan_row a length = record {
  length = length;
  windows = windows_of length a;
  best = option_map pair_of (best_in (matrix_profile length a).all);
  discord = discord_in (matrix_profile length a).all (excl length);
}

-- of each length from the least to the greatest
abbrev pub pan_of : ℕ → ℕ → Series → List PanRow
pan_of lo hi a = map (pan_row a) (range_with_len lo (hi + 1 - lo))
