-- Of the windows of a length the one that is nearest to another, and the most unusual one.
use Rattle.std.specs.Prelude.{ℕ, Option, Some, None}
use Rattle.mp_nums.specs.declared.nearest.Near.{Near}
use Rattle.mp_partial.specs.Values.{Column}
use Rattle.mp_picks.specs.Picks.{earlier_of, first_of}
use Rattle.mp_results.specs.Best.{best_cmp, best_in}
use Rattle.mp_results.specs.Discords.{discord_cmp, with_entry}
use Rattle.mp_pan.specs.declared.extremes.Extremes.{Extremes}

-- of the windows of a column
abbrev pub extremes_of : Column → Extremes
extremes_of column = record { best = best_in column; discord = first_of discord_cmp (with_entry column) }

-- of one window more
abbrev pub extremes_with : ℕ → Option Near → Extremes → Extremes
extremes_with start None later = later
extremes_with start (Some near) later = record {
  best = Some (earlier_of best_cmp (record { start = start; near = near }) later.best);
  discord = Some (earlier_of discord_cmp (record { start = start; near = near }) later.discord);
}
