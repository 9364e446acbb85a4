-- The best window, by the first of the windows.
use Rattle.std.specs.Prelude.{ℕ, Option, Some, None}
use Rattle.mp_results.specs.Discords.{discord_at}
use Rattle.mp_nums.specs.declared.finds.Discord.{Discord}
use Rattle.mp_nums.specs.declared.nearest.Near.{Near}
use Rattle.mp_picks.specs.Picks.{earlier_of}
use Rattle.mp_results.specs.Best.{best_cmp}

abbrev pub best_of : Option Discord → Option Discord → Option Discord
best_of None later = later
best_of (Some window) later = Some (earlier_of best_cmp window later)

-- of a window that may have an entry, and of the best of those behind it
abbrev pub best_with : ℕ × Option Near → Option Discord → Option Discord
best_with window later = best_of (discord_at window) later
