-- Of the windows of a series the one that is nearest to another, and the most unusual one.
use Rattle.std.specs.Prelude.{ℕ, List, slice_get, Option}
use Rattle.std.specs.Ordering.{nat_cmp, on, then_cmp}
use Rattle.std.specs.declared.cmp.Ordering.{Ordering}
use Rattle.mp_nums.specs.declared.finds.Discord.{Discord}
use Rattle.mp_nums.specs.declared.nearest.Near.{Near}
use Rattle.mp_picks.specs.Picks.{first_of}
use Rattle.mp_results.specs.Discords.{discords, with_entry}

-- lesser distances to the nearest window first, and then smaller starts
abbrev pub best_cmp : Discord → Discord → Ordering
best_cmp = then_cmp (on (λ window. window.near.dist.0) nat_cmp) (on (λ window. window.start) nat_cmp)

-- of the windows that have an entry, the one that is nearest to another
abbrev pub best_in : List (Option Near) → Option Discord
best_in column = first_of best_cmp (with_entry column)

-- the first discord
abbrev pub discord_in : List (Option Near) → ℕ → Option Discord
discord_in column zone = slice_get (discords column zone 1) 0
