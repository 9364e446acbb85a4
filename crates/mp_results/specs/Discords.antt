-- The most unusual windows: those that are furthest from their nearest window.
use Rattle.std.specs.Prelude.{ℕ, List, filter_map, Option}
use Rattle.std.specs.List.{enumerate_from}
use Rattle.std.specs.Option.{option_map}
use Rattle.std.specs.Ordering.{nat_cmp, on, flip_args, then_cmp}
use Rattle.std.specs.declared.cmp.Ordering.{Ordering}
use Rattle.mp_nums.specs.declared.finds.Discord.{Discord}
use Rattle.mp_nums.specs.declared.nearest.Near.{Near}
use Rattle.mp_picks.specs.Picks.{picks}

-- greater distances first, and then smaller starts
abbrev pub discord_cmp : Discord → Discord → Ordering
discord_cmp = then_cmp (flip_args (on (λ discord. discord.near.dist.0) nat_cmp)) (on (λ discord. discord.start) nat_cmp)

abbrev pub start_of : Discord → ℕ
start_of discord = discord.start

-- a window, where it has an entry
abbrev pub discord_at : ℕ × Option Near → Option Discord
discord_at (start, entry) = option_map (λ near. record { start = start; near = near }) entry

-- the windows that have an entry, by start
abbrev pub with_entry : List (Option Near) → List Discord
with_entry profile = filter_map discord_at (enumerate_from 0 profile)

abbrev pub discords : List (Option Near) → ℕ → ℕ → List Discord
discords profile zone count = picks discord_cmp start_of zone count (with_entry profile)
