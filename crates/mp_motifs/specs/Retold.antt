-- Keys by which windows are chosen, and what is told of them.
use Rattle.std.specs.Prelude.{ℕ, ◌&&◌, nat_lt, nat_le, Option, Some, None, if◌then◌else◌}
use Rattle.std.specs.Int.{abs_diff}
use Rattle.std.specs.Option.{option_map}
use Rattle.mp_nums.specs.declared.finds.Discord.{Discord}
use Rattle.mp_nums.specs.declared.nearest.Near.{Near}
use Rattle.mp_nums.specs.declared.nearest.Sq.{Sq}
use Rattle.mp_picks.specs.declared.candidates.Candidate.{Candidate}
use Rattle.mp_motifs.specs.declared.unusual.Peak.{Peak}

-- an entry, as a key
abbrev pub peak_of : Near → Peak
peak_of near = record { dist = record { 0 = near.dist }; index = near.index }

abbrev pub peak_key : Option Near → Option Peak
peak_key entry = option_map peak_of entry

abbrev pub discord_of : Candidate Peak → Discord
discord_of found = record { start = found.place; near = record { dist = found.key.dist.0; index = found.key.index } }

-- the distance of a window, where it is at most the radius and the window lies outside the zone of one that is given
abbrev pub match_key : ℕ → ℕ → Option Near → ℕ × Option Sq → Option Sq
match_key zone radius None (start, None) = None
match_key zone radius None (start, Some dist) = if nat_le dist.0 radius then Some dist else None
match_key zone radius (Some near) (start, None) = None
match_key zone radius (Some near) (start, Some dist) =
    if nat_le dist.0 radius && nat_lt zone (abs_diff near.index start) then Some dist else None

abbrev pub near_of : Candidate Sq → Near
near_of found = record { dist = found.key; index = found.place }
