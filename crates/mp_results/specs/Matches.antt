-- The windows that match a pattern: the nearest one, then of those outside its zone the nearest one, and so on.
use Rattle.std.specs.Prelude.{ℕ, ◌-◌, List, ◌++◌, length, slice_index_or, filter_map, nat_le}
use Rattle.std.specs.Prelude.{Option, Some, None, if◌then◌else◌, unwrap_or}
use Rattle.std.specs.List.{enumerate_from}
use Rattle.std.specs.Option.{option_map, option_to_list}
use Rattle.mp_nums.specs.declared.nearest.Near.{Near}
use Rattle.mp_nums.specs.declared.nearest.Sq.{Sq}
use Rattle.mp_picks.specs.Picks.{picks}
use Rattle.mp_results.specs.Slide.{square}
use Rattle.mp_results.specs.Order.{near_cmp, index_of, outside_all}

-- a window, where it has a distance of at most the radius
abbrev pub near_within : ℕ → ℕ × Option Sq → Option Near
near_within radius (start, None) = None
near_within radius (start, Some dist) =
    if nat_le dist.0 radius then Some (record { dist = dist; index = start }) else None

-- the windows that have such a distance, by start
abbrev pub within_radius : ℕ → List (Option Sq) → List Near
within_radius radius dist = filter_map (near_within radius) (enumerate_from 0 dist)

-- the first place with its distance, where one is given
abbrev pub given : List (Option Sq) → Option ℕ → Option Near
given dist first =
    option_map (λ start. record { dist = unwrap_or (slice_index_or dist start None) (square 0); index = start }) first

-- the one that is given, and those chosen of the windows within the radius and outside its zone, at most so many in all
abbrev pub matches : List (Option Sq) → ℕ → Option ℕ → ℕ → ℕ → List Near
matches dist zone first radius max =
    let chosen = option_to_list (given dist first) in
    chosen ++ picks near_cmp index_of zone (max - length chosen) (outside_all zone chosen (within_radius radius dist))
