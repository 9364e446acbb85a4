-- Matches and discords described without steps.
use Rattle.std.specs.Prelude.{◌≡◌, ℕ, ◌<◌, ◌≤◌, List, length, slice_get, All, AllPairs, Option, Some}
use Rattle.std.specs.Int.{abs_diff}
use Rattle.std.specs.declared.cmp.Ordering.TheVariants.{Less}
use Rattle.mp_nums.specs.declared.finds.Discord.{Discord}
use Rattle.mp_nums.specs.declared.nearest.Near.{Near}
use Rattle.mp_nums.specs.declared.nearest.Sq.{Sq}
use Rattle.mp_picks.specs.Laws.{IsAnswered}
use Rattle.mp_results.specs.Order.{near_cmp, index_of}
use Rattle.mp_results.specs.Discords.{discord_cmp, start_of}

-- without a first place: the list has at most so many windows within the radius, each comes before those behind it,
-- and no two are closer than the zone. Every window within the radius is in the list, or in the zone of one of the list
-- that comes before it, or comes after as many as may be listed
pub record AreMatches (dist : List (Option Sq)) (zone radius max : ℕ) (list : List Near) : Type 0 where
  pub few : length list ≤ max
  pub within : All (λ near. (slice_get dist near.index ≡ Some (Some near.dist)) × (near.dist.0 ≤ radius)) list
  pub rising : AllPairs (λ a b. near_cmp a b ≡ Less) list
  pub apart : AllPairs (λ a b. zone < abs_diff a.index b.index) list
  pub others : (start : ℕ) (far : Sq) → slice_get dist start ≡ Some (Some far) → far.0 ≤ radius
      → IsAnswered near_cmp index_of zone max list (record { dist = far; index = start })

-- the same of the windows with an entry, the ones with the greatest distance first
pub record AreDiscords (profile : List (Option Near)) (zone count : ℕ) (list : List Discord) : Type 0 where
  pub few : length list ≤ count
  pub entries : All (λ discord. slice_get profile discord.start ≡ Some (Some discord.near)) list
  pub rising : AllPairs (λ a b. discord_cmp a b ≡ Less) list
  pub apart : AllPairs (λ a b. zone < abs_diff a.start b.start) list
  pub others : (start : ℕ) (near : Near) → slice_get profile start ≡ Some (Some near)
      → IsAnswered discord_cmp start_of zone count list (record { start = start; near = near })
