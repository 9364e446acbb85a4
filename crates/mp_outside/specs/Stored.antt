-- How a sink in memory stores what it tells.
use Rattle.std.specs.Prelude.{◌≡◌, ℕ, ◌<◌, ◌≤◌, List, [], length}

-- so many bytes were written, and they are stored while the room holds them
pub record IsStored (stored : List ℕ) (capacity room count : ℕ) : Type 0 where
  pub all : count ≤ room → length stored ≡ count
  pub none : room < count → stored ≡ []
  pub has_room : room ≤ capacity
