-- Slots to which pairs were offered ahead of all others.
use Rattle.std.specs.Prelude.{◌≡◌, ℕ, length}
use Rattle.std.specs.Borrow.{MutBor}
use Rattle.mp_defs.specs.Series.{Series}
use Rattle.mp_defs.specs.Profile.{ab_join}
use Rattle.mp_partial.specs.Values.{Column, merged_column}

-- what they make with those of the AB-join is what they made before, and they are where they were
pub record AreAhead (m : ℕ) (a b : Series) (old new : MutBor Column) : Type 0 where
  pub join : merged_column new.now (ab_join m a b) ≡ merged_column old.now (ab_join m a b)
  pub places : length new.now ≡ length old.now
  pub same_slots : new.ghost_name ≡ old.ghost_name
