-- What reading samples leaves of them.
use Rattle.std.specs.Prelude.{◌≡◌, ℕ, ◌+◌, ◌≤◌}
use Rattle.mp_series.specs.Samples.{Counted}

-- samples were read, and no more than so often
pub record OnlyReads (most : ℕ) (old new : Counted) : Type 0 where
  pub items : new.items ≡ old.items
  pub spare : new.spare ≡ old.spare
  pub reads_rise : old.reads ≤ new.reads
  pub reads : new.reads ≤ old.reads + most
