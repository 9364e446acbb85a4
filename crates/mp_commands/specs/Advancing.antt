-- What an advance covers in a slot.
use Rattle.std.specs.Prelude.{◌≡◌, ℕ, ◌+◌, length}
use Rattle.mp_defs.specs.Window.{windows}
use Rattle.mp_results.specs.Covering.{Covering, advanced, uncovered}
use Rattle.mp_stores.specs.Stores.{Lazy, Stored, slot_at}

-- an advance by so many covers these many diagonals of the slot and leaves those
pub record AreSteps (held : Stored) (slot count done left : ℕ) : Type 0 where
  pub part : Covering
  pub here : slot_at held slot ≡ Lazy part
  pub window : part.m ≡ held.m
  pub done_is : length (advanced part.m (windows (length part.items) part.m) count part.covered)
      ≡ length part.covered + done
  pub left_is : left
      ≡ length (uncovered part.m (windows (length part.items) part.m)
      (advanced part.m (windows (length part.items) part.m) count part.covered))
