-- What is kept of the rows and columns of successive diagonals.
use Rattle.std.specs.Prelude.{◌≡◌, ℕ, ◌+◌, ◌<◌, List, [], length, slice_index_or, Option, None, IfSome}
use Rattle.mp_nums.specs.declared.samples.Sample.{Sample}
use Rattle.mp_multi.specs.Running.{AreRunning}
use Rattle.mp_multi.specs.declared.running.Running.{Running}
use Rattle.mp_multi.specs.declared.sizes.TheConstants.{WIDTH}

-- of a diagonal on which a column starts so far behind its row, something is kept of the row that is named
abbrev pub IsKept : ℕ → List (List Sample) → ℕ → Option ℕ → List Running → Type 0
IsKept m channels behind row running = IfSome row (λ from. AreRunning m channels from (from + behind) running)

-- the same of successive diagonals, the first of which starts so far behind
pub record AreKept (m : ℕ) (channels : List (List Sample)) (first : ℕ) (rows : List (Option ℕ))
    (running : List (List Running)) : Type 0 where
  pub row_places : length rows ≡ WIDTH
  pub places : length running ≡ WIDTH
  pub each : (t : ℕ) → t < WIDTH → IsKept m channels (first + t) (slice_index_or rows t None)
      (slice_index_or running t [])
