-- What is taken of a reader whose bytes are known.
use Rattle.std.specs.Prelude.{ℕ, ◌≤◌, List, length, Option}
use Rattle.std.specs.Io.KnownBytes.{Consumes}

-- so many of its first bytes, at most
abbrev pub TakesUpTo : ℕ → Option (List ℕ) → Option (List ℕ) → Type 0
TakesUpTo count old new = (bytes : List ℕ) × Consumes old new bytes × (length bytes ≤ count)
