-- Which diagonals wait to be covered, by their reversals.
use Rattle.std.specs.Prelude.{◌≡◌, ℕ, ◌+◌, ◌-◌, ◌/◌, ◌<◌, List, Bool, false, length}
use Rattle.std.specs.Prelude.{slice_index_or}
use Rattle.mp_defs.specs.Window.{excl}
use Rattle.mp_results.specs.Reversal.{reversal, numbers}
use Rattle.mp_results.specs.Covering.{is_uncovered, uncovered}

-- by the reversal of each diagonal, whether that isn't covered
pub record AreWaiting (m w : ℕ) (covered : List ℕ) (waiting : List Bool) : Type 0 where
  pub places : length waiting ≡ numbers
  pub each : (place : ℕ) → place < numbers
      → slice_index_or waiting place false ≡ is_uncovered m w covered (reversal place)

-- where a block of 512 places isn't marked, no diagonal waits at one of them
pub record AreMarks (places marks : List Bool) : Type 0 where
  pub all : length places ≡ numbers
  pub blocks : length marks ≡ 512
  pub each : (place : ℕ) → place < numbers → slice_index_or marks (place / 512) false ≡ false
      → slice_index_or places place false ≡ false

-- each diagonal of w windows is covered, once, or it isn't
abbrev pub IsCounted : ℕ → ℕ → List ℕ → Type 0
IsCounted m w covered = length covered + length (uncovered m w covered) ≡ w - (excl m + 1)
