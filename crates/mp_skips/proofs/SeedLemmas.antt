-- Pairs that are offered ahead of all others.
use Rattle.std.proofs.Common.{◌≡◌, ℕ, ◌+◌, ◌<◌, ◌≤◌, Bool, false, refl, arith}
use Rattle.std.specs.Prelude.{◌||◌}
use Rattle.std.proofs.lemmas.Bool.Decides.{nat_tests}
use Rattle.mp_defs.specs.Series.{Series}
use Rattle.mp_sums.specs.declared.distances.Grid.{Grid}
use Rattle.mp_scans.specs.Offering.{in_block, IsOffering}
use Rattle.mp_scans.specs.Windows.{row_windows, column_windows, FitIn, AreScannedIn}
use Rattle.mp_skips.specs.Seeds.{AreSomeScanned, IsAhead}
use Rattle.mp_skips.proofs.PairLemmas.{scanned_next}

module _ {Into : Type 0} {least : ℕ} {fits : ℕ → Series → Series → Into → Type 0} {may : Into → ℕ → ℕ → ℕ → Type 0}
    {is_scanned : ℕ → Series → Series → (ℕ → ℕ → Bool) → Into → Into → Type 0}
    (laws : IsOffering least fits may is_scanned) (grid : Grid) where
  -- pairs among all of them are offered
  pub ahead_of : (p q : ℕ → ℕ → Bool) (old new : Into) → FitIn fits grid old → AreScannedIn is_scanned grid p old new
      → ((i j : ℕ) → i < row_windows grid → j < column_windows grid → (p i j || q i j) ≡ q i j)
      → IsAhead is_scanned grid q old new
  ahead_of p q old new there s among = record {
    all = λ after t. scanned_next laws grid p q q old new after there s t among;
  }

  -- nothing is offered
  pub none_scanned : (into : Into) → FitIn fits grid into → AreSomeScanned is_scanned grid into into
  none_scanned into there = (λ i j. false, laws.none grid.m _ _ (λ i j. false) into there (λ i j. refl))

  -- some pairs, and then others
  pub some_then : (old mid new : Into) → AreSomeScanned is_scanned grid old mid
      → AreSomeScanned is_scanned grid mid new → AreSomeScanned is_scanned grid old new
  some_then old mid new h k =
      (λ i j. h.0 i j || k.0 i j, laws.both grid.m _ _ h.0 k.0 old mid new h.1 k.1)

module _ {Into : Type 0} (is_scanned : ℕ → Series → Series → (ℕ → ℕ → Bool) → Into → Into → Type 0) (grid : Grid)
    (pairs : ℕ → ℕ → Bool) where
  -- nothing is offered
  pub ahead_none : (into : Into) → IsAhead is_scanned grid pairs into into
  ahead_none into = record { all = λ after s. s }

  -- some pairs, and then others
  pub ahead_then : (old mid new : Into) → IsAhead is_scanned grid pairs old mid → IsAhead is_scanned grid pairs mid new
      → IsAhead is_scanned grid pairs old new
  ahead_then old mid new h k = record { all = λ after s. h.all after (k.all after s) }

-- some rows on one diagonal are among all pairs that start far enough after one another
pub among_all : (first wa wb k row count i j : ℕ) → first ≤ k → i < wa → j < wb
    → (in_block k (k + 1) row (row + count) i j || in_block first wb 0 wa i j) ≡ in_block first wb 0 wa i j
among_all first wa wb k row count i j le iw jw = grind (arith, nat_tests)
