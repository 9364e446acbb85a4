-- The pairs of a tile.
use Rattle.std.proofs.Common.{◌≡◌, ℕ, ◌+◌, ◌-◌, ◌<◌, ◌≤◌, min, true, arith}
use Rattle.std.specs.Prelude.{◌||◌}
use Rattle.std.proofs.lemmas.Bool.Decides.{nat_tests}
use Rattle.mp_cuts.specs.declared.cuts.Tile.{Tile}
use Rattle.mp_cuts.specs.Pairs.{on_its_diagonals, has_pair}
use Rattle.mp_scans.specs.Offering.{in_block}

pub own_pairs : (tile : Tile) (end bottom i j : ℕ) → end ≡ tile.last + 1 → bottom ≡ tile.last_row + 1
    → in_block tile.first end tile.first_row bottom i j ≡ has_pair 0 tile i j
own_pairs tile end bottom i j e f = grind (arith, nat_tests)

-- the row of each starts earlier
pub row_first : (tile : Tile) → 0 < tile.first → (i j : ℕ) → has_pair 0 tile i j ≡ true → i < j
row_first tile some i j is = grind (arith, nat_tests)

-- the windows of b that start earlier, and those that start later
pub both_sides : (tile : Tile) (origin before behind from to rows columns i j : ℕ) → tile.first ≤ tile.last
    → before + min (tile.last + 1) origin ≡ origin + 1 → behind + min tile.first origin ≡ origin + 1
    → from ≡ tile.first - origin → to ≡ tile.last + 1 - origin → i < rows → j < columns
    → (in_block before behind 0 columns j i || in_block from to 0 rows i j) ≡ on_its_diagonals origin tile i j
both_sides tile origin before behind from to rows columns i j le e f g h lt lt' = grind (arith, nat_tests)
