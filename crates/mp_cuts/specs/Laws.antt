-- What the cuts hold.
use Rattle.std.specs.Prelude.{◌≡◌, ℕ, ◌+◌, ◌-◌, ◌<◌, List, Bool, ◌&&◌, nat_lt, count_by, if◌then◌else◌}
use Rattle.mp_cuts.specs.declared.cuts.Tile.{Tile}
use Rattle.mp_cuts.specs.Pairs.{has_pair}
use Rattle.mp_cuts.specs.Cutting.{own_tiles, both_tiles}

-- of w windows each two that may be compared are a pair of exactly one of the tiles, and no others are a pair of any
abbrev pub HoldEachOnce : (ℕ → ℕ → Bool) → ℕ → List Tile → Type 0
HoldEachOnce may w tiles = (i j : ℕ) → j < w
    → count_by (λ t. has_pair 0 t i j) tiles ≡ (if nat_lt i j && may i j then 1 else 0)

-- of wa windows of one series and wb of another each two are a pair of exactly one of the tiles
abbrev pub HoldEveryPairOnce : ℕ → ℕ → List Tile → Type 0
HoldEveryPairOnce wa wb tiles = (i j : ℕ) → i < wa → j < wb
    → count_by (λ t. has_pair (wa - 1) t i j) tiles ≡ 1

-- each pair that is cut is a pair of exactly one of the tiles, and no other pair of any
pub record CutsHoldEachPairOnce : Type 0 where
  -- of w windows, those that lie further apart than the exclusion zone
  pub own : (w excl width : ℕ) → 0 < width → HoldEachOnce (λ i j. nat_lt (i + excl) j) w (own_tiles w excl width)
  -- of two series, all
  pub both : (wa wb width : ℕ) → 0 < width → HoldEveryPairOnce wa wb (both_tiles wa wb width)
