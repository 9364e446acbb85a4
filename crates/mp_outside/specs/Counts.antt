-- Counts that stand still at their types' ends.
use Rattle.std.specs.Prelude.{ℕ, ◌+◌, ◌-◌, ◌^◌, ◌≤◌, min}

-- one of 64 bits rose, or it stands at its end
abbrev pub Rose : ℕ → ℕ → Type 0
Rose before now = min (before + 1) (2 ^ 64 - 1) ≤ now

-- one of 128 bits after so many more
abbrev pub raised : ℕ → ℕ → ℕ
raised more before = min (before + more) (2 ^ 128 - 1)
