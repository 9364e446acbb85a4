-- Places that are shut out one by one.
use Rattle.std.proofs.Common.{◌≡◌, ℕ, Bool, false, cond, List, get_or}
use Rattle.std.specs.Prelude.{◌&&◌, nat_lt, nat_le}

-- those from start on and before end are shut out, and the others are as before
abbrev pub IsShutBetween : ℕ → ℕ → List Bool → List Bool → Type 0
IsShutBetween start end old new = (q : ℕ) → get_or new q false ≡ cond (nat_le start q && nat_lt q end) false
    (get_or old q false)
