-- Windows of plain numbers, which stand in lists.
use Rattle.std.specs.Prelude.{ℕ, List, ℤ}
use Rattle.mp_sums.specs.Sums.{square_sum}
use Rattle.mp_sums.specs.Residues.{item}

-- the sum of the squared differences of the m numbers from i on in one list and those from j on in another
abbrev pub list_sum : ℕ → List ℤ → ℕ → List ℤ → ℕ → ℕ
list_sum m xs i ys j = square_sum m (item xs) i (item ys) j
