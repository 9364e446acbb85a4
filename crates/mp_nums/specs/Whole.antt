-- Whole numbers of 48 bits with sign.
use Rattle.std.specs.Prelude.{ℤ, pos, negsuc, ◌≤ℤ◌}

abbrev pub least_whole : ℤ
least_whole = negsuc 140737488355327

abbrev pub greatest_whole : ℤ
greatest_whole = pos 140737488355327

abbrev pub IsWhole : ℤ → Type 0
IsWhole n = (least_whole ≤ℤ n) × (n ≤ℤ greatest_whole)
