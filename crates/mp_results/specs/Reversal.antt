-- The order in which diagonals are covered: by the binary digits of their numbers, read from the last to the first.
-- Near and far diagonals alternate in it.
use Rattle.std.specs.Prelude.{ℕ, zero, suc, ◌+◌, ◌*◌, ◌/◌, ◌%◌, ◌^◌}

-- the number whose so many binary digits are those of another in the opposite order
unfoldable pub reversed : ℕ → ℕ → ℕ
reversed zero n = 0
reversed (suc digits) n = n % 2 * 2 ^ digits + reversed digits (n / 2)

-- the reversal of a diagonal's number, which has 18 binary digits
abbrev pub reversal : ℕ → ℕ
reversal diagonal = reversed 18 diagonal

-- how many numbers have 18 binary digits
abbrev pub numbers : ℕ
numbers = 262144
