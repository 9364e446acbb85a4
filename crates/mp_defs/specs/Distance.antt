-- The squared distance of two windows, without normalisation: aamp with p = 2, squared.
use Rattle.std.specs.Prelude.{ℕ, zero, suc, ◌+◌, ◌*◌, ℤ, ◌-ℤ◌, unsigned_abs, Option, Some, None}
use Rattle.mp_defs.specs.Series.{Series, number_at}

abbrev pub squared_difference : ℤ → ℤ → ℕ
squared_difference x y = unsigned_abs (x -ℤ y) * unsigned_abs (x -ℤ y)

-- of two numbers that may be missing
abbrev pub square_between : Option ℤ → Option ℤ → Option ℕ
square_between None y = None
square_between (Some x) None = None
square_between (Some x) (Some y) = Some (squared_difference x y)

abbrev pub plus : Option ℕ → Option ℕ → Option ℕ
plus None b = None
plus (Some a) None = None
plus (Some a) (Some b) = Some (a + b)

-- the sum of the squared differences of the m samples from i on in a and from j on in b, none where one is missing
unfoldable pub distance : ℕ → Series → ℕ → Series → ℕ → Option ℕ
distance zero a i b j = Some 0
distance (suc m) a i b j = plus (distance m a i b j) (square_between (number_at a (i + m)) (number_at b (j + m)))
