-- Windows, and which of them may be compared: the matrix profile's, with its default exclusion zone.
use Rattle.std.specs.Prelude.{ℕ, zero, suc, ◌+◌, ◌-◌, ◌/◌, Bool, true, ◌&&◌, is_some, nat_lt}
use Rattle.std.specs.Int.{abs_diff}
use Rattle.mp_defs.specs.Series.{Series, number_at}

-- how many windows of m samples lie in n samples, for m at least 1
abbrev pub windows : ℕ → ℕ → ℕ
windows n m = n + 1 - m

-- the window of m samples from i on lies in the series, and none of its samples is missing
unfoldable pub is_free : ℕ → Series → ℕ → Bool
is_free zero a i = true
is_free (suc m) a i = is_free m a i && is_some (number_at a (i + m))

-- the exclusion zone: a quarter of the window's length, rounded up
abbrev pub excl : ℕ → ℕ
excl m = (m + 3) / 4

-- window j lies outside the exclusion zone of window i
abbrev pub is_allowed : ℕ → ℕ → ℕ → Bool
is_allowed m i j = nat_lt (excl m) (abs_diff i j)
