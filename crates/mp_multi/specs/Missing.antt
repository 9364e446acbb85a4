-- How many samples two windows of a series lack.
use Rattle.std.specs.Prelude.{ℕ, zero, suc, ◌+◌, ◌&&◌, is_some, if◌then◌else◌, ℤ, Option}
use Rattle.mp_defs.specs.Series.{Series, number_at}

-- 1 where one of two numbers is missing
abbrev pub missing_between : Option ℤ → Option ℤ → ℕ
missing_between x y = if is_some x && is_some y then 0 else 1

-- how many of the m places of windows i and j have a missing sample
unfoldable pub count_missing : ℕ → Series → ℕ → ℕ → ℕ
count_missing zero a i j = 0
count_missing (suc m) a i j = count_missing m a i j + missing_between (number_at a (i + m)) (number_at a (j + m))
