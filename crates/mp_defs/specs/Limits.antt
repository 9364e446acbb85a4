-- The limits of what is computed.
use Rattle.std.specs.Prelude.{ℕ, ℤ, pos, negsuc}
use Rattle.mp_nums.specs.declared.widths.Width.{Width}
use Rattle.mp_nums.specs.declared.widths.Width.TheVariants.{Narrow, Wide}
use Rattle.mp_nums.specs.Whole.{least_whole, greatest_whole}

-- the most samples of a series
abbrev pub max_samples : ℕ
max_samples = 262144

-- the most samples that are ever appended to a series of which the last ones are kept
abbrev pub max_appended : ℕ
max_appended = 4294967296

-- the fewest samples in a window
abbrev pub min_window : ℕ
min_window = 3

-- the most samples in a window
abbrev pub max_window : ℕ
max_window = 16384

-- the least number that is read as a sample: of 32 bits with sign, or of 48
abbrev pub least_sample : Width → ℤ
least_sample Narrow = negsuc 2147483647
least_sample Wide = least_whole

abbrev pub greatest_sample : Width → ℤ
greatest_sample Narrow = pos 2147483647
greatest_sample Wide = greatest_whole
