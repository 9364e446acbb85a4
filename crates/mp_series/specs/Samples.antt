-- What is seen of a list that counts how often its samples are read, and what it keeps beside them.
use Rattle.std.specs.Prelude.{◌≡◌, ℕ, zero, suc, ◌+◌, ◌-◌, ◌^◌, ◌<◌, ◌≤◌, min, List, map, length, slice_index}
use Rattle.std.specs.Prelude.{slice_index_or, ℤ, pos}
use Rattle.mp_nums.specs.declared.samples.Sample.{Sample}
use Rattle.mp_nums.specs.declared.samples.Sample.TheVariants.{Missing, Value}
use Rattle.mp_defs.specs.Limits.{max_samples}

-- its samples, how often they were read, and how many more it can take without memory
pub record Counted : Type 0 where
  pub items : List Sample
  pub reads : ℕ
  pub spare : ℕ

-- so many reads more, where the count stays at the greatest number of 128 bits
abbrev pub after_reads : Counted → ℕ → Counted
after_reads s n = record s { reads = min (s.reads + n) (2 ^ 128 - 1) }

-- a sample's number, where a missing one counts as 0
abbrev pub number_in : Sample → ℤ
number_in Missing = pos 0
number_in (Value n) = n

abbrev pub numbers_in : List Sample → List ℤ
numbers_in items = map number_in items

-- 1 for a missing sample
abbrev pub gap_in : Sample → ℕ
gap_in Missing = 1
gap_in (Value n) = 0

-- how many of the first samples are missing
unfoldable pub missing_before : List Sample → ℕ → ℕ
missing_before items zero = 0
missing_before items (suc count) = missing_before items count + gap_in (slice_index_or items count Missing)

-- the numbers of some samples, and how many were missing up to and with each of them
pub record IsStored (items : List Sample) (numbers : List ℤ) (missing : List ℕ) : Type 0 where
  pub within : length items ≤ max_samples
  pub numbers_are : numbers ≡ numbers_in items
  pub counted : length missing ≡ length items
  pub counts : (k : ℕ) → k < length items → slice_index missing k ≡ missing_before items (k + 1)
