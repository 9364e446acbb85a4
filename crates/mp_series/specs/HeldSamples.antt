-- What is seen of a ring that keeps the samples pushed last, and what it keeps beside them.
use Rattle.std.specs.Prelude.{◌≡◌, ℕ, ◌+◌, ◌-◌, ◌^◌, ◌<◌, ◌≤◌, min, List, ◌∷◌, length, slice_index, ℤ}
use Rattle.circular_buffer.specs.Buffer.{Buffer}
use Rattle.mp_nums.specs.declared.samples.Sample.{Sample}
use Rattle.mp_defs.specs.Limits.{max_samples}
use Rattle.mp_series.specs.Samples.{numbers_in, missing_before}

-- the samples that it holds, how many it holds at most, how many it has dropped, and how often samples were read
pub record Held : Type 0 where
  pub items : List Sample
  pub capacity : ℕ
  pub dropped : ℕ
  pub reads : ℕ

-- so many reads more, where the count stays at the greatest number of 128 bits
abbrev pub held_after_reads : Held → ℕ → Held
held_after_reads ring n = record ring { reads = min (ring.reads + n) (2 ^ 128 - 1) }

-- how many of all samples are missing: dropped is how many of the dropped ones are, and held how many up to and with
-- each held one
abbrev pub all_missing : ℕ → Buffer ℕ → ℕ
all_missing dropped held = slice_index (dropped ∷ held.items) (length held.items)

-- the numbers of the held samples; and how many were missing of all that were pushed: of the dropped ones alone, and up
-- to and with each held one
pub record IsHeld (items : Buffer Sample) (numbers : Buffer ℤ) (missing_dropped : ℕ) (missing : Buffer ℕ) (dropped : ℕ)
    : Type 0 where
  pub some_room : 0 < items.capacity
  pub room_within : items.capacity ≤ max_samples
  pub within : length items.items ≤ items.capacity
  pub pushed_within : length items.items + dropped < 2 ^ 64
  pub numbers_are : numbers.items ≡ numbers_in items.items
  pub numbers_room : numbers.capacity ≡ items.capacity
  pub counted : length missing.items ≡ length items.items
  pub counts_room : missing.capacity ≡ items.capacity
  pub few_missing : missing_dropped ≤ dropped
  pub counts : (k : ℕ) → k ≤ length items.items
      → slice_index (missing_dropped ∷ missing.items) k ≡ missing_dropped + missing_before items.items k

-- so many places are used, of which some first ones are passed over, and there is one more than are needed
pub record IsSliding (start used capacity places : ℕ) : Type 0 where
  pub ordered : start ≤ used
  pub within : used ≤ start + capacity
  pub one_more : capacity < places
