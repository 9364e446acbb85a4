-- How often a line reads samples before anything changes.
use Rattle.std.specs.Prelude.{◌≡◌, ℕ, ◌+◌, ◌≤◌, List, sum_by}
use Rattle.mp_replies.specs.declared.refs.Ref.{Ref}
use Rattle.mp_replies.specs.Line.{Asked}
use Rattle.mp_stores.specs.Stores.{StandAsBefore, Stored, lent_once, reads_at}
use Rattle.mp_requests.specs.Requests.{lends}

-- the most reads of these channels' samples in one slot
abbrev pub lent_in : Stored → List Ref → ℕ → ℕ
lent_in held refs slot = sum_by (λ at. lent_once held at slot) refs

-- the most reads of a slot's samples that are made before anything changes
abbrev pub most_lent : Stored → Asked → ℕ → ℕ
most_lent held asked slot = lent_in held (lends held asked) slot

-- no slot's count of reads was changed
abbrev pub AreUnread : Stored → Stored → Type 0
AreUnread old new = (slot : ℕ) → reads_at new slot ≡ reads_at old slot

-- each slot's count of reads rose, by no more than so much
pub record WereRead (most : ℕ → ℕ) (old new : Stored) : Type 0 where
  pub rise : (slot : ℕ) → reads_at old slot ≤ reads_at new slot
  pub within : (slot : ℕ) → reads_at new slot ≤ reads_at old slot + most slot

-- the slots hold what they held, and their samples were read no oftener than a line asks for before anything changes
pub record IsKept (asked : Asked) (old new : Stored) : Type 0 where
  pub stands : StandAsBefore old new
  pub read : WereRead (most_lent old asked) old new
