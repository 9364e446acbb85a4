-- `open S C`: empty channels in place of what stood in a slot.
use Rattle.std.specs.Prelude.{ℕ, ◌||◌, not, nat_le, List, [], ◌∷◌, replicate}
use Rattle.mp_replies.specs.declared.causes.Cause.TheVariants.{Slot, Channel}
use Rattle.mp_replies.specs.Change.{Change, PutChannels}
use Rattle.mp_replies.specs.Conditions.{Condition, when}
use Rattle.mp_replies.specs.Limits.{slot_count, max_channels}

-- ---- what is refused, and what is changed

abbrev pub open_conditions : ℕ → ℕ → List Condition
open_conditions slot channels =
    when (nat_le slot_count slot) Slot
    ∷ when (not (nat_le 1 channels) || not (nat_le channels max_channels)) Channel
    ∷ []

abbrev pub open_change : ℕ → ℕ → Change
open_change slot channels = PutChannels slot (replicate channels [])
