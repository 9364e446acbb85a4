-- `keep S N`: an empty channel in place of what stood in a slot, of which the last N samples are kept.
use Rattle.std.specs.Prelude.{ℕ, nat_le, nat_lt, List, [], ◌∷◌}
use Rattle.mp_replies.specs.declared.causes.Cause.TheVariants.{Number, Slot}
use Rattle.mp_replies.specs.Change.{Change, PutKept}
use Rattle.mp_replies.specs.Command.{Command, KeepLast}
use Rattle.mp_replies.specs.Conditions.{Condition, when}
use Rattle.mp_replies.specs.Limits.{slot_count}
use Rattle.mp_replies.specs.Numbers.{kept, number}
use Rattle.mp_replies.specs.Shapes.{Shape, of_length, last, ◌&◌}

abbrev pub keep_shape : Shape (ℕ × ℕ)
keep_shape = record { fits = of_length 2; read = number & last kept }

abbrev pub keep_by : ℕ × ℕ → Command
keep_by (slot, keep) = KeepLast slot keep

-- ---- what is refused, and what is changed

-- fewer samples than a window has are no number to be kept
abbrev pub keep_conditions : ℕ → ℕ → ℕ → List Condition
keep_conditions m slot keep = when (nat_lt keep m) Number ∷ when (nat_le slot_count slot) Slot ∷ []

abbrev pub keep_change : ℕ → ℕ → Change
keep_change slot keep = PutKept slot keep
