-- Why a command is refused: of some conditions, in their order, the first that holds.
use Rattle.std.specs.Prelude.{ℕ, Bool, ◌||◌, false, nat_le, List, [], ◌∷◌, length, if◌then◌else◌, Option, Some, None}
use Rattle.std.specs.Prelude.{is_some, not}
use Rattle.mp_defs.specs.Window.{windows}
use Rattle.mp_replies.specs.declared.causes.Cause.{Cause}
use Rattle.mp_replies.specs.declared.causes.Cause.TheVariants.{Slot, Kept, Lazy, Channel, Index}
use Rattle.mp_replies.specs.declared.refs.Ref.{Ref}
use Rattle.mp_replies.specs.State.{Store, store_at, is_closed, is_lazy, keep_at, channels_at, series_at}

-- a word, and whether the command is refused by it where no word before it does
pub record Condition : Type 0 where
  pub holds : Bool
  pub word : Cause

abbrev pub when : Bool → Cause → Condition
when holds word = record { holds = holds; word = word }

abbrev pub first_cause : List Condition → Option Cause
first_cause [] = None
first_cause (condition ∷ others) = if condition.holds then Some condition.word else first_cause others

-- ---- conditions of several commands

-- the slot is above the last one, or it isn't open
abbrev pub no_slot : List Store → ℕ → Condition
no_slot stores slot = when (is_closed (store_at stores slot)) Slot

-- the last samples of the slot are kept, and no more
abbrev pub kept_slot : List Store → ℕ → Condition
kept_slot stores slot = when (is_some (keep_at stores slot)) Kept

-- the profile of the slot is made in parts
abbrev pub lazy_slot : List Store → ℕ → Condition
lazy_slot stores slot = when (is_lazy (store_at stores slot)) Lazy

-- it isn't
abbrev pub no_lazy_slot : List Store → ℕ → Condition
no_lazy_slot stores slot = when (not (is_lazy (store_at stores slot))) Lazy

-- the slot has no such channel
abbrev pub no_channel : List Store → Ref → Condition
no_channel stores at = when (nat_le (length (channels_at stores at.slot)) at.channel) Channel

-- one of these slots is above the last one, or isn't open
abbrev pub some_closed : List Store → List Ref → Bool
some_closed stores [] = false
some_closed stores (at ∷ others) = is_closed (store_at stores at.slot) || some_closed stores others

abbrev pub no_slots : List Store → List Ref → Condition
no_slots stores refs = when (some_closed stores refs) Slot

-- of one of these slots the last samples are kept, and no more
abbrev pub some_kept : List Store → List Ref → Bool
some_kept stores [] = false
some_kept stores (at ∷ others) = is_some (keep_at stores at.slot) || some_kept stores others

abbrev pub kept_slots : List Store → List Ref → Condition
kept_slots stores refs = when (some_kept stores refs) Kept

-- the profile of one of these slots is made in parts
abbrev pub some_lazy : List Store → List Ref → Bool
some_lazy stores [] = false
some_lazy stores (at ∷ others) = is_lazy (store_at stores at.slot) || some_lazy stores others

abbrev pub lazy_slots : List Store → List Ref → Condition
lazy_slots stores refs = when (some_lazy stores refs) Lazy

-- one of these refs names a channel that its slot hasn't
abbrev pub some_absent : List Store → List Ref → Bool
some_absent stores [] = false
some_absent stores (at ∷ others) =
    nat_le (length (channels_at stores at.slot)) at.channel || some_absent stores others

abbrev pub no_channels : List Store → List Ref → Condition
no_channels stores refs = when (some_absent stores refs) Channel

-- a ref names no channel of an open slot
abbrev pub ref_conditions : List Store → Ref → List Condition
ref_conditions stores at =
    no_slot stores at.slot ∷ kept_slot stores at.slot ∷ lazy_slot stores at.slot ∷ no_channel stores at ∷ []

-- one of these refs names none
abbrev pub refs_conditions : List Store → List Ref → List Condition
refs_conditions stores refs =
    no_slots stores refs ∷ kept_slots stores refs ∷ lazy_slots stores refs ∷ no_channels stores refs ∷ []

-- the series has no window that starts there
abbrev pub no_window : ℕ → List Store → Ref → ℕ → Condition
no_window m stores at start = when (nat_le (windows (length (series_at stores at)) m) start) Index
