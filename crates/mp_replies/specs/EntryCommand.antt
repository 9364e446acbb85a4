-- `entry R I`: the entry of one window.
use Rattle.std.specs.Prelude.{ℕ, Bool, nat_le, List, [], ◌∷◌, ◌++◌, length, codes, decimal, slice_index_or}
use Rattle.std.specs.Prelude.{Option, Some, None}
use Rattle.mp_nums.specs.declared.nearest.Near.{Near}
use Rattle.mp_defs.specs.Profile.{Columns, matrix_profile, entry, left_entry, right_entry}
use Rattle.mp_defs.specs.Series.{Series}
use Rattle.mp_defs.specs.Window.{windows}
use Rattle.mp_replies.specs.declared.causes.Cause.TheVariants.{Index}
use Rattle.mp_defs.specs.Band.{is_allowed_in}
use Rattle.mp_replies.specs.Band.{is_dropped}
use Rattle.mp_replies.specs.Command.{Report, EntryReport}
use Rattle.mp_replies.specs.Conditions.{Condition, when, no_slot, lazy_slot, no_channel}
use Rattle.mp_replies.specs.declared.refs.Ref.{Ref}
use Rattle.mp_replies.specs.State.{State, Store, keep_at, series_at}
use Rattle.mp_replies.specs.Text.{row_text}

-- of a series of which all samples are kept, or the last ones, no window that is reported starts there
abbrev pub is_absent : Option ℕ → ℕ → Series → ℕ → Bool
is_absent None m a start = nat_le (windows (length a) m) start
is_absent (Some keep) m a start = is_dropped keep m (length a) start

abbrev pub no_entry : ℕ → List Store → Ref → ℕ → Condition
no_entry m stores at start = when (is_absent (keep_at stores at.slot) m (series_at stores at) start) Index

abbrev pub entry_conditions : ℕ → List Store → Ref → ℕ → List Condition
entry_conditions m stores at start =
    no_slot stores at.slot ∷ lazy_slot stores at.slot ∷ no_channel stores at ∷ no_entry m stores at start ∷ []

-- ---- the report

-- what stands at a window in each column
abbrev pub entry_in : Columns → ℕ → Report
entry_in columns start =
    EntryReport start (slice_index_or columns.all start None) (slice_index_or columns.left start None)
    (slice_index_or columns.right start None)

-- of a live window
abbrev pub live_entry : ℕ → ℕ → Series → ℕ → Report
live_entry keep m a start =
    EntryReport start (entry (is_allowed_in keep m) m a start) (left_entry (is_allowed_in keep m) m a start)
    (right_entry (is_allowed_in keep m) m a start)

abbrev pub entry_of : Option ℕ → ℕ → Series → ℕ → Report
entry_of None m a start = entry_in (matrix_profile m a) start
entry_of (Some keep) m a start = live_entry keep m a start

abbrev pub entry_report : State → Ref → ℕ → Report
entry_report state at start =
    entry_of (keep_at state.stores at.slot) state.window (series_at state.stores at) start

abbrev pub entry_text : ℕ → ℕ → Option Near → Option Near → Option Near → List ℕ
entry_text line start all left right = codes "entry " ++ decimal line ++ codes " " ++ row_text start all left right
