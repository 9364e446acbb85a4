-- `profile R`: the matrix profile of a channel.
use Rattle.std.specs.Prelude.{ℕ, ◌+◌, List, [], ◌∷◌, ◌++◌, length, codes, decimal, flat_map, slice_index_or}
use Rattle.std.specs.Prelude.{Option, Some, None}
use Rattle.std.specs.List.{range_with_len}
use Rattle.mp_defs.specs.Profile.{Columns, matrix_profile}
use Rattle.mp_defs.specs.Series.{Series}
use Rattle.mp_defs.specs.Band.{first_kept}
use Rattle.mp_replies.specs.Band.{live_profile}
use Rattle.mp_replies.specs.Command.{Report, ProfileReport, LiveProfileReport}
use Rattle.mp_replies.specs.Conditions.{Condition, no_slot, lazy_slot, no_channel}
use Rattle.mp_replies.specs.declared.refs.Ref.{Ref}
use Rattle.mp_replies.specs.State.{State, Store, keep_at, series_at}
use Rattle.mp_replies.specs.Text.{row_text}

abbrev pub profile_conditions : List Store → Ref → List Condition
profile_conditions stores at = no_slot stores at.slot ∷ lazy_slot stores at.slot ∷ no_channel stores at ∷ []

-- ---- the report

-- of a series of which all samples are kept, or the last ones
abbrev pub profile_of : Option ℕ → ℕ → Series → Report
profile_of None m a = ProfileReport (matrix_profile m a)
profile_of (Some keep) m a = LiveProfileReport (first_kept keep (length a)) (live_profile keep m a)

abbrev pub profile_report : State → Ref → Report
profile_report state at =
    profile_of (keep_at state.stores at.slot) state.window (series_at state.stores at)

-- the line of the window at a start
abbrev pub row_at : Columns → ℕ → List ℕ
row_at columns start =
    row_text start (slice_index_or columns.all start None) (slice_index_or columns.left start None)
    (slice_index_or columns.right start None)

-- a line for each window
abbrev pub rows_text : Columns → List ℕ
rows_text columns = flat_map (row_at columns) (range_with_len 0 (length columns.all))

abbrev pub profile_text : ℕ → Columns → List ℕ
profile_text line columns =
    codes "profile " ++ decimal line ++ codes " " ++ decimal (length columns.all) ++ codes "\n" ++ rows_text columns

-- ---- of live windows

-- the line of the live window at a place, by the start of the first one
abbrev pub live_row_at : ℕ → Columns → ℕ → List ℕ
live_row_at first columns place =
    row_text (first + place) (slice_index_or columns.all place None) (slice_index_or columns.left place None)
    (slice_index_or columns.right place None)

-- a line for each live window
abbrev pub live_rows_text : ℕ → Columns → List ℕ
live_rows_text first columns = flat_map (live_row_at first columns) (range_with_len 0 (length columns.all))

abbrev pub live_profile_text : ℕ → ℕ → Columns → List ℕ
live_profile_text line first columns =
    codes "profile " ++ decimal line ++ codes " " ++ decimal (length columns.all) ++ codes "\n"
    ++ live_rows_text first columns
