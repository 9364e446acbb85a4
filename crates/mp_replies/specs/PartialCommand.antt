-- `partial S`: the profile of those diagonals of a slot that are covered.
use Rattle.std.specs.Prelude.{ℕ, List, [], ◌∷◌, ◌++◌, length, codes, decimal, slice_index_or}
use Rattle.mp_defs.specs.Profile.{Columns}
use Rattle.mp_defs.specs.Series.{Series}
use Rattle.mp_results.specs.LazyProfile.{lazy_profile}
use Rattle.mp_replies.specs.AdvanceCommand.{left_at}
use Rattle.mp_replies.specs.Command.{Report, PartialReport}
use Rattle.mp_replies.specs.Conditions.{Condition, no_slot, kept_slot, no_lazy_slot}
use Rattle.mp_replies.specs.ProfileCommand.{rows_text}
use Rattle.mp_replies.specs.State.{State, Store, channels_at, covered_at}

abbrev pub partial_conditions : List Store → ℕ → List Condition
partial_conditions stores slot = no_slot stores slot ∷ kept_slot stores slot ∷ no_lazy_slot stores slot ∷ []

-- ---- the report

-- the series of a slot of one channel
abbrev pub only_series : List Store → ℕ → Series
only_series stores slot = slice_index_or (channels_at stores slot) 0 []

abbrev pub partial_report : State → ℕ → Report
partial_report state slot =
    PartialReport (lazy_profile state.window (covered_at state.stores slot) (only_series state.stores slot))
    (left_at state slot)

-- how many windows there are, how many diagonals are left, and a line for each window
abbrev pub partial_text : ℕ → Columns → ℕ → List ℕ
partial_text line columns left =
    codes "partial " ++ decimal line ++ codes " " ++ decimal (length columns.all) ++ codes " " ++ decimal left
    ++ codes "\n" ++ rows_text columns
