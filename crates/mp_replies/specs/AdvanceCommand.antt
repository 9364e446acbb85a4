-- `advance S K`: so many more diagonals of a slot are covered, or all that are left.
use Rattle.std.specs.Prelude.{ℕ, ◌-◌, List, [], ◌∷◌, ◌++◌, length, codes, decimal}
use Rattle.mp_defs.specs.Window.{windows}
use Rattle.mp_results.specs.Covering.{uncovered}
use Rattle.mp_replies.specs.Change.{Change, CoverNext}
use Rattle.mp_replies.specs.Command.{Report, AdvanceReport}
use Rattle.mp_replies.specs.Conditions.{Condition, no_slot, kept_slot, no_lazy_slot}
use Rattle.mp_replies.specs.State.{State, Store, channels_at, covered_at, samples_in}

abbrev pub advance_conditions : List Store → ℕ → List Condition
advance_conditions stores slot = no_slot stores slot ∷ kept_slot stores slot ∷ no_lazy_slot stores slot ∷ []

abbrev pub advance_change : ℕ → ℕ → Change
advance_change slot count = CoverNext slot count

-- ---- the report

-- how many diagonals of a slot aren't covered
abbrev pub left_at : State → ℕ → ℕ
left_at state slot =
    length
    (uncovered state.window (windows (samples_in (channels_at state.stores slot)) state.window)
    (covered_at state.stores slot))

-- how many were covered between two states
abbrev pub done_between : State → State → ℕ → ℕ
done_between before behind slot = length (covered_at behind.stores slot) - length (covered_at before.stores slot)

abbrev pub advance_report : State → State → ℕ → Report
advance_report before behind slot = AdvanceReport (done_between before behind slot) (left_at behind slot)

abbrev pub advance_text : ℕ → ℕ → ℕ → List ℕ
advance_text line done left =
    codes "advance " ++ decimal line ++ codes " " ++ decimal done ++ codes " " ++ decimal left ++ codes "\n"
