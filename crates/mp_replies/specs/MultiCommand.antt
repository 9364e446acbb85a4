-- `multi S K`: the multidimensional profile of a slot's channels, K of them together.
use Rattle.std.specs.Prelude.{ℕ, ◌||◌, not, nat_le, List, [], ◌∷◌, ◌++◌, length, codes, Option}
use Rattle.mp_nums.specs.declared.nearest.Near.{Near}
use Rattle.mp_results.specs.Multi.{multi_of as multi_profile}
use Rattle.mp_replies.specs.declared.causes.Cause.TheVariants.{Channel}
use Rattle.mp_replies.specs.Command.{Report, MultiReport}
use Rattle.mp_replies.specs.Conditions.{Condition, when, no_slot, kept_slot, lazy_slot}
use Rattle.mp_replies.specs.State.{State, Store, channels_at}
use Rattle.mp_replies.specs.Text.{column_text}

abbrev pub multi_conditions : List Store → ℕ → ℕ → List Condition
multi_conditions stores slot k =
    no_slot stores slot
    ∷ kept_slot stores slot
    ∷ lazy_slot stores slot
    ∷ when (not (nat_le 1 k) || not (nat_le k (length (channels_at stores slot)))) Channel
    ∷ []

-- ---- the report

abbrev pub multi_report : State → ℕ → ℕ → Report
multi_report state slot k = MultiReport (multi_profile state.window k (channels_at state.stores slot))

abbrev pub multi_text : ℕ → List (Option Near) → List ℕ
multi_text line slots = codes "multi " ++ column_text line slots
