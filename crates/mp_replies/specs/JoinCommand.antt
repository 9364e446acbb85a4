-- `join R Q`: the AB-join of a channel in another.
use Rattle.std.specs.Prelude.{ℕ, List, [], ◌∷◌, ◌++◌, codes, Option}
use Rattle.mp_nums.specs.declared.nearest.Near.{Near}
use Rattle.mp_defs.specs.Profile.{ab_join}
use Rattle.mp_replies.specs.Command.{Report, JoinReport}
use Rattle.mp_replies.specs.Conditions.{Condition, refs_conditions}
use Rattle.mp_replies.specs.declared.refs.Ref.{Ref}
use Rattle.mp_replies.specs.State.{State, Store, series_at}
use Rattle.mp_replies.specs.Text.{column_text}

abbrev pub join_conditions : List Store → Ref → Ref → List Condition
join_conditions stores a b = refs_conditions stores (a ∷ b ∷ [])

-- ---- the report

abbrev pub join_report : State → Ref → Ref → Report
join_report state a b = JoinReport (ab_join state.window (series_at state.stores a) (series_at state.stores b))

abbrev pub join_text : ℕ → List (Option Near) → List ℕ
join_text line slots = codes "join " ++ column_text line slots
