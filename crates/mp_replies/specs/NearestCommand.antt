-- `nearest R K`: for each window of a channel the K nearest ones, in their order.
use Rattle.std.specs.Prelude.{ℕ, List, [], ◌∷◌, ◌++◌, length, codes, decimal, flat_map}
use Rattle.std.specs.List.{enumerate_from}
use Rattle.mp_nums.specs.declared.nearest.Near.{Near}
use Rattle.mp_results.specs.Ranks.{ranks_of}
use Rattle.mp_replies.specs.Command.{Report, NearestReport}
use Rattle.mp_replies.specs.Conditions.{Condition, ref_conditions}
use Rattle.mp_replies.specs.Numbers.{rank_count, ref}
use Rattle.mp_replies.specs.Shapes.{Shape, of_length, last, ◌&◌}
use Rattle.mp_replies.specs.declared.refs.Ref.{Ref}
use Rattle.mp_replies.specs.State.{State, Store, series_at}
use Rattle.mp_replies.specs.Text.{pair_text}

abbrev pub nearest_shape : Shape (Ref × ℕ)
nearest_shape = record { fits = of_length 2; read = ref & last rank_count }

abbrev pub nearest_conditions : List Store → Ref → List Condition
nearest_conditions stores at = ref_conditions stores at

-- ---- the report

abbrev pub nearest_report : State → Ref → ℕ → Report
nearest_report state at k = NearestReport (ranks_of k state.window (series_at state.stores at))

-- a window behind a space: its distance and its start
abbrev pub ranked_text : Near → List ℕ
ranked_text near = codes " " ++ pair_text near

-- one window: its start, how many are nearest to it, and these
abbrev pub ranks_text : ℕ × List Near → List ℕ
ranks_text (start, list) =
    decimal start ++ codes " " ++ decimal (length list) ++ flat_map ranked_text list ++ codes "\n"

abbrev pub nearest_text : ℕ → List (List Near) → List ℕ
nearest_text line lists =
    codes "nearest " ++ decimal line ++ codes " " ++ decimal (length lists) ++ codes "\n"
    ++ flat_map ranks_text (enumerate_from 0 lists)
