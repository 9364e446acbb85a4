-- `match R Q I RADIUS MAX`: the windows of a channel that match a window of another.
use Rattle.std.specs.Prelude.{ℕ, not, List, [], ◌∷◌, ◌++◌, length, codes, decimal, flat_map, None}
use Rattle.mp_nums.specs.declared.nearest.Near.{Near}
use Rattle.mp_defs.specs.Series.{Series}
use Rattle.mp_defs.specs.Window.{excl, is_free}
use Rattle.mp_results.specs.Slide.{distances_of}
use Rattle.mp_results.specs.Matches.{matches}
use Rattle.mp_replies.specs.declared.causes.Cause.TheVariants.{Missing}
use Rattle.mp_replies.specs.Command.{Report, MatchReport}
use Rattle.mp_replies.specs.Command.{Command, Match}
use Rattle.mp_replies.specs.Conditions.{Condition, when, no_window, refs_conditions}
use Rattle.mp_replies.specs.Numbers.{number, count, squared, ref}
use Rattle.mp_replies.specs.Shapes.{Shape, of_length, last, ◌&◌}
use Rattle.mp_replies.specs.declared.refs.Ref.{Ref}
use Rattle.mp_replies.specs.State.{State, Store, series_at}
use Rattle.mp_replies.specs.Text.{near_text}
use Rattle.mp_replies.specs.WindowCommand.{window_at}

abbrev pub match_shape : Shape (Ref × (Ref × (ℕ × (ℕ × ℕ))))
match_shape = record { fits = of_length 5; read = ref & ref & number & squared & last count }

abbrev pub match_by : Ref × (Ref × (ℕ × (ℕ × ℕ))) → Command
match_by (at, (query, (start, (radius, max)))) = Match at query start radius max

-- a window with a missing sample has no distance to any other
abbrev pub match_conditions : ℕ → List Store → Ref → Ref → ℕ → List Condition
match_conditions m stores at query start =
    refs_conditions stores (at ∷ query ∷ [])
    ++ no_window m stores query start
    ∷ when (not (is_free m (series_at stores query) start)) Missing
    ∷ []

-- ---- the report

abbrev pub matches_in : ℕ → Series → Series → ℕ → ℕ → ℕ → List Near
matches_in m series query start radius max =
    matches (distances_of (window_at m query start) series) (excl m) None radius max

abbrev pub match_report : State → Ref → Ref → ℕ → ℕ → ℕ → Report
match_report state at query start radius max =
    MatchReport
    (matches_in state.window (series_at state.stores at) (series_at state.stores query) start radius max)

abbrev pub match_text : ℕ → List Near → List ℕ
match_text line list =
    codes "match " ++ decimal line ++ codes " " ++ decimal (length list) ++ codes "\n" ++ flat_map near_text list
