-- `window R I`: the samples of a window.
use Rattle.std.specs.Prelude.{ℕ, List, [], ◌∷◌, ◌++◌, take, drop, codes, decimal, flat_map}
use Rattle.mp_defs.specs.Series.{Series}
use Rattle.mp_text.specs.SampleText.{sample_text}
use Rattle.mp_replies.specs.Command.{Report, WindowReport}
use Rattle.mp_replies.specs.Conditions.{Condition, no_window, ref_conditions}
use Rattle.mp_replies.specs.declared.refs.Ref.{Ref}
use Rattle.mp_replies.specs.State.{State, Store, series_at}

abbrev pub window_conditions : ℕ → List Store → Ref → ℕ → List Condition
window_conditions m stores at start =
    ref_conditions stores at ++ no_window m stores at start ∷ []

-- ---- the report

-- so many samples from a start on
abbrev pub window_at : ℕ → Series → ℕ → Series
window_at m series start = take m (drop start series)

abbrev pub window_report : State → Ref → ℕ → Report
window_report state at start = WindowReport start (window_at state.window (series_at state.stores at) start) state.scale

-- samples, each behind a space
abbrev pub samples_text : ℕ → Series → List ℕ
samples_text scale samples = flat_map (λ sample. codes " " ++ sample_text scale sample) samples

abbrev pub window_text : ℕ → ℕ → Series → ℕ → List ℕ
window_text line start samples scale =
    codes "window " ++ decimal line ++ codes " " ++ decimal start ++ samples_text scale samples ++ codes "\n"
