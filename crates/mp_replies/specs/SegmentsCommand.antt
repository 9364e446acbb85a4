-- `segments R COUNT FACTOR`: the places where a channel changes its regime.
use Rattle.std.specs.Prelude.{ℕ, ◌*◌, List, [], ◌∷◌, ◌++◌, length, slice_index_or, codes, decimal, flat_map}
use Rattle.std.specs.Prelude.{Option}
use Rattle.mp_nums.specs.declared.nearest.Near.{Near}
use Rattle.mp_results.specs.Arcs.{arcs_of, indices_of}
use Rattle.mp_results.specs.Curve.{curve_of, whole}
use Rattle.mp_results.specs.Regimes.{regimes_in}
use Rattle.mp_defs.specs.Profile.{matrix_profile}
use Rattle.mp_replies.specs.Command.{Report, SegmentsReport}
use Rattle.mp_replies.specs.Command.{Command, Segments}
use Rattle.mp_replies.specs.Conditions.{Condition, ref_conditions}
use Rattle.mp_replies.specs.Numbers.{count, factor, ref}
use Rattle.mp_replies.specs.Shapes.{Shape, of_length, last, ◌&◌}
use Rattle.mp_replies.specs.declared.refs.Ref.{Ref}
use Rattle.mp_replies.specs.State.{State, Store, series_at}

abbrev pub segments_shape : Shape (Ref × (ℕ × ℕ))
segments_shape = record { fits = of_length 3; read = ref & count & last factor }

abbrev pub segments_by : Ref × (ℕ × ℕ) → Command
segments_by (at, (most, lengths)) = Segments at most lengths

abbrev pub segments_conditions : List Store → Ref → List Condition
segments_conditions stores at = ref_conditions stores at

-- ---- the report

-- the corrected curve of the arcs of a column, with a margin of so many window lengths
abbrev pub curve_in : ℕ → List (Option Near) → ℕ → List (ℕ × ℕ)
curve_in m column lengths = curve_of (arcs_of (indices_of column)) m lengths

-- the regimes of a curve, each with a zone of so many window lengths, and the curve that they lie on
abbrev pub segments_in : ℕ → List (ℕ × ℕ) → ℕ → ℕ → Report
segments_in m curve most lengths = SegmentsReport (regimes_in curve (lengths * m) most) curve

abbrev pub segments_report : State → Ref → ℕ → ℕ → Report
segments_report state at most lengths =
    segments_in state.window
    (curve_in state.window (matrix_profile state.window (series_at state.stores at)).all lengths) most lengths

-- a fraction by its two numbers, as it stands
abbrev pub fraction_text : ℕ × ℕ → List ℕ
fraction_text (num, den) = decimal num ++ codes "/" ++ decimal den

-- a place, with what the curve is there
abbrev pub segment_text : List (ℕ × ℕ) → ℕ → List ℕ
segment_text curve place =
    decimal place ++ codes " " ++ fraction_text (slice_index_or curve place whole) ++ codes "\n"

abbrev pub segments_text : ℕ → List ℕ → List (ℕ × ℕ) → List ℕ
segments_text line places curve =
    codes "segments " ++ decimal line ++ codes " " ++ decimal (length places) ++ codes "\n"
    ++ flat_map (segment_text curve) places
