-- `motifs R COUNT CUTOFF RADIUS NEIGHBOURS MATCHES`: the repeated patterns of a channel.
use Rattle.std.specs.Prelude.{ℕ, List, [], ◌∷◌, ◌++◌, length, codes, decimal, flat_map}
use Rattle.mp_results.specs.Motifs.{MotifQuery, Repeated, motifs}
use Rattle.mp_replies.specs.Command.{Report, MotifsReport}
use Rattle.mp_replies.specs.Command.{Command, Motifs}
use Rattle.mp_replies.specs.Conditions.{Condition, ref_conditions}
use Rattle.mp_replies.specs.Numbers.{few, squared, neighbours, ref}
use Rattle.mp_replies.specs.Shapes.{Shape, of_length, last, ◌&◌}
use Rattle.mp_replies.specs.declared.refs.Ref.{Ref}
use Rattle.mp_replies.specs.State.{State, Store, series_at}
use Rattle.mp_replies.specs.Text.{near_text}

abbrev pub motif_query : ℕ → ℕ → ℕ → ℕ → ℕ → MotifQuery
motif_query count cutoff radius neighbours matches =
    record { cutoff = cutoff; radius = radius; neighbours = neighbours; max_matches = matches; count = count }

abbrev pub motifs_shape : Shape (Ref × (ℕ × (ℕ × (ℕ × (ℕ × ℕ)))))
motifs_shape = record { fits = of_length 6; read = ref & few & squared & squared & neighbours & last few }

abbrev pub motifs_by : Ref × (ℕ × (ℕ × (ℕ × (ℕ × ℕ)))) → Command
motifs_by (at, (count, (cutoff, (radius, (neighbours, matches))))) =
    Motifs at (motif_query count cutoff radius neighbours matches)

abbrev pub motifs_conditions : List Store → Ref → List Condition
motifs_conditions stores at = ref_conditions stores at

-- ---- the report

abbrev pub motifs_report : State → Ref → MotifQuery → Report
motifs_report state at query = MotifsReport (motifs state.window (series_at state.stores at) query)

-- a window, and the windows that match it, itself as the first
abbrev pub motif_text : Repeated → List ℕ
motif_text motif =
    codes "motif " ++ decimal motif.start ++ codes " " ++ decimal (length motif.matches) ++ codes "\n"
    ++ flat_map near_text motif.matches

abbrev pub motifs_text : ℕ → List Repeated → List ℕ
motifs_text line list =
    codes "motifs " ++ decimal line ++ codes " " ++ decimal (length list) ++ codes "\n" ++ flat_map motif_text list
