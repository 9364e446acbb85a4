-- `consensus R R ..`: the window that several channels have in common.
use Rattle.std.specs.Prelude.{ℕ, Bool, ◌&&◌, nat_le, List, [], ◌∷◌, ◌++◌, length, map, codes, decimal, flat_map}
use Rattle.std.specs.Prelude.{Option, Some, None}
use Rattle.std.specs.List.{enumerate_from}
use Rattle.mp_nums.specs.declared.nearest.Near.{Near}
use Rattle.mp_results.specs.Consensus.{Central, centre_of}
use Rattle.mp_replies.specs.Command.{Report, ConsensusReport}
use Rattle.mp_replies.specs.Command.{Command, Consensus}
use Rattle.mp_replies.specs.Conditions.{Condition, refs_conditions}
use Rattle.mp_replies.specs.Limits.{min_refs, max_refs}
use Rattle.mp_replies.specs.Numbers.{refs}
use Rattle.mp_replies.specs.Shapes.{Shape}
use Rattle.mp_replies.specs.declared.refs.Ref.{Ref}
use Rattle.mp_replies.specs.State.{State, Store, series_at}
use Rattle.mp_replies.specs.Text.{near_text}

-- 2 to 64 refs behind the word
abbrev pub consensus_fits : List (List ℕ) → Bool
consensus_fits others = nat_le min_refs (length others) && nat_le (length others) max_refs

abbrev pub consensus_shape : Shape (List Ref)
consensus_shape = record { fits = consensus_fits; read = refs }

abbrev pub consensus_by : List Ref → Command
consensus_by list = Consensus list

abbrev pub consensus_conditions : List Store → List Ref → List Condition
consensus_conditions stores list = refs_conditions stores list

-- ---- the report

abbrev pub consensus_report : State → List Ref → Report
consensus_report state list = ConsensusReport (centre_of state.window (map (series_at state.stores) list))

-- at a place of the list, counted from 0, the nearest window there
abbrev pub place_near_text : ℕ × Near → List ℕ
place_near_text (place, near) = decimal place ++ codes " " ++ near_text near

abbrev pub centre_text : Option Central → List ℕ
centre_text None = codes "-\n"
centre_text (Some centre) =
    decimal centre.radius ++ codes " " ++ decimal centre.series ++ codes " " ++ decimal centre.start ++ codes "\n"
    ++ flat_map place_near_text (enumerate_from 0 centre.nearest)

abbrev pub consensus_text : ℕ → Option Central → List ℕ
consensus_text line centre = codes "consensus " ++ decimal line ++ codes " " ++ centre_text centre
