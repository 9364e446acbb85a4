-- `chain R J`: the chain from one window of a channel.
use Rattle.std.specs.Prelude.{ℕ, List, [], ◌∷◌, ◌++◌, length, codes, decimal, flat_map}
use Rattle.mp_results.specs.Chains.{chain_from}
use Rattle.mp_defs.specs.Profile.{Columns, matrix_profile}
use Rattle.mp_replies.specs.Command.{Report, ChainReport}
use Rattle.mp_replies.specs.Conditions.{Condition, no_window, ref_conditions}
use Rattle.mp_replies.specs.declared.refs.Ref.{Ref}
use Rattle.mp_replies.specs.State.{State, Store, series_at}

abbrev pub chain_conditions : ℕ → List Store → Ref → ℕ → List Condition
chain_conditions m stores at start =
    ref_conditions stores at ++ no_window m stores at start ∷ []

-- ---- the report

-- the chain from a window, by the left and the right column
abbrev pub chain_in : Columns → ℕ → List ℕ
chain_in columns start = chain_from columns.left columns.right start

abbrev pub chain_report : State → Ref → ℕ → Report
chain_report state at start =
    ChainReport (chain_in (matrix_profile state.window (series_at state.stores at)) start)

abbrev pub chain_text : ℕ → List ℕ → List ℕ
chain_text line chain =
    codes "chain " ++ decimal line ++ codes " " ++ decimal (length chain) ++ codes "\n"
    ++ flat_map (λ start. decimal start ++ codes "\n") chain
