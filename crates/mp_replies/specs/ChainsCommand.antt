-- `chains R`: all chains of a channel.
use Rattle.std.specs.Prelude.{ℕ, List, [], ◌∷◌, ◌++◌, length, codes, decimal, flat_map, Option, Some, None}
use Rattle.mp_results.specs.Chains.{chains_of, longest_of}
use Rattle.mp_defs.specs.Profile.{Columns, matrix_profile}
use Rattle.mp_replies.specs.Command.{Report, ChainsReport}
use Rattle.mp_replies.specs.Conditions.{Condition, ref_conditions}
use Rattle.mp_replies.specs.declared.refs.Ref.{Ref}
use Rattle.mp_replies.specs.State.{State, Store, series_at}

abbrev pub chains_conditions : List Store → Ref → List Condition
chains_conditions stores at = ref_conditions stores at

-- ---- the report

-- all chains, by the left and the right column
abbrev pub chains_in : Columns → List (List ℕ)
chains_in columns = chains_of columns.left columns.right

abbrev pub chains_report : State → Ref → Report
chains_report state at = ChainsReport (chains_in (matrix_profile state.window (series_at state.stores at)))

-- the place of a chain among all, counted from 0
abbrev pub place_text : Option ℕ → List ℕ
place_text None = codes "-"
place_text (Some place) = decimal place

-- its windows, with a space between them
abbrev pub starts_text : List ℕ → List ℕ
starts_text [] = codes "\n"
starts_text (start ∷ starts) = decimal start ++ flat_map (λ next. codes " " ++ decimal next) starts ++ codes "\n"

abbrev pub chains_text : ℕ → List (List ℕ) → Option ℕ → List ℕ
chains_text line chains longest =
    codes "chains " ++ decimal line ++ codes " " ++ decimal (length chains) ++ codes " " ++ place_text longest
    ++ codes "\n" ++ flat_map starts_text chains

abbrev pub all_chains_text : ℕ → List (List ℕ) → List ℕ
all_chains_text line chains = chains_text line chains (longest_of chains)
