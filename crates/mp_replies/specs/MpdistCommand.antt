-- `mpdist R Q`: MPdist of two channels.
use Rattle.std.specs.Prelude.{ℕ, List, [], ◌∷◌, ◌++◌, length, codes, decimal, Option, Some, None}
use Rattle.mp_nums.specs.declared.nearest.Sq.{Sq}
use Rattle.mp_defs.specs.Profile.{ab_join}
use Rattle.mp_defs.specs.Series.{Series}
use Rattle.mp_results.specs.Mpdist.{mpdist_of}
use Rattle.mp_replies.specs.Command.{Report, MpdistReport}
use Rattle.mp_replies.specs.Conditions.{Condition, refs_conditions}
use Rattle.mp_replies.specs.declared.refs.Ref.{Ref}
use Rattle.mp_replies.specs.State.{State, Store, series_at}

abbrev pub mpdist_conditions : List Store → Ref → Ref → List Condition
mpdist_conditions stores a b = refs_conditions stores (a ∷ b ∷ [])

-- ---- the report

-- of the joins in both directions
abbrev pub mpdist_between : ℕ → Series → Series → Option Sq
mpdist_between m a b = mpdist_of (ab_join m a b) (ab_join m b a) (length a) (length b)

abbrev pub mpdist_report : State → Ref → Ref → Report
mpdist_report state a b =
    MpdistReport (mpdist_between state.window (series_at state.stores a) (series_at state.stores b))

abbrev pub square_text : Option Sq → List ℕ
square_text None = codes "-"
square_text (Some square) = decimal square.0

abbrev pub mpdist_text : ℕ → Option Sq → List ℕ
mpdist_text line dist = codes "mpdist " ++ decimal line ++ codes " " ++ square_text dist ++ codes "\n"
