-- `pan R LO HI`: for each window length of a range the nearest pair of a channel's windows, and the most unusual one.
use Rattle.std.specs.Prelude.{ℕ, ◌+◌, ◌&&◌, Bool, nat_le, List, [], ◌∷◌, ◌++◌, length, codes, decimal, flat_map}
use Rattle.std.specs.Prelude.{if◌then◌else◌, Option, Some, None, option_map, option_and_then}
use Rattle.mp_nums.specs.declared.finds.Discord.{Discord}
use Rattle.mp_nums.specs.declared.finds.PanRow.{PanRow}
use Rattle.mp_nums.specs.declared.finds.Pair.{Pair}
use Rattle.mp_defs.specs.Limits.{max_window, min_window}
use Rattle.mp_results.specs.Pan.{pan_of}
use Rattle.mp_replies.specs.Command.{Report, PanReport}
use Rattle.mp_replies.specs.Conditions.{Condition, ref_conditions}
use Rattle.mp_replies.specs.Limits.{max_lengths}
use Rattle.mp_replies.specs.Numbers.{number, ref}
use Rattle.mp_replies.specs.Shapes.{Shape, of_length, last, ◌&◌}
use Rattle.mp_replies.specs.declared.refs.Ref.{Ref}
use Rattle.mp_replies.specs.State.{State, Store, series_at}
use Rattle.mp_replies.specs.Text.{pair_text}

-- ---- its fields

-- there are windows of these lengths, from a least one to a greatest, and not too many
abbrev pub are_lengths : ℕ → ℕ → Bool
are_lengths lo hi =
    nat_le min_window lo && (nat_le lo hi && (nat_le hi max_window && nat_le (hi + 1) (lo + max_lengths)))

abbrev pub lengths_by : ℕ × ℕ → Option (ℕ × ℕ)
lengths_by (lo, hi) = if are_lengths lo hi then Some (lo, hi) else None

-- a least and a greatest window length
abbrev pub lengths : List (List ℕ) → Option (ℕ × ℕ)
lengths fields = option_and_then lengths_by ((number & last number) fields)

abbrev pub pan_shape : Shape (Ref × (ℕ × ℕ))
pan_shape = record { fits = of_length 3; read = ref & lengths }

abbrev pub pan_conditions : List Store → Ref → List Condition
pan_conditions stores at = ref_conditions stores at

-- ---- the report

abbrev pub pan_report : State → Ref → ℕ → ℕ → Report
pan_report state at lo hi = PanReport (pan_of lo hi (series_at state.stores at))

-- the distance, the start of a window and that of its nearest one, each a dash where there is none
abbrev pub found_text : Option Discord → List ℕ
found_text None = codes "- - -"
found_text (Some found) =
    decimal found.near.dist.0 ++ codes " " ++ decimal found.start ++ codes " " ++ decimal found.near.index

abbrev pub of_pair : Pair → Discord
of_pair pair = record { start = pair.start; near = pair.near }

-- one window length: how many windows there are, the nearest pair and the most unusual window
abbrev pub length_text : PanRow → List ℕ
length_text row =
    decimal row.length ++ codes " " ++ decimal row.windows ++ codes " " ++ found_text (option_map of_pair row.best)
    ++ codes " " ++ found_text row.discord ++ codes "\n"

abbrev pub pan_text : ℕ → List PanRow → List ℕ
pan_text line rows =
    codes "pan " ++ decimal line ++ codes " " ++ decimal (length rows) ++ codes "\n" ++ flat_map length_text rows
