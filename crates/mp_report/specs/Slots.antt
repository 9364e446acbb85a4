-- Reports of one slot for each window, by their names.
use Rattle.std.specs.Prelude.{ℕ, List, codes, Option}
use Rattle.mp_nums.specs.declared.nearest.Near.{Near}
use Rattle.mp_replies.specs.JoinCommand.{join_text}
use Rattle.mp_replies.specs.MultiCommand.{multi_text}
use Rattle.mp_report.specs.declared.slots.SlotsName.{SlotsName}
use Rattle.mp_report.specs.declared.slots.SlotsName.TheVariants.{Join, Multi}

abbrev pub slots_text_of : SlotsName → ℕ → List (Option Near) → List ℕ
slots_text_of Join line slots = join_text line slots
slots_text_of Multi line slots = multi_text line slots

abbrev pub slots_word : SlotsName → List ℕ
slots_word Join = codes "join "
slots_word Multi = codes "multi "

-- the kind of report in JSON
abbrev pub slots_kind : SlotsName → List ℕ
slots_kind Join = codes "join"
slots_kind Multi = codes "multi"
