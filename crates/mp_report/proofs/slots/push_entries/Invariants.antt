use Rattle.std.proofs.Common.{◌≡◌, ◌++◌, take}
use Rattle.std.specs.Prelude.{flat_map}
use Rattle.std.specs.List.{enumerate_from}
use Rattle.mp_replies.specs.Text.{entry_line}
use Rattle.mp_report.proofs.slots.push_entries.Given as goal

abbrev pub invariant-loop-start : goal.invariant-loop-start
invariant-loop-start l =
    l.text.items ≡ l.initial.text.items ++ flat_map entry_line (enumerate_from 0 (take l.start l.slots))
