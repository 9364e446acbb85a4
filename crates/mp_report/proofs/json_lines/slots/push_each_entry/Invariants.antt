use Rattle.std.proofs.Common.{take}
use Rattle.std.specs.List.{enumerate_from}
use Rattle.mp_replies.specs.Json.{entry_object}
use Rattle.mp_report.specs.Tokens.{tokens_of_each, Adds}
use Rattle.mp_report.proofs.json_lines.slots.push_each_entry.Given as goal

abbrev pub invariant-loop-start : goal.invariant-loop-start
invariant-loop-start l =
    Adds l.initial.json l.json (tokens_of_each entry_object (enumerate_from 0 (take l.start l.slots)))
