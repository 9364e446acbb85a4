use Rattle.std.proofs.Common.{take}
use Rattle.mp_replies.specs.Json.{length_object}
use Rattle.mp_report.specs.Tokens.{tokens_of_each, Adds}
use Rattle.mp_report.proofs.json_lines.pans.push_each_length.Given as goal

abbrev pub invariant-loop-row : goal.invariant-loop-row
invariant-loop-row l = Adds l.initial.json l.json (tokens_of_each length_object (take l.row-index l.rows))
