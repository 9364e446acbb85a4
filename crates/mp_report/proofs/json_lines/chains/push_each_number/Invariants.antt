use Rattle.std.proofs.Common.{take}
use Rattle.mp_replies.specs.Json.{number_of}
use Rattle.mp_report.specs.Tokens.{tokens_of_each, Adds}
use Rattle.mp_report.proofs.json_lines.chains.push_each_number.Given as goal

abbrev pub invariant-loop-number : goal.invariant-loop-number
invariant-loop-number l = Adds l.initial.json l.json (tokens_of_each number_of (take l.number-index l.numbers))
