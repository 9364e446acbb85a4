use Rattle.std.proofs.Common.{take}
use Rattle.mp_replies.specs.Json.{near_object}
use Rattle.mp_report.specs.Tokens.{tokens_of_each, Adds}
use Rattle.mp_report.proofs.json_lines.values.push_each_near.Given as goal

abbrev pub invariant-loop-near : goal.invariant-loop-near
invariant-loop-near l = Adds l.initial.json l.json (tokens_of_each near_object (take l.near-index l.list))
