use Rattle.std.proofs.Common.{take, map}
use Rattle.mp_replies.specs.Json.{listed, number_of}
use Rattle.mp_report.specs.Tokens.{tokens_of_each, Adds}
use Rattle.mp_report.proofs.json_lines.chains.push_each_chain.Given as goal

abbrev pub invariant-loop-chain : goal.invariant-loop-chain
invariant-loop-chain l =
    Adds l.initial.json l.json
    (tokens_of_each (listed number_of) (map (λ chain. chain.items) (take l.chain-index l.chains)))
