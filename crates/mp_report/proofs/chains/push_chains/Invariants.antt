use Rattle.std.proofs.Common.{◌≡◌, ◌++◌, take, map}
use Rattle.std.specs.Prelude.{flat_map}
use Rattle.mp_replies.specs.ChainsCommand.{starts_text}
use Rattle.mp_report.proofs.chains.push_chains.Given as goal

abbrev pub invariant-loop-chain : goal.invariant-loop-chain
invariant-loop-chain l =
    l.text.items ≡ l.initial.text.items
    ++ flat_map starts_text (map (λ chain. chain.items) (take l.chain-index l.chains))
