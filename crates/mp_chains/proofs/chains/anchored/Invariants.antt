use Rattle.std.proofs.Common.{◌≡◌, ◌-◌, ◌<◌, [], ◌++◌, length}
use Rattle.std.specs.Option.{option_map_or}
use Rattle.mp_results.specs.Chains.{successor, chain_from}
use Rattle.mp_chains.proofs.chains.anchored.Given as goal

-- what is there, and then the chain from the successor of the last one
abbrev pub invariant-loop-next : goal.invariant-loop-next
invariant-loop-next l = record {
  within : l.last < length l.right;
  is : chain_from l.left l.right l.j
      ≡ l.chain.items ++ option_map_or (chain_from l.left l.right) (successor l.left l.right l.last) [];
}

abbrev pub decreases-loop-next : goal.decreases-loop-next
decreases-loop-next l = length l.right - l.last
