use Rattle.std.proofs.Common.{◌≡◌, map}
use Rattle.std.specs.List.{filter, range_with_len}
use Rattle.mp_results.specs.Chains.{is_first, chain_from}
use Rattle.mp_chains.proofs.chains.all_chains.Given as goal

abbrev pub invariant-loop-j : goal.invariant-loop-j
invariant-loop-j l =
    map (λ chain. chain.items) l.chains.items
    ≡ map (chain_from l.left l.right) (filter (is_first l.left l.right) (range_with_len 0 l.j))
