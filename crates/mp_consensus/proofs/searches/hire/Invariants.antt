use Rattle.std.proofs.Common.{◌≡◌, ◌+◌, [], All, length}
use Rattle.mp_consensus.specs.Bounds.{least_radius}
use Rattle.mp_consensus.specs.Searchers.{IsReady}
use Rattle.mp_consensus.proofs.searches.hire.Given as goal

abbrev pub invariant-loop-number : goal.invariant-loop-number
invariant-loop-number l = record {
  of_desk : l.pass.desk ≡ l.search.desk;
  unused : l.pass.drawn ≡ [];
  left : l.pass.weight + l.number ≡ l.fn.pass.weight;
  of_bound : l.looker.bound ≡ l.search.bound;
  least : l.looker.least ≡ least_radius l.search.m l.search.list.now;
  count : length l.team.items ≡ l.number;
  ready : All (IsReady l.search) l.team.items;
}
