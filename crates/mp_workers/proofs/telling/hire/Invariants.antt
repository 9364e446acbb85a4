use Rattle.std.proofs.Common.{◌≡◌, ◌+◌, ◌<◌, [], length, All}
use Rattle.mp_workers.specs.Telling.{IsToTell}
use Rattle.mp_workers.proofs.telling.hire.Given as goal

abbrev pub invariant-loop-number : goal.invariant-loop-number
invariant-loop-number g l = record {
  desk : l.pass.desk ≡ l.desk;
  unused : l.pass.drawn ≡ [];
  weight : l.pass.weight + l.number ≡ l.fn.pass.weight;
  hold : g.T.Telling.is_hold l.work l.pass.weight l.hold;
  count : length l.team.items ≡ l.number;
  ready : All (λ mate. (mate.number < l.count) × IsToTell l.desk (g.T.Telling.is_hold l.work) mate.pass mate.hold)
      l.team.items;
}
