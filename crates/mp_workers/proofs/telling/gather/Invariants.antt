use Rattle.std.proofs.Common.{◌≡◌, ◌+◌, ◌<◌, ◌⊎◌, length, All}
use Rattle.mp_workers.specs.Desks.{pieces_among}
use Rattle.mp_workers.specs.Teams.{HasPast}
use Rattle.mp_workers.specs.Telling.{HasTold}
use Rattle.mp_workers.proofs.telling.gather.Given as goal

abbrev pub invariant-loop-mate : goal.invariant-loop-mate
invariant-loop-mate g l = record {
  of_desk : l.pass.desk ≡ l.desk;
  weights : l.pass.weight + length l.team.items ≡ l.fn.pass.weight + length l.fn.team.items;
  done : All (λ mate. HasTold l.desk (g.T.Telling.is_hold l.work) (g.T.Telling.is_told l.work) mate.pass mate.hold)
      l.team.items;
  held : g.T.Telling.is_hold l.work l.pass.weight l.hold;
  told : All (g.T.Telling.is_told l.work l.hold) (pieces_among l.desk.pieces l.pass.drawn);
  past : (0 < length l.team.items) ⊎ HasPast l.desk.pieces l.pass.drawn;
}

abbrev pub decreases-loop-mate : goal.decreases-loop-mate
decreases-loop-mate g l = length l.team.items
