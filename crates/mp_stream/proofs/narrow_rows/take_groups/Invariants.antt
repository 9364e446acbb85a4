use Rattle.std.proofs.Common.{◌≡◌, ◌+◌, ◌*◌}
use Rattle.mp_defs.specs.Least.{near}
use Rattle.mp_stream.specs.Moves.{AreMoved, AreOfferedBy, moved_candidate}
use Rattle.mp_stream.proofs.narrow_rows.take_groups.Given as goal

abbrev pub invariant-loop-g : goal.invariant-loop-g
invariant-loop-g l =
    let at = 1 + l.g * 32 in
    record {
      moved : AreMoved l.moves at l.sums;
      offered : AreOfferedBy l.moves 1 at l.fn.entries l.entries;
      best : l.best.found ≡ near (moved_candidate l.moves) at;
    }
