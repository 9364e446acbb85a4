use Rattle.std.proofs.Common.{◌<◌, ◌≤◌, ◌++◌, sym, ap, subst, arith}
use Rattle.std.specs.Prelude.{All}
use Rattle.mp_workers.specs.Desks.{past}
use Rattle.mp_workers.specs.Teams.{HasPast}
use Rattle.mp_workers.proofs.HoldTelling.{past_drawn}
use Rattle.mp_workers.proofs.Teaming.{new_pieces}
use Rattle.mp_workers.proofs.Working.{last_below, room_stays}
use Rattle.mp_workers.proofs.telling.tell_pieces.Goals as goal

pub claim-piece-requires-in-loop-piece-clause-room : goal.claim-piece-requires-in-loop-piece-clause-room
claim-piece-requires-in-loop-piece-clause-room g c =
    let before = c.loop-piece.invariant in
    let numbers = before.drawn in
    room_stays c.args.desk.now.pieces c.loop-piece.pass.weight c.args.pass.now.drawn numbers.0 c.loop-piece.pass.drawn
    c.loop-piece.piece
    (omega (arith, ap (past c.args.desk.now.pieces) c.requires.own.drawn, before.weight)) numbers.2
    (subst (λ n. c.loop-piece.piece < n) (ap (λ desk. desk.pieces) c.desk.view_is) c.loop-piece-test.true) numbers.1

pub loop-piece-smaller : goal.loop-piece-smaller
loop-piece-smaller g c =
    let numbers = c.loop-piece.invariant.drawn in
    let next = c.claim-piece-in-loop-piece in
    let less = last_below c.args.pass.now.drawn numbers.0 c.loop-piece.pass.drawn c.loop-piece.piece next.result
    numbers.1 next.ensures.greatest in
    omega (arith, less, c.loop-piece-test.true)

pub returns : goal.returns
returns g c =
    let before = c.loop-piece.invariant in
    let numbers = before.drawn in
    let pieces = c.args.desk.now.pieces in
    let work = g.T.Telling in
    let no_piece : pieces ≤ c.loop-piece.piece =
    omega (arith, ap (λ desk. desk.pieces) c.desk.view_is, c.loop-piece-test.false) in
    record {
      of_desk = before.desk;
      weight = before.weight;
      are_told = record {
        past_pieces = subst (HasPast pieces) (sym numbers.1)
            (past_drawn pieces c.loop-piece.piece (c.args.pass.now.drawn ++ numbers.0) no_piece);
        held = subst (λ n. work.is_hold c.args.work.now n c.loop-piece.hold) (sym before.weight) before.hold;
        told = subst (All (work.is_told c.args.work.now c.loop-piece.hold))
            (sym (new_pieces pieces c.args.pass.now.drawn numbers.0 c.loop-piece.pass.drawn c.loop-piece.piece
            c.requires.own.drawn numbers.1 numbers.2 no_piece)) numbers.3;
      };
    }
