use Rattle.std.proofs.Common.{inr, arith, sym, subst}
use Rattle.std.specs.Prelude.{Some}
use Rattle.std.proofs.lemmas.List.Elements.{All-pop}
use Rattle.mp_workers.specs.Telling.{HasTold}
use Rattle.mp_workers.proofs.HoldTelling.{both_told, past_second}
use Rattle.mp_workers.proofs.Teaming.{last_left, one_less}
use Rattle.mp_workers.proofs.telling.gather.Goals as goal

pub loop-mate-preserved : goal.loop-mate-preserved
loop-mate-preserved g c =
    let desk = c.args.desk.now in
    let is_hold = g.T.Telling.is_hold c.args.work.now in
    let is_told = g.T.Telling.is_told c.args.work.now in
    let before = c.loop-mate.invariant in
    let old = c.loop-mate.team.items in
    let new = c.pop.new.self.items in
    let mate = c.in-Some.mate in
    let left = last_left old new c.pop.result mate c.pop.ensures.items c.in-Some.is in
    let popped = All-pop (λ m. HasTold desk is_hold is_told m.pass m.hold) old new (Some mate) left before.done in
    let done : HasTold desk is_hold is_told mate.pass mate.hold = popped.1 in
    record {
      of_desk = c.join.ensures.desk;
      weights = omega (
        arith,
        before.weights,
        c.join.ensures.weight,
        done.weight,
        one_less old new mate left,
      );
      done = popped.0;
      held = subst (λ n. is_hold n c.join-in-Some.new.hold) (sym c.join.ensures.weight)
          (c.join-in-Some.ensures.weight _ _ before.held done.are_told.held);
      told = both_told desk.pieces is_told c.loop-mate.pass.drawn mate.pass.drawn c.join.new.pass.drawn
          c.loop-mate.hold mate.hold c.join-in-Some.new.hold c.join.ensures.drawn before.told done.are_told.told
          c.join-in-Some.ensures.told c.join-in-Some.ensures.others;
      past = inr (past_second desk.pieces c.loop-mate.pass.drawn mate.pass.drawn c.join.new.pass.drawn
          c.join.ensures.drawn done.are_told.past_pieces);
    }
