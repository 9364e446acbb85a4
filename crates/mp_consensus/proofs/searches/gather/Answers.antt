use Rattle.std.proofs.Common.{inr, arith, ap}
use Rattle.std.specs.Prelude.{Some}
use Rattle.std.proofs.lemmas.List.Elements.{All-pop}
use Rattle.mp_workers.proofs.Teaming.{last_left, one_less}
use Rattle.mp_consensus.specs.Searchers.{IsDone}
use Rattle.mp_consensus.proofs.Pieces.{both_found, both_past, is_ok}
use Rattle.mp_consensus.proofs.searches.gather.Goals as goal

pub loop-searcher-preserved : goal.loop-searcher-preserved
loop-searcher-preserved c =
    let s = c.args.search.now in
    let before = c.loop-searcher.invariant in
    let old = c.loop-searcher.team.items in
    let new = c.pop.new.self.items in
    let searcher = c.in-Some.searcher in
    let left = last_left old new c.pop.result searcher c.pop.ensures.items c.in-Some.is in
    let popped = All-pop (IsDone s) old new (Some searcher) left before.done in
    let done : IsDone s searcher = popped.1 in
    let ok = is_ok searcher.outcome _ c.in_ok-outcome.was in
    let drawn = c.join.ensures.drawn in
    record {
      of_desk = c.join.ensures.desk;
      weights = omega (
        arith,
        before.weights,
        c.join.ensures.weight,
        ap (λ pass. pass.weight) c.other.view_is,
        done.at_work.weight,
        one_less old new searcher left,
      );
      done = popped.0;
      found = both_found s c.loop-searcher.pass.drawn searcher.pass.drawn c.join.new.pass.drawn c.loop-searcher.best
          searcher.best c.first_of_both-best.result drawn c.first_of_both-best.ensures.either
          c.first_of_both-best.ensures.best c.first_of_both-best.ensures.found before.found (done.found ok);
      past = inr (both_past s.pieces c.loop-searcher.pass.drawn searcher.pass.drawn c.join.new.pass.drawn drawn
          (done.past ok));
    }
