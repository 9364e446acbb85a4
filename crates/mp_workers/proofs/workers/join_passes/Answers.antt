use Rattle.std.proofs.Common.{◌≡◌, sym, ap, subst, ◌∙◌, arith}
use Rattle.std.proofs.lemmas.List.Elements.{All-pop, All-push}
use Rattle.std.proofs.lemmas.List.Sums.{sum_by-append}
use Rattle.std.specs.Prelude.{◌==◌, if◌then◌else◌, All, Some}
use Rattle.mp_workers.specs.Desks.{times}
use Rattle.mp_workers.specs.Teams.{WorkerState}
use Rattle.mp_workers.proofs.Teaming.{last_left, one_less, sum_less}
use Rattle.mp_workers.proofs.workers.join_passes.Goals as goal

pub loop-worker-preserved : goal.loop-worker-preserved
loop-worker-preserved g c =
    let before = c.loop-worker.invariant in
    let old = c.loop-worker.team.items in
    let new = c.pop.new.self.items in
    let worker = c.in-Some.worker in
    let left = last_left old new c.pop.result worker c.pop.ensures.items c.in-Some.is in
    let more = one_less c.push.new.self.items c.loop-worker.parts.items _ c.in_ok-push.ensures.items in
    record {
      is_desk = c.join.ensures.desk;
      of_desk = (All-pop (λ w. w.pass.desk ≡ c.args.desk.now) old new (Some worker) left before.of_desk).0;
      weights = omega (
        arith,
        before.weights,
        c.join.ensures.weight,
        sum_less (λ w. w.pass.weight) old new worker left,
        ap (λ (w : WorkerState). w.pass.weight) c.worker.view_is,
      );
      drawn = λ x. omega (
        arith,
        before.drawn x,
        ap (times x) c.join.ensures.drawn,
        sum_by-append (λ number. if number == x then 1 else 0) c.loop-worker.pass.drawn c.worker.inside.pass.drawn,
        sum_less (λ w. times x w.pass.drawn) old new worker left,
        ap (λ (w : WorkerState). times x w.pass.drawn) c.worker.view_is,
      );
      count = omega (arith, before.count, more, one_less old new worker left);
      sizes = λ size all parts.
          let had = before.sizes size all parts in
          let popped = All-pop (λ w. w.size ≡ size) old new (Some worker) left had.0 in (
            popped.0,
            subst (All (λ part. g.P.Part.size_of part ≡ size)) (sym c.in_ok-push.ensures.items)
                (All-push (λ part. g.P.Part.size_of part ≡ size) c.loop-worker.parts.items c.worker.inside.found had.1
                (ap (λ (w : WorkerState). w.size) c.worker.view_is ∙ popped.1)),
          );
    }
