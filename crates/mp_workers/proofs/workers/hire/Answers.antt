use Rattle.std.proofs.Common.{◌≡◌, sym, subst, arith}
use Rattle.std.proofs.lemmas.List.Elements.{All-pop, All-push}
use Rattle.std.specs.Prelude.{All, Some}
use Rattle.mp_workers.specs.Teams.{IsReady}
use Rattle.mp_workers.proofs.Teaming.{last_left, one_less}
use Rattle.mp_workers.proofs.workers.hire.Goals as goal

pub loop-found-preserved : goal.loop-found-preserved
loop-found-preserved g c =
    let part = g.P.Part in
    let before = c.loop-found.invariant in
    let old = c.loop-found.parts.items in
    let new = c.pop.new.self.items in
    let found = c.in-Some.found in
    let team = c.loop-found.team.items in
    let desk = c.args.desk.now in
    let left = last_left old new c.pop.result found c.pop.ensures.items c.in-Some.is in
    let fewer = one_less old new found left in
    let more = one_less c.push.new.self.items team _ c.in_ok-push.ensures.items in
    record {
      of_desk = c.split-pass.ensures.desk;
      unused = c.split-pass.ensures.still_unused;
      left = omega (arith, before.left, before.hired, c.split-pass.ensures.left, more, fewer, c.requires.weight);
      hired = omega (arith, before.hired, more, fewer);
      alike = λ size start all.
          let had = before.alike size start all in
          let popped = All-pop (λ p. (part.size_of p ≡ size) × (part.value p ≡ start)) old new
          (Some found) left had.0 in (
            popped.0,
            subst (All (IsReady desk size start)) (sym c.in_ok-push.ensures.items)
                (All-push (IsReady desk size start) team _ had.1 (record {
                  of_team = record {
                    of_desk = c.split-pass.ensures.of_desk;
                    weight = c.split-pass.ensures.weight;
                    size_is = popped.1.0;
                  };
                  drawn = c.split-pass.ensures.unused;
                  found = popped.1.1;
                })),
          );
    }

pub returns-clause-ready : goal.returns-clause-ready
returns-clause-ready g c = λ size start all. (c.loop-found.invariant.alike size start all).1
