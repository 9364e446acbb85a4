use Rattle.std.proofs.Common.{◌+◌, ◌-◌, ◌<◌, length, sym, ap, subst, ◌∙◌, arith}
use Rattle.std.specs.Prelude.{All}
use Rattle.std.proofs.lemmas.List.Elements.{All-push}
use Rattle.std.proofs.lemmas.List.{length-append}
use Rattle.mp_workers.specs.Telling.{IsToTell}
use Rattle.mp_workers.proofs.telling.hire.Goals as goal

pub loop-number-preserved : goal.loop-number-preserved
loop-number-preserved g c =
    let before = c.loop-number.invariant in
    let is_hold = g.T.Telling.is_hold c.args.work.now in
    let team = c.loop-number.team.items in
    let items = c.in_ok-push.ensures.items in
    record {
      desk = c.split.ensures.desk;
      unused = c.split.ensures.still_unused;
      weight = omega (arith, before.weight, c.split.ensures.left, c.requires.weight, c.loop-number-test.true);
      hold = subst (λ n. is_hold n c.split-in-loop-number.new.hold) (sym c.split.ensures.left)
          (c.split-in-loop-number.ensures.left _ before.hold);
      count = ap length items ∙ length-append team _ ∙ ap (λ n. n + 1) before.count;
      ready = subst (All (λ mate. (mate.number < c.args.count) × IsToTell c.args.desk.now is_hold mate.pass mate.hold))
          (sym items)
          (All-push (λ mate. (mate.number < c.args.count) × IsToTell c.args.desk.now is_hold mate.pass mate.hold) team _
          before.ready (
            c.loop-number-test.true,
            record {
              of_desk = c.split.ensures.of_desk;
              weight = c.split.ensures.weight;
              drawn = c.split.ensures.unused;
              held = c.split-in-loop-number.ensures.other;
            },
          ));
    }
