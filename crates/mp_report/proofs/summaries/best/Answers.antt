use Rattle.std.proofs.Common.{◌≡◌, ◌∙◌, ◌-◌, ap, arith, drop, rules, suc}
use Rattle.mp_report.specs.Best.{best_with}
use Rattle.mp_report.proofs.BestLemmas.{best_from, best_more, best_none}
use Rattle.mp_report.proofs.summaries.best.Goals as goal

pub loop-start-init : goal.loop-start-init
loop-start-init c = (best_none c.args.windows.now, omega arith)

pub loop-start-preserved : goal.loop-start-preserved
loop-start-preserved c =
    let windows = c.args.windows.now in
    let before = c.loop-start.start - 1 in
    let some = c.loop-start-test.true in
    let within = c.loop-start.invariant.1 in
    let next : c.loop-start.start ≡ suc before = omega (arith, some) in (
      c.with_window-best.ensures
          ∙ ap (best_with (before, _)) (c.loop-start.invariant.0 ∙ ap (λ n. best_from n (drop n windows)) next)
          ∙ best_more windows before _ (omega (arith, some, within)) (search rules),
      omega (arith, within),
    )
