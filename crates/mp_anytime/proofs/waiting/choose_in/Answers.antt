use Rattle.std.proofs.Common.{◌≡◌, ◌+◌, ◌*◌, arith, subst, take}
use Rattle.std.specs.Prelude.{filter}
use Rattle.mp_results.specs.Covering.{by_reversal}
use Rattle.mp_anytime.proofs.waiting.choose_in.Goals as goal

pub loop-k-init : goal.loop-k-init
loop-k-init c = record {
  chosen = λ p is was.
      let same : 512 * c.args.block ≡ 512 * c.args.block + 0 = omega arith in
      subst (λ q. c.args.chosen.now.items ≡ take c.args.count (filter p (by_reversal q))) same was;
  few = omega arith;
}

pub loop-k-preserved : goal.loop-k-preserved
loop-k-preserved c = record {
  chosen = λ p is was.
      let place = 512 * c.args.block + c.loop-k.k in
      let more : place + 1 ≡ 512 * c.args.block + (c.loop-k.k + 1) = omega arith in
      subst (λ q. c.choose_at.new.chosen.items ≡ take c.args.count (filter p (by_reversal q))) more
      (c.in_ok-choose_at.ensures.chosen p (is place (omega (arith, c.requires)))
      (c.loop-k.invariant.chosen p is was));
  few = omega (arith, c.in_ok-choose_at.ensures.few, c.loop-k.invariant.few);
}
