use Rattle.std.proofs.Common.{◌+◌, ◌∙◌, arith, pos}
use Rattle.std.proofs.lemmas.List.{length-set}
use Rattle.mp_multi.specs.Blocks.{IsLimitIn}
use Rattle.mp_multi.proofs.ChannelLemmas.{set_next}
use Rattle.mp_multi.proofs.LimitLemmas.{handed_on}
use Rattle.mp_multi.proofs.sides.fill_row_limits.Goals as goal

pub loop-p-preserved : goal.loop-p-preserved
loop-p-preserved c =
    let b = c.args.block.now in
    let slots = c.args.into.now.items in
    let p = c.loop-p.p in
    record {
      places = length-set _ _ _ ∙ c.loop-p.invariant.places;
      done = set_next (λ q. IsLimitIn b slots (b.row + q) (b.column + q)) (pos 0) c.loop-p.limits p _
          (omega arith) c.loop-p.invariant.done
          (handed_on (IsLimitIn b slots (b.row + p) (b.column + p)) _ c.window_limit.ensures.fits
          c.window_limit.ensures);
    }

pub returns : goal.returns
returns c = record {
  limits = record {
    places = omega arith;
    each = λ p lt. c.loop-p.invariant.done p (omega (arith, lt));
  };
}
