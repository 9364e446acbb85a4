use Rattle.std.proofs.Common.{◌≡◌, subst, ◌+◌, ◌<◌, ◌∙◌, arith, pos, w32, FitsSigned}
use Rattle.std.proofs.lemmas.List.{length-set}
use Rattle.mp_scans.specs.Limiting.{first_on}
use Rattle.mp_multi.specs.Blocks.{IsLimitIn}
use Rattle.mp_multi.proofs.ChannelLemmas.{set_next}
use Rattle.mp_multi.proofs.LimitLemmas.{handed_on}
use Rattle.mp_multi.proofs.sides.fill_column_limits.Goals as goal

pub loop-c-preserved : goal.loop-c-preserved
loop-c-preserved c =
    let b = c.args.block.now in
    let slots = c.args.into.now.items in
    let n = c.loop-c.c in
    let w = c.args.width in
    let at : c.saturating_sub-first.result ≡ first_on w n = omega (arith, c.saturating_sub-first.ensures) in
    let here = c.column_limit.ensures in
    record {
      places = length-set _ _ _ ∙ c.loop-c.invariant.places;
      fit = set_next (λ _. FitsSigned w32) (pos 0) c.loop-c.limits n _ (omega arith) c.loop-c.invariant.fit
          (handed_on (FitsSigned w32) _ here.fits here.fits);
      done = set_next (λ q z. b.column + q < b.windows
          → IsLimitIn b slots (b.column + q) (b.row + first_on w q) z) (pos 0) c.loop-c.limits n _ (omega arith)
          c.loop-c.invariant.done
          (λ within. handed_on (IsLimitIn b slots (b.column + n) (b.row + first_on w n)) _ here.fits
          (subst (λ f. IsLimitIn b slots (b.column + n) (b.row + f) c.column_limit.result) at (here.limit within)));
    }

pub returns : goal.returns
returns c = record {
  limits = record {
    places = omega arith;
    fit = λ q lt. c.loop-c.invariant.fit q (omega (arith, lt));
    each = λ q lt. c.loop-c.invariant.done q (omega (arith, lt));
  };
}
