use Rattle.std.proofs.Common.{arith, refl}
use Rattle.mp_anytime.proofs.coverage.Coverage.extend.Goals as goal

pub extend_close-requires-clause-close : goal.extend_close-requires-clause-close
extend_close-requires-clause-close c = record {
  range = c.args.self.now.range;
  within = c.requires.waiting.range (omega (arith, c.if-are_close.ensures.some refl));
  fits = c.if-are_close.ensures.fits refl;
}
