use Rattle.std.proofs.Common.{◌≡◌, ◌*◌, ◌/◌, ap, sym, arith}
use Rattle.mp_skips.specs.Blocks.{height}
use Rattle.mp_skips.proofs.NeedLemmas.{most_reaches, need_product}
use Rattle.mp_skips.proofs.needs.most_of.Goals as goal

pub returns-then-need-lt-NO_NEED : goal.returns-then-need-lt-NO_NEED
returns-then-need-lt-NO_NEED c =
    let square = c.square_of-grains.result in
    let steps = c.square_of-steps.result in
    let k = height c.args.coarse.now in
    let same : c.args.need * square / (k * steps) ≡ c.from.result * square / (k * steps) =
    ap (λ n. n * square / (k * steps)) (sym c.from.ensures) in
    record {
      far = λ sum d small le below. most_reaches c.args.coarse.now c.args.need sum d square steps
          c.square_of-grains.ensures.square c.square_of-steps.ensures.square c.square_of-steps.ensures.some
          (omega (arith, c.min.ensures, small, le, same)) below;
      some = λ sum small le. omega arith;
    }

pub overflow_mul-squares : goal.overflow_mul-squares
overflow_mul-squares c =
    omega (
      arith,
      need_product c.args.need c.from.result c.square_of-grains.result c.if-need-lt-NO_NEED.true c.from.ensures
          c.square_of-grains.ensures.small,
    )
