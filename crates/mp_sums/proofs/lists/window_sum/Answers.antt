use Rattle.std.proofs.Common.{◌+◌, refl, sym, arith}
use Rattle.mp_sums.specs.Residues.{item}
use Rattle.mp_sums.specs.SumLaws.{sum_of_none, sum_grows, square_read}
use Rattle.mp_sums.proofs.lists.window_sum.Goals as goal

pub loop-k-init : goal.loop-k-init
loop-k-init c =
    record { sum_is = sym (sum_of_none (item c.args.xs.now) 0 (item c.args.ys.now) 0); small = omega arith }

pub loop-k-preserved : goal.loop-k-preserved
loop-k-preserved c =
    let k = c.loop-k.k in
    let xs = c.args.xs.now in
    let ys = c.args.ys.now in
    let square = square_read xs ys k k c.square-sum.result c.index-xs-k.result c.index-ys-k.result (omega arith)
    (omega (arith, c.requires.places)) c.index-xs-k.is c.index-ys-k.is c.square-sum.ensures.square in
    record {
      sum_is = sum_grows k (k + 1) (item xs) 0 k (item ys) 0 k c.loop-k.sum c.square-sum.result refl (omega arith)
          (omega arith) c.loop-k.invariant.sum_is square;
      small = omega (arith, c.square-sum.ensures.small, c.loop-k.invariant.small);
    }
