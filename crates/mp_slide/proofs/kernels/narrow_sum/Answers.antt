use Rattle.std.proofs.Common.{◌≡◌, ◌+◌, ◌-◌, refl, sym, subst, arith}
use Rattle.mp_defs.specs.Distance.{squared_difference}
use Rattle.mp_sums.specs.Lists.{list_sum}
use Rattle.mp_sums.specs.Residues.{item}
use Rattle.mp_sums.specs.SumLaws.{sum_of_none, sum_grows, square_read}
use Rattle.mp_slide.proofs.Sums.{close_read, part_fits}
use Rattle.mp_slide.proofs.kernels.narrow_sum.Goals as goal

pub loop-k-init : goal.loop-k-init
loop-k-init c =
    let none : 0 ≡ c.args.first - c.args.first = omega arith in
    subst (λ n. 0 ≡ list_sum n c.args.pattern.now c.args.first c.args.window.now c.args.first) none
    (sym (sum_of_none (item c.args.pattern.now) c.args.first (item c.args.window.now) c.args.first))

pub close_square-sum-requires : goal.close_square-sum-requires
close_square-sum-requires c =
    close_read c.args.pattern.now c.args.window.now c.loop-k.k c.loop-k.k c.index-pattern-k.result
    c.index-window-k.result c.requires.close (omega arith) (omega arith) c.index-pattern-k.is c.index-window-k.is

square : (c : goal.After-close_square-sum) → c.close_square-sum.result
    ≡ squared_difference (item c.args.pattern.now c.loop-k.k) (item c.args.window.now c.loop-k.k)
square c =
    square_read c.args.pattern.now c.args.window.now c.loop-k.k c.loop-k.k c.close_square-sum.result
    c.index-pattern-k.result c.index-window-k.result (omega arith) (omega arith) c.index-pattern-k.is
    c.index-window-k.is c.close_square-sum.ensures

pub overflow_add-sum : goal.overflow_add-sum
overflow_add-sum c =
    let k = c.loop-k.k in
    let first = c.args.first in
    let n = k - first in
    let xs = c.args.pattern.now in
    let ys = c.args.window.now in
    let more = sum_grows n (n + 1) (item xs) first k (item ys) first k c.loop-k.sum c.close_square-sum.result refl
    (omega arith) (omega arith) c.loop-k.invariant (square c) in
    omega (arith, more, part_fits xs ys first (n + 1) c.requires.close (omega arith) (omega arith) (omega arith))

pub loop-k-preserved : goal.loop-k-preserved
loop-k-preserved c =
    let k = c.loop-k.k in
    let first = c.args.first in
    sum_grows (k - first) (k + 1 - first) (item c.args.pattern.now) first k (item c.args.window.now) first k
    c.loop-k.sum c.close_square-sum.result (omega arith) (omega arith) (omega arith) c.loop-k.invariant (square c)
