use Rattle.std.proofs.Common.{◌≡◌, ◌+◌, ◌-◌, ◌*◌, ◌/◌, ◌∙◌, length, refl, sym, ap, arith}
use Rattle.mp_sums.specs.Lists.{list_sum}
use Rattle.mp_sums.specs.Residues.{item}
use Rattle.mp_sums.specs.SumLaws.{sum_of_none}
use Rattle.mp_slide.proofs.Sums.{part_more}
use Rattle.mp_slide.proofs.kernels.parted_sum.Goals as goal

pub loop-part-init : goal.loop-part-init
loop-part-init c =
    record { sum = sym (sum_of_none (item c.args.pattern.now) 0 (item c.args.window.now) 0); small = omega arith }

pub loop-part-preserved : goal.loop-part-preserved
loop-part-preserved c =
    let p = c.loop-part.part in
    let long : p * 256 + 256 - p * 256 ≡ 256 = omega arith in
    record {
      sum = part_more c.args.pattern.now c.args.window.now (p * 256) 256 _ _ _ (p * 256) refl (omega arith)
          c.loop-part.invariant.sum
          (c.from-sum.ensures ∙ c.narrow_sum.ensures
          ∙ ap (λ n. list_sum n c.args.pattern.now (p * 256) c.args.window.now (p * 256)) long);
      small = omega arith;
    }

pub returns : goal.returns
returns c =
    let m = length c.args.pattern.now in
    let at = m / 256 * 256 in
    part_more c.args.pattern.now c.args.window.now _ (m - at) _ _ m _ (omega arith) (omega arith)
    c.loop-part.invariant.sum (c.from.ensures ∙ c.narrow_sum-2.ensures)
