use Rattle.std.proofs.Common.{◌≡◌, ◌∙◌, arith, below_more, get_or, pos, subst, sym}
use Rattle.std.proofs.lemmas.Int.{ints}
use Rattle.std.proofs.lemmas.List.{get_or_default}
use Rattle.mp_sums.specs.Ranges.{IsInRange}
use Rattle.mp_sums.proofs.ranges.Range.with_numbers.Goals as goal

pub loop-number-preserved : goal.loop-number-preserved
loop-number-preserved c =
    let around = c.around-range.ensures in
    let at = c.loop-number.number-index in
    let same : c.number-item.result ≡ get_or c.args.numbers.now at (pos 0) =
    c.number-item.is ∙ get_or_default c.args.numbers.now at c.number-item.result (pos 0) (omega arith) in
    let before = c.loop-number.invariant in
    record {
      numbers = below_more _ _
          (λ k h. let within = before.numbers k h in (omega (arith, ints), omega (arith, ints)))
          (subst (IsInRange c.around-range.result) same around.number);
      wider = (omega (arith, ints), omega (arith, ints));
      least = λ range reaches within.
          around.least range (before.least range reaches within)
          (subst (IsInRange range) (sym same) (within at (omega arith)));
    }
