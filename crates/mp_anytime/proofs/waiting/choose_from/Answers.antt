use Rattle.std.proofs.Common.{◌≡◌, ◌+◌, ◌*◌, ◌∙◌, arith, subst, take}
use Rattle.std.specs.Prelude.{filter}
use Rattle.mp_results.specs.Covering.{by_reversal, is_uncovered}
use Rattle.mp_anytime.proofs.Choosing.{none_chosen}
use Rattle.mp_anytime.proofs.waiting.choose_from.Goals as goal

pub loop-block-init : goal.loop-block-init
loop-block-init c = record {
  chosen = λ m windows covered was. c.new-chosen.ensures.items
      ∙ none_chosen (is_uncovered m windows covered) c.args.count;
  few = omega arith;
}

pub loop-block-preserved : goal.loop-block-preserved
loop-block-preserved c = record {
  chosen = λ m windows covered was.
      let p = is_uncovered m windows covered in
      let more : 512 * c.loop-block.block + 512 ≡ 512 * (c.loop-block.block + 1) = omega arith in
      subst (λ q. c.choose_marked.new.chosen.items ≡ take c.args.count (filter p (by_reversal q))) more
      (c.in_ok-choose_marked.ensures.chosen p (λ place lt. was.each place (omega (arith, lt, was.places)))
      (c.loop-block.invariant.chosen m windows covered was));
  few = omega (arith, c.in_ok-choose_marked.ensures.few, c.loop-block.invariant.few);
}
