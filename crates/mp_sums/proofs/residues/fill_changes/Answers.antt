use Rattle.std.proofs.Common.{◌<◌, ◌∙◌, arith, w32, ◌-ℤ◌, ◌+ℤ◌, FitsSigned, rules}
use Rattle.std.specs.Int.{int_wrap}
use Rattle.std.proofs.lemmas.Int.{to_z-of_z}
use Rattle.std.proofs.lemmas.List.{length-set}
use Rattle.mp_sums.specs.Residues.{item}
use Rattle.mp_sums.proofs.FillLemmas.{set_next, difference_passed, sum_passed, difference_is, sum_is}
use Rattle.mp_sums.proofs.residues.fill_changes.Goals as goal

pub loop-k-preserved : goal.loop-k-preserved
loop-k-preserved c =
    let enters = c.args.enters.now in
    let leaves = c.args.leaves.now in
    let before = c.loop-k.invariant in
    let at = c.loop-k.k in
    let enter : FitsSigned w32 (item enters at) = search rules in
    let leave : FitsSigned w32 (item leaves at) = search rules in
    let difference : FitsSigned w32 c.change_of-change.result.difference = search rules in
    let sum : FitsSigned w32 c.change_of-change.result.sum = search rules in
    record {
      difference_places = length-set _ _ _ ∙ before.difference_places;
      sum_places = length-set _ _ _ ∙ before.sum_places;
      differences = set_next c.loop-k.differences at _ (λ q. int_wrap w32 (item enters q -ℤ item leaves q))
          (omega arith) before.differences
          (to_z-of_z w32 c.change_of-change.result.difference difference
          ∙ difference_passed _ (item enters at) (item leaves at) enter leave c.change_of-change.ensures.difference);
      sums = set_next c.loop-k.sums at _ (λ q. int_wrap w32 (item enters q +ℤ item leaves q))
          (omega (arith, before.sum_places, before.difference_places, c.requires.sums)) before.sums
          (to_z-of_z w32 c.change_of-change.result.sum sum
          ∙ sum_passed _ (item enters at) (item leaves at) enter leave c.change_of-change.ensures.sum);
    }

pub returns-clause-changes : goal.returns-clause-changes
returns-clause-changes c = λ m x start h k. record {
  same = omega (arith, c.loop-k.invariant.sum_places, c.loop-k.invariant.difference_places, c.requires.sums);
  each = λ q lt.
      let places = c.loop-k.invariant.difference_places in
      let done : q < c.loop-k.k = omega (arith, lt, c.loop-k.auto.k-end, c.loop-k-test.false, places) in
      let leave = h.each q (omega (arith, lt, places, c.requires.leaves)) in
      let enter = k.each q (omega (arith, lt, places, c.requires.enters)) in
      record {
        difference_is = c.loop-k.invariant.differences q done ∙ difference_is _ _ m x start q enter leave;
        sum_is = c.loop-k.invariant.sums q done ∙ sum_is _ _ m x start q enter leave;
      };
}
