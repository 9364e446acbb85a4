use Rattle.std.proofs.Common.{◌≡◌, ◌+◌, ◌∙◌, arith, get_or, rules, subst, sym, w32, to_z, of_z, FitsSigned}
use Rattle.std.specs.Prelude.{None}
use Rattle.std.proofs.lemmas.Int.{to_z-of_z}
use Rattle.mp_anytime.specs.Scanning.{is_pair_from}
use Rattle.mp_anytime.specs.Bounds.{AreTaken, IsQuiet}
use Rattle.mp_anytime.specs.Told.{bounded_by}
use Rattle.mp_anytime.proofs.Blocks.{for_these}
use Rattle.mp_anytime.proofs.Quiet.{none_taken, quiet_block, taken_on}
use Rattle.mp_anytime.proofs.residue_found.ResidueFound.next_near.Goals as goal

pub loop-near-init : goal.loop-near-init
loop-near-init c = record {
  behind = omega arith;
  within = c.requires.order;
  residue = c.requires.residue;
  passed = none_taken c.args.narrow.now.plan c.args.offset c.args.from.row
      (bounded_by c.args.narrow.now.plan c.args.self.now)
      (for_these c.args.narrow.now c.args.self.now c.requires.places);
}

pub loop-near-preserved : goal.loop-near-preserved
loop-near-preserved c =
    let narrow = c.args.narrow.now in
    let plan = narrow.plan in
    let found = c.args.self.now in
    let offset = c.args.offset in
    let before = c.loop-near.invariant in
    let near = c.loop-near.near in
    let row = near.row in
    let self = bounded_by plan found in
    let is = for_these narrow found c.requires.places in
    let after = c.next-near.ensures in
    let next : row + 32 ≡ c.next-near.result.row = omega (arith, after.next) in
    let r = to_z w32 (of_z w32 near.residue) in
    let fits : FitsSigned w32 near.residue = search rules in
    let unrounded = sym (plan.exact narrow.lists.exact).unrounded in
    record {
      behind = omega (arith, before.behind, after.next);
      within = omega (arith, c.loop-near-test.true, after.next);
      residue = after.residue;
      passed = taken_on plan offset c.args.from.row row c.next-near.result.row self self self is
          (omega (arith, before.behind)) (omega (arith, after.next)) before.passed
          (subst (λ q. AreTaken plan (is_pair_from offset row q) self self) next
          (quiet_block plan row offset r self is c.requires.apart
          (to_z-of_z w32 near.residue fits ∙ before.residue c.loop-near-test.true)
          (λ k lt. subst (λ n. IsQuiet plan.grid.m n (get_or found.right (row + k) None) r) unrounded
          (c.may_give.ensures.rows c.if-may_give.false plan.grid.m k lt))
          (λ k lt. subst (λ n. IsQuiet plan.grid.m n (get_or found.left (row + offset + k) None) r) unrounded
          (c.may_give.ensures.columns c.if-may_give.false plan.grid.m k lt))
          c.may_give.ensures.lesser));
    }
