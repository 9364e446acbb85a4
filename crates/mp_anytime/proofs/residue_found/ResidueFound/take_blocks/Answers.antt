use Rattle.std.proofs.Common.{◌≡◌, ◌+◌, ◌-◌, arith, subst}
use Rattle.mp_anytime.specs.Scanning.{is_pair_from}
use Rattle.mp_anytime.specs.Bounds.{AreTaken}
use Rattle.mp_anytime.specs.Told.{bounded_by}
use Rattle.mp_anytime.proofs.Blocks.{for_these, still_placed}
use Rattle.mp_anytime.proofs.Quiet.{taken_on}
use Rattle.mp_anytime.proofs.residue_found.ResidueFound.take_blocks.Goals as goal

pub take_block-requires-clause-free : goal.take_block-requires-clause-free
take_block-requires-clause-free c = λ k le lt.
    c.requires.free k (omega (arith, le, c.loop-near.invariant.behind)) (omega (arith, lt, c.loop-near-test.true))

pub take_block-requires-clause-places : goal.take_block-requires-clause-places
take_block-requires-clause-places c =
    let narrow = c.args.narrow.now in
    still_placed narrow.plan _ _ c.args.self.now c.loop-near.self narrow.lists.marks.places c.requires.places
    c.loop-near.invariant.taken

pub next_near-near-requires-in-loop-near-clause-places : goal.next_near-near-requires-in-loop-near-clause-places
next_near-near-requires-in-loop-near-clause-places c =
    let narrow = c.args.narrow.now in
    still_placed narrow.plan _ _ c.loop-near.self c.take_block.new.self narrow.lists.marks.places
    (still_placed narrow.plan _ _ c.args.self.now c.loop-near.self narrow.lists.marks.places c.requires.places
    c.loop-near.invariant.taken) c.take_block.ensures

pub loop-near-preserved : goal.loop-near-preserved
loop-near-preserved c =
    let narrow = c.args.narrow.now in
    let plan = narrow.plan in
    let offset = c.args.offset in
    let old = bounded_by plan c.args.self.now in
    let mid = bounded_by plan c.loop-near.self in
    let new = bounded_by plan c.take_block.new.self in
    let before = c.loop-near.invariant in
    let row = c.loop-near.near.row in
    let behind = c.next.result.row in
    let near = c.next_near-near-in-loop-near in
    let is = for_these narrow c.args.self.now c.requires.places in
    let next : row + 32 ≡ behind = omega (arith, c.next.ensures.next) in
    record {
      behind = omega (arith, before.behind, next, near.ensures.behind);
      within = near.ensures.within;
      residue = near.ensures.residue;
      taken = taken_on plan offset c.args.row behind near.result.row old new new is (omega (arith, before.behind, next))
          near.ensures.behind
          (taken_on plan offset c.args.row row behind old mid new is before.behind (omega (arith, next)) before.taken
          (subst (λ q. AreTaken plan (is_pair_from offset row q) mid new) next c.take_block.ensures))
          near.ensures.passed;
    }
