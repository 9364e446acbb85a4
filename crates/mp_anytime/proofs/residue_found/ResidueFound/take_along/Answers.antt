use Rattle.std.proofs.Common.{◌≡◌, ◌-◌, ◌∙◌, arith, false, length, subst, sym}
use Rattle.mp_anytime.specs.Scanning.{is_pair_from}
use Rattle.mp_anytime.specs.Bounds.{AreTaken}
use Rattle.mp_anytime.specs.Told.{bounded_by}
use Rattle.mp_anytime.proofs.Blocks.{for_these, still_placed, stretch_without}
use Rattle.mp_anytime.proofs.Quiet.{all_taken, none_taken, taken_on}
use Rattle.mp_anytime.proofs.residue_found.ResidueFound.take_along.Goals as goal

pub loop-row-init : goal.loop-row-init
loop-row-init c =
    let narrow = c.args.narrow.now in
    record {
      within = omega arith;
      taken = none_taken narrow.plan c.args.offset 0 (bounded_by narrow.plan c.args.self.now)
          (for_these narrow c.args.self.now c.requires.places);
    }

pub take_stretch-requires-clause-places : goal.take_stretch-requires-clause-places
take_stretch-requires-clause-places c =
    let narrow = c.args.narrow.now in
    still_placed narrow.plan _ _ c.args.self.now c.loop-row.self narrow.lists.marks.places c.requires.places
    c.loop-row.invariant.taken

pub loop-row-preserved-then-are_free : goal.loop-row-preserved-then-are_free
loop-row-preserved-then-are_free c =
    let narrow = c.args.narrow.now in
    let plan = narrow.plan in
    record {
      within = omega (arith, c.turn-turn.ensures.within);
      taken = taken_on plan c.args.offset 0 c.loop-row.row c.turn-turn.result (bounded_by plan c.args.self.now)
          (bounded_by plan c.loop-row.self) (bounded_by plan c.take_stretch.new.self)
          (for_these narrow c.args.self.now c.requires.places) (omega arith) (omega (arith, c.turn-turn.ensures.later))
          c.loop-row.invariant.taken c.take_stretch.ensures;
    }

pub loop-row-preserved : goal.loop-row-preserved
loop-row-preserved c =
    let narrow = c.args.narrow.now in
    let plan = narrow.plan in
    let old = bounded_by plan c.args.self.now in
    let mid = bounded_by plan c.loop-row.self in
    let placed = still_placed plan _ _ c.args.self.now c.loop-row.self narrow.lists.marks.places c.requires.places
    c.loop-row.invariant.taken in
    record {
      within = omega (arith, c.turn-turn.ensures.within);
      taken = taken_on plan c.args.offset 0 c.loop-row.row c.turn-turn.result old mid mid
          (for_these narrow c.args.self.now c.requires.places) (omega arith) (omega (arith, c.turn-turn.ensures.later))
          c.loop-row.invariant.taken
          (stretch_without plan narrow.free.now c.loop-row.row c.turn-turn.result c.args.offset mid
          (for_these narrow c.loop-row.self placed) narrow.lists.marks c.requires.apart c.turn-turn.ensures.within
          c.turn-turn.ensures.rows c.turn-turn.ensures.columns (sym c.are_free.ensures ∙ c.if-are_free.false)
          c.windows-windows.ensures.lesser);
    }

pub returns : goal.returns
returns c =
    let narrow = c.args.narrow.now in
    let plan = narrow.plan in
    let pairs = length narrow.free.now - c.args.offset in
    let done : c.loop-row.row ≡ pairs = omega (arith, c.loop-row-test.false, c.loop-row.invariant.within) in
    let old = bounded_by plan c.args.self.now in
    let new = bounded_by plan c.loop-row.self in
    all_taken plan c.args.offset pairs old new (for_these narrow c.args.self.now c.requires.places)
    (sym narrow.lists.marks.places ∙ omega (arith, c.requires.within))
    (subst (λ q. AreTaken plan (is_pair_from c.args.offset 0 q) old new) done c.loop-row.invariant.taken)
