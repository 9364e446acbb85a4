use Rattle.std.proofs.Common.{arith}
use Rattle.mp_anytime.specs.Told.{bounded_by}
use Rattle.mp_anytime.proofs.Blocks.{for_these, still_placed}
use Rattle.mp_anytime.proofs.Quiet.{taken_on}
use Rattle.mp_anytime.proofs.residue_found.ResidueFound.take_stretch.Goals as goal

pub take_rest-requires-clause-places : goal.take_rest-requires-clause-places
take_rest-requires-clause-places c =
    let narrow = c.args.narrow.now in
    still_placed narrow.plan _ _ c.args.self.now c.take_blocks-rest.new.self narrow.lists.marks.places c.requires.places
    c.take_blocks-rest.ensures.taken

pub returns : goal.returns
returns c =
    let narrow = c.args.narrow.now in
    let plan = narrow.plan in
    taken_on plan c.args.offset c.args.row c.take_blocks-rest.result c.args.end (bounded_by plan c.args.self.now)
    (bounded_by plan c.take_blocks-rest.new.self) (bounded_by plan c.take_rest.new.self)
    (for_these narrow c.args.self.now c.requires.places) c.take_blocks-rest.ensures.behind
    c.take_blocks-rest.ensures.within c.take_blocks-rest.ensures.taken c.take_rest.ensures
