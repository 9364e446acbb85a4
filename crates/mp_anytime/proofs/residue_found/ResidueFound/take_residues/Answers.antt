use Rattle.std.proofs.Common.{◌≡◌, ◌+◌, ◌∙◌, ap, arith, length, sym, subst}
use Rattle.mp_defs.specs.Profile.{windows_of}
use Rattle.mp_partial.specs.Profiled.{Profiled}
use Rattle.mp_partial.specs.Values.{Column}
use Rattle.mp_anytime.specs.Bounds.{AreTaken, both_sides}
use Rattle.mp_anytime.specs.Rounded.{series_in}
use Rattle.mp_anytime.specs.Scanning.{is_pair_from}
use Rattle.mp_anytime.specs.Told.{bounded_by, lanes_by, lanes_taken}
use Rattle.mp_anytime.proofs.Blocks.{AreSides, block_known, lanes_long, free_known}
use Rattle.mp_anytime.proofs.residue_found.ResidueFound.take_residues.Goals as goal

pub take_lanes-requires-clause-told : goal.take_lanes-requires-clause-told
take_lanes-requires-clause-told c =
    let narrow = c.args.narrow.now in
    record {
      each = λ k lt. (free_known narrow.plan narrow.free.now c.args.row c.args.offset c.args.residues.now
          narrow.lists.exact narrow.lists.own narrow.lists.marks c.requires.apart c.requires.within c.requires.free
          c.requires.residues k lt).0;
    }

pub take_lanes-requires-2-clause-told : goal.take_lanes-requires-2-clause-told
take_lanes-requires-2-clause-told c =
    let narrow = c.args.narrow.now in
    record {
      each = λ k lt. (free_known narrow.plan narrow.free.now c.args.row c.args.offset c.args.residues.now
          narrow.lists.exact narrow.lists.own narrow.lists.marks c.requires.apart c.requires.within c.requires.free
          c.requires.residues k lt).0;
    }

pub invariant_of-self : goal.invariant_of-self
invariant_of-self c =
    let residues = c.args.residues.now in
    ap length c.take_lanes.ensures.slots
    ∙ lanes_long c.self.inside.right c.args.row (lanes_by residues (c.args.row + c.args.offset)) (length residues)
    ∙ c.self.invariant
    ∙ sym (ap length c.take_lanes-2.ensures.slots
    ∙ lanes_long c.self.inside.left (c.args.row + c.args.offset) (lanes_by residues c.args.row) (length residues))

pub returns : goal.returns
returns c =
    let narrow = c.args.narrow.now in
    let plan = narrow.plan in
    let row = c.args.row in
    let offset = c.args.offset in
    let left = c.self.inside.left in
    let right = c.self.inside.right in
    let residues = c.args.residues.now in
    let n = length residues in
    let later = lanes_by residues (row + offset) in
    let earlier = lanes_by residues row in
    let count : length narrow.free.now ≡ windows_of plan.grid.m (series_in plan) = narrow.lists.marks.places in
    let sides : AreSides plan left right = record {
      left_long = ap (λ (p : Profiled). length p.left) c.self.view_is ∙ c.requires.places.sides.left ∙ count;
      right_long = ap (λ (p : Profiled). length p.right) c.self.view_is ∙ c.requires.places.sides.right ∙ count;
    } in
    subst (λ (p : Profiled). AreTaken plan (is_pair_from offset row (row + n)) (bounded_by plan p)
    (bounded_by plan (both_sides c.take_lanes-2.new.self c.take_lanes.new.self 0))) c.self.view_is
    (subst (λ (l : Column). AreTaken plan (is_pair_from offset row (row + n))
    (bounded_by plan (both_sides left right 0))
    (bounded_by plan (both_sides l c.take_lanes.new.self 0))) (sym c.take_lanes-2.ensures.slots)
    (subst (λ (r : Column). AreTaken plan (is_pair_from offset row (row + n))
    (bounded_by plan (both_sides left right 0))
    (bounded_by plan (both_sides (lanes_taken left (row + offset) earlier n) r 0))) (sym c.take_lanes.ensures.slots)
    (block_known plan offset row n left right later earlier c.requires.apart
    (omega (arith, c.requires.within, count)) sides
    (λ k lt. (free_known plan narrow.free.now row offset residues narrow.lists.exact narrow.lists.own narrow.lists.marks
    c.requires.apart c.requires.within c.requires.free c.requires.residues k lt).1))))
