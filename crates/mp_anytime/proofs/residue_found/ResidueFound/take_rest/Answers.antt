use Rattle.std.proofs.Common.{◌≡◌, ◌+◌, ◌-◌, arith, length, subst, take}
use Rattle.std.proofs.lemmas.List.{length-take}
use Rattle.mp_anytime.specs.Scanning.{is_pair_from}
use Rattle.mp_anytime.specs.Bounds.{AreTaken}
use Rattle.mp_anytime.specs.Told.{bounded_by}
use Rattle.mp_anytime.proofs.Blocks.{for_these}
use Rattle.mp_anytime.proofs.Quiet.{none_taken}
use Rattle.mp_anytime.proofs.residue_found.ResidueFound.take_rest.Goals as goal

pub returns-then-row-end : goal.returns-then-row-end
returns-then-row-end c =
    let plan = c.args.narrow.now.plan in
    let row = c.args.row in
    let n = c.args.end - row in
    let all : row + length (take n c.fill_residues.new.residues) ≡ c.args.end =
    omega (
      arith,
      c.if-row-end.true,
      c.requires.few,
      length-take n c.fill_residues.new.residues,
      c.fill_residues.ensures.places,
    ) in
    subst (λ q. AreTaken plan (is_pair_from c.args.offset row q) (bounded_by plan c.args.self.now)
    (bounded_by plan c.take_residues.new.self)) all c.take_residues.ensures

pub returns-else-row-end : goal.returns-else-row-end
returns-else-row-end c =
    let plan = c.args.narrow.now.plan in
    let self = bounded_by plan c.args.self.now in
    let none : c.args.row ≡ c.args.end = omega (arith, c.if-row-end.false, c.requires.order) in
    subst (λ q. AreTaken plan (is_pair_from c.args.offset c.args.row q) self self) none
    (none_taken plan c.args.offset c.args.row self (for_these c.args.narrow.now c.args.self.now c.requires.places))
