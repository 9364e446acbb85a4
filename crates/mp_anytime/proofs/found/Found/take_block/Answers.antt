use Rattle.std.proofs.Common.{◌+◌, ◌∙◌, arith, rules, subst, sym, w32, FitsSigned, to_z, of_z}
use Rattle.std.proofs.lemmas.Int.{to_z-of_z}
use Rattle.mp_anytime.specs.Scanning.{is_pair_from}
use Rattle.mp_anytime.specs.Bounds.{AreTaken, Bounded}
use Rattle.mp_anytime.proofs.Quiet.{quiet_block, still_for}
use Rattle.mp_anytime.proofs.found.Found.take_block.Goals as goal

pub returns-then-is_quiet : goal.returns-then-is_quiet
returns-then-is_quiet c =
    let residue = c.args.residue in
    let fits : FitsSigned w32 residue = search rules in
    quiet_block c.args.rounded.now.plan c.args.row c.args.offset (to_z w32 (of_z w32 residue)) c.args.self.now
    c.requires.for_these c.requires.apart (to_z-of_z w32 residue fits ∙ c.requires.residue)
    (c.is_quiet.ensures.rows c.if-is_quiet.true) (c.is_quiet.ensures.columns c.if-is_quiet.true)
    c.is_quiet.ensures.lesser

pub refresh-requires : goal.refresh-requires
refresh-requires c =
    let plan = c.args.rounded.now.plan in
    let new = still_for plan (is_pair_from c.args.offset c.args.row (c.args.row + 32)) c.args.self.now
    c.take_each.new.self c.requires.for_these c.take_each.ensures in
    record {
      row = omega (arith, new.places.sides.right, c.args.rounded.now.lists.marks.places, c.requires.within);
      column = omega (arith, new.places.sides.left, c.args.rounded.now.lists.marks.places, c.requires.within);
    }

pub returns : goal.returns
returns c =
    subst (λ (f : Bounded). AreTaken c.args.rounded.now.plan (is_pair_from c.args.offset c.args.row (c.args.row + 32))
    c.args.self.now f) (sym c.refresh.ensures) c.take_each.ensures
