use Rattle.std.proofs.Common.{◌≡◌, ◌+◌, ◌-◌, ◌*◌, ◌∙◌, arith, refl, rules, subst, w32}
use Rattle.std.proofs.Common.{FitsSigned}
use Rattle.std.proofs.lemmas.Int.{to_z-of_z}
use Rattle.mp_anytime.specs.Scanning.{is_pair_from}
use Rattle.mp_anytime.specs.Rounded.{rounded_in, series_in}
use Rattle.mp_anytime.specs.Bounds.{AreTaken}
use Rattle.mp_anytime.proofs.Moves.{residue_at}
use Rattle.mp_anytime.proofs.Quiet.{none_taken, still_for, taken_on}
use Rattle.mp_anytime.proofs.found.Found.take_blocks.Goals as goal

pub loop-block-init : goal.loop-block-init
loop-block-init c =
    let plan = c.args.rounded.now.plan in
    let core = plan.grid.m - 31 in
    let offset = c.args.offset in
    let self = c.args.self.now in
    let fits : FitsSigned w32 c.first_core-residue.result = search rules in
    let first : 0 ≡ 32 * 0 = omega arith in
    record {
      residue = to_z-of_z w32 c.first_core-residue.result fits ∙ c.first_core-residue.ensures
          ∙ residue_at core core (rounded_in plan.rounding.shift (series_in plan)) (0 + 31) (32 * 0 + 31)
          (offset + 31)
          (32 * 0 + offset + 31) refl (omega arith) (omega arith);
      taken = subst (λ q. AreTaken plan (is_pair_from offset 0 q) self self) first
          (none_taken plan offset 0 self c.requires.for_these);
    }

pub take_block-requires-clause-for_these : goal.take_block-requires-clause-for_these
take_block-requires-clause-for_these c =
    still_for c.args.rounded.now.plan (is_pair_from c.args.offset 0 (32 * c.loop-block.block)) c.args.self.now
    c.loop-block.self c.requires.for_these c.loop-block.invariant.taken

pub loop-block-preserved : goal.loop-block-preserved
loop-block-preserved c =
    let plan = c.args.rounded.now.plan in
    let core = plan.grid.m - 31 in
    let offset = c.args.offset in
    let old = c.args.self.now in
    let mid = c.loop-block.self in
    let block = c.loop-block.block in
    let row = 32 * block in
    let fits : FitsSigned w32 c.next_core-residue.result = search rules in
    let next : row + 32 ≡ 32 * (block + 1) = omega arith in
    record {
      residue = to_z-of_z w32 c.next_core-residue.result fits ∙ c.next_core-residue.ensures
          ∙ residue_at core core (rounded_in plan.rounding.shift (series_in plan)) (row + 32 + 31)
          (32 * (block + 1) + 31) (row + 32 + offset + 31) (32 * (block + 1) + offset + 31) refl (omega arith)
          (omega arith);
      taken = taken_on plan offset 0 row (32 * (block + 1)) old mid c.take_block.new.self c.requires.for_these
          (omega arith) (omega arith) c.loop-block.invariant.taken
          (subst (λ q. AreTaken plan (is_pair_from offset row q) mid c.take_block.new.self) next
          c.take_block.ensures);
    }

pub returns : goal.returns
returns c =
    let done : c.loop-block.block ≡ c.args.blocks =
    omega (arith, c.loop-block-test.false, c.loop-block.auto.block-end) in
    subst (λ q. AreTaken c.args.rounded.now.plan (is_pair_from c.args.offset 0 (32 * q)) c.args.self.now
    c.loop-block.self) done c.loop-block.invariant.taken
