use Rattle.std.proofs.Common.{◌≡◌, ◌+◌, ◌-◌, ◌∙◌, arith, refl, rules, subst, sym, w32}
use Rattle.std.proofs.Common.{FitsSigned}
use Rattle.std.proofs.lemmas.Int.{to_z-of_z}
use Rattle.mp_anytime.specs.Scanning.{is_pair_from}
use Rattle.mp_anytime.specs.Rounded.{rounded_in, series_in}
use Rattle.mp_anytime.specs.Bounds.{AreTaken}
use Rattle.mp_scans.specs.Exacts.{IsExact}
use Rattle.mp_anytime.proofs.Moves.{residue_at}
use Rattle.mp_anytime.proofs.Quiet.{behind, none_taken, one_taken, still_for, taken_on}
use Rattle.mp_anytime.proofs.found.Found.take_pairs.Goals as goal

pub take_pair-requires-clause-exact : goal.take_pair-requires-clause-exact
take_pair-requires-clause-exact c =
    subst (λ q. IsExact c.args.rounded.now.plan.grid q c.loop-k.exact)
    (sym (behind c.args.row c.loop-k.k c.args.offset)) c.loop-k.invariant.exact

pub loop-k-init : goal.loop-k-init
loop-k-init c =
    let plan = c.args.rounded.now.plan in
    let m = plan.grid.m in
    let row = c.args.row in
    let offset = c.args.offset in
    let self = c.args.self.now in
    let fits : FitsSigned w32 c.whole-residue.result = search rules in
    let first : row ≡ row + 0 = omega arith in
    record {
      residue = to_z-of_z w32 c.whole-residue.result fits ∙ c.whole-residue.ensures
          ∙ residue_at m m (rounded_in plan.rounding.shift (series_in plan)) row (row + 0) (row + offset)
          (row + 0 + offset) refl first (omega arith);
      taken = subst (λ q. AreTaken plan (is_pair_from offset row q) self self) first
          (none_taken plan offset row self c.requires.for_these);
      exact = tt;
    }

pub take_pair-requires-clause-for_these : goal.take_pair-requires-clause-for_these
take_pair-requires-clause-for_these c =
    still_for c.args.rounded.now.plan (is_pair_from c.args.offset c.args.row (c.args.row + c.loop-k.k)) c.args.self.now
    c.loop-k.self c.requires.for_these c.loop-k.invariant.taken

pub loop-k-preserved : goal.loop-k-preserved
loop-k-preserved c =
    let plan = c.args.rounded.now.plan in
    let m = plan.grid.m in
    let row = c.args.row in
    let offset = c.args.offset in
    let old = c.args.self.now in
    let mid = c.loop-k.self in
    let k = c.loop-k.k in
    let here = row + k in
    let fits : FitsSigned w32 c.next_whole-residue.result = search rules in
    let next : here + 1 ≡ row + (k + 1) = omega arith in
    let is = still_for plan (is_pair_from offset row here) old mid c.requires.for_these c.loop-k.invariant.taken in
    record {
      residue = to_z-of_z w32 c.next_whole-residue.result fits ∙ c.next_whole-residue.ensures
          ∙ residue_at m m (rounded_in plan.rounding.shift (series_in plan)) (here + 1) (row + (k + 1))
          (here + 1 + offset) (row + (k + 1) + offset) refl next (omega arith);
      taken = taken_on plan offset row here (row + (k + 1)) old mid c.take_pair.new.self c.requires.for_these
          (omega arith) (omega arith) c.loop-k.invariant.taken
          (subst (λ q. AreTaken plan (is_pair_from offset here q) mid c.take_pair.new.self) next
          (one_taken plan offset here (here + offset) mid c.take_pair.new.self is refl c.take_pair.ensures.taken));
      exact = subst (λ q. IsExact plan.grid q c.take_pair.new.exact) (behind row k offset) c.take_pair.ensures.exact;
    }

pub returns : goal.returns
returns c =
    let done : c.loop-k.k ≡ c.args.count = omega (arith, c.loop-k-test.false, c.loop-k.auto.k-end) in
    subst (λ q. AreTaken c.args.rounded.now.plan (is_pair_from c.args.offset c.args.row (c.args.row + q))
    c.args.self.now c.loop-k.self) done c.loop-k.invariant.taken
