use Rattle.std.proofs.Common.{◌+◌, ◌-◌, arith, subst, sym}
use Rattle.mp_scans.specs.Exacts.{IsExact}
use Rattle.mp_scans.specs.Offering.{only}
use Rattle.mp_anytime.specs.Rounded.{whole_in}
use Rattle.mp_anytime.specs.Scanning.{is_pair_done, is_pair_from}
use Rattle.mp_anytime.proofs.Lanes.{residue_lanes}
use Rattle.mp_anytime.proofs.Quiet.{all_done, behind, done_next, quiet_done, same_taken, still_for, then_taken}
use Rattle.mp_anytime.proofs.found.Found.take_each.Goals as goal

pub bits_above-quiet-requires-clause-residues : goal.bits_above-quiet-requires-clause-residues
bits_above-quiet-requires-clause-residues c =
    residue_lanes c.args.residues.now
    (λ t. whole_in c.args.rounded.now.plan (c.args.row + t) (c.args.row + t + c.args.offset)) c.requires.places
    c.requires.residues

pub loop-k-init : goal.loop-k-init
loop-k-init c = record {
  within = c.next_clear-k.ensures.within;
  taken = quiet_done c.args.rounded.now.plan c.args.row c.args.offset c.bits_above-quiet.result
      c.next_clear-k.result c.args.residues.now c.args.self.now c.requires.for_these c.requires.apart
      c.requires.residues
      (λ t lt is. c.fill_limits.ensures.rows t _ lt (c.bits_above-quiet.ensures.above t lt is))
      (λ t lt is. c.fill_limits.ensures.columns t _ lt (c.bits_above-quiet.ensures.above t lt is))
      c.fill_limits.ensures.lesser c.next_clear-k.ensures.set;
  exact = tt;
}

pub offer_free-requires-clause-for_these : goal.offer_free-requires-clause-for_these
offer_free-requires-clause-for_these c =
    still_for c.args.rounded.now.plan
    (is_pair_done c.args.offset c.args.row c.bits_above-quiet.result c.loop-k.k) c.args.self.now c.loop-k.self
    c.requires.for_these c.loop-k.invariant.taken

pub offer_free-requires-clause-exact : goal.offer_free-requires-clause-exact
offer_free-requires-clause-exact c =
    subst (λ q. IsExact c.args.rounded.now.plan.grid q c.loop-k.exact)
    (sym (behind c.args.row c.loop-k.k c.args.offset)) c.loop-k.invariant.exact

pub loop-k-preserved : goal.loop-k-preserved
loop-k-preserved c =
    let plan = c.args.rounded.now.plan in
    let row = c.args.row in
    let offset = c.args.offset in
    let bits = c.bits_above-quiet.result in
    let k = c.loop-k.k in
    let next = c.next_clear-k-in-loop-k in
    record {
      within = next.ensures.within;
      taken = then_taken plan (is_pair_done offset row bits k) (only (row + k) (row + k + offset))
          (is_pair_done offset row bits next.result) c.args.self.now c.loop-k.self c.offer_free.new.self
          c.requires.for_these c.loop-k.invariant.taken c.offer_free.ensures.taken
          (λ i j. done_next offset row bits k next.result i j c.loop-k-test.true next.ensures.behind
          next.ensures.within next.ensures.set);
      exact = subst (λ q. IsExact plan.grid q c.offer_free.new.exact) (behind row k offset)
          c.offer_free.ensures.exact;
    }

pub returns : goal.returns
returns c =
    same_taken c.args.rounded.now.plan
    (is_pair_done c.args.offset c.args.row c.bits_above-quiet.result c.loop-k.k)
    (is_pair_from c.args.offset c.args.row (c.args.row + 32)) c.args.self.now c.loop-k.self c.requires.for_these
    c.loop-k.invariant.taken
    (λ i j. all_done c.args.offset c.args.row c.bits_above-quiet.result c.loop-k.k i j
    (omega (arith, c.loop-k-test.false)))
