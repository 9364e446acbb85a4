use Rattle.std.proofs.Common.{◌≡◌, ℕ, List, ◌+◌, ◌-◌, ◌*◌, ◌<◌, ◌≤◌, ◌∙◌, max, min, length, ap, sym, subst, arith}
use Rattle.mp_scans.specs.Offering.{in_block}
use Rattle.mp_skips.specs.Sums.{number_in}
use Rattle.mp_skips.specs.declared.sums.TheConstants.{NO_NEED}
use Rattle.mp_multi.specs.Blocks.{AreScannedBy}
use Rattle.mp_multi.proofs.PairScans.{scan_then}
use Rattle.mp_multi.proofs.SkipLemmas.{block_pairs, groups_next, eight_quiet, no_blocks, needs_stay, group_needs_stay}
use Rattle.mp_multi.proofs.SkipLemmas.{needs_more, group_need}
use Rattle.mp_multi.proofs.skips.scan_eight.Goals as goal

pub are_reached-requires-clause-small_needs : goal.are_reached-requires-clause-small_needs
are_reached-requires-clause-small_needs g c = λ t lt.
    c.requires.needs.small (c.args.group - c.args.base + t) (omega (arith, lt, c.requires.places, c.requires.base))

pub returns-then-are_reached-clause-scanned : goal.returns-then-are_reached-clause-scanned
returns-then-are_reached-clause-scanned g c =
    let level = c.args.level.now in
    let r = c.args.rows.now in
    eight_quiet level.plan level.units c.args.into.now (c.requires.windows ∙ level.all_windows) r.first r.end r.row
    r.count
    c.args.group c.args.base c.need_of_all-need.result c.args.needs.now c.eight_bounds.new.bounds c.requires.few
    c.need_of_all-need.ensures.need c.requires.needs c.requires.base c.requires.places c.eight_bounds.ensures.far
    c.eight_bounds.ensures.small (c.are_reached.ensures.need c.if-are_reached.true)
    (c.are_reached.ensures.needs c.if-are_reached.true)

pub loop-l-init : goal.loop-l-init
loop-l-init g c =
    let level = c.args.level.now in
    let r = c.args.rows.now in
    record {
      windows = c.requires.windows;
      scanned = no_blocks level.plan c.args.into.now (c.requires.windows ∙ level.all_windows) r.first r.end r.row
          r.count
          c.args.group;
      rows_need = c.need_of_all-need.ensures.need;
      groups_need = c.requires.needs;
    }

pub take_block-requires-clause-rows_need : goal.take_block-requires-clause-rows_need
take_block-requires-clause-rows_need g c =
    let level = c.args.level.now in
    needs_more level.plan level.units c.loop-l.into _ _ _ c.need_of_all-need.result c.max-own.result
    (omega (arith, c.max-own.ensures)) c.loop-l.invariant.rows_need

pub take_block-requires-clause-columns_need : goal.take_block-requires-clause-columns_need
take_block-requires-clause-columns_need g c =
    let level = c.args.level.now in
    let lt = c.loop-l-test.true in
    let needs = c.args.needs.now in
    let base = c.args.base in
    let place = c.args.group + c.loop-l.l in
    let at : c.args.group - base + c.loop-l.l ≡ place - base = omega (arith, c.requires.base) in
    let here : number_in needs (c.args.group - base + c.loop-l.l) ≡ number_in needs (place - base) =
    ap (number_in needs) at in
    group_need level.plan level.units c.loop-l.into c.args.rows.now.row base place (length needs) needs c.max-own.result
    c.loop-l.invariant.groups_need (omega (arith, c.requires.base)) (omega (arith, c.requires.places, lt))
    (omega (arith, c.max-own.ensures, here))

pub take_block-requires-clause-far : goal.take_block-requires-clause-far
take_block-requires-clause-far g c = λ le.
    c.eight_bounds.ensures.far c.loop-l.l c.max-own.result c.loop-l-test.true
    (subst (λ (v : List ℕ). c.max-own.result ≤ number_in v c.loop-l.l) c.as_array.ensures le)

pub take_block-requires-clause-small : goal.take_block-requires-clause-small
take_block-requires-clause-small g c =
    subst (λ (v : List ℕ). number_in v c.loop-l.l < NO_NEED) (sym c.as_array.ensures)
    (c.eight_bounds.ensures.small c.loop-l.l c.loop-l-test.true)

pub loop-l-preserved : goal.loop-l-preserved
loop-l-preserved g c =
    let level = c.args.level.now in
    let ch = level.plan.channels in
    let before = c.loop-l.invariant in
    let next = c.take_block.ensures in
    let r = c.args.rows.now in
    let group = c.args.group in
    let done = block_pairs r.first r.end r.row r.count (group + c.loop-l.l) in
    let long = before.windows ∙ level.all_windows in
    record {
      windows = next.windows;
      scanned = scan_then ch.m ch.k ch.list.now
          (in_block (max r.first (8 * group - r.row)) (min r.end (8 * (group + c.loop-l.l) - r.row)) r.row
          (r.row + r.count)) done
          (in_block (max r.first (8 * group - r.row)) (min r.end (8 * (group + (c.loop-l.l + 1)) - r.row)) r.row
          (r.row + r.count)) _ _ _ before.scanned next.scanned
          (λ i j _ _. groups_next r.first r.end r.row (r.row + r.count) group c.loop-l.l i j);
      rows_need = needs_stay level.plan level.units done _ _ long next.scanned _ _ _ _ before.rows_need;
      groups_need = group_needs_stay level.plan level.units done _ _ long next.scanned _ _ _ _ before.groups_need;
    }

pub returns-clause-scanned : goal.returns-clause-scanned
returns-clause-scanned g c =
    let level = c.args.level.now in
    let r = c.args.rows.now in
    let group = c.args.group in
    subst (λ n. AreScannedBy level.plan
    (in_block (max r.first (8 * group - r.row)) (min r.end (8 * (group + n) - r.row)) r.row (r.row + r.count))
    c.args.into.now c.loop-l.into) (omega (arith, c.loop-l-test.false, c.loop-l.auto.l-end)) c.loop-l.invariant.scanned
