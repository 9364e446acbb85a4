use Rattle.std.proofs.Common.{◌≡◌, ◌+◌, ◌-◌, ◌*◌, ◌∙◌, inr, max, min, length, subst, arith}
use Rattle.mp_scans.specs.Offering.{in_block}
use Rattle.mp_multi.specs.Blocks.{AreScannedBy}
use Rattle.mp_multi.specs.declared.plans.MultiPlan.{MultiPlan}
use Rattle.mp_multi.proofs.BlockPairs.{no_pairs}
use Rattle.mp_multi.proofs.PairScans.{scan_none, scan_then, scan_same}
use Rattle.mp_multi.proofs.SkipLemmas.{eight_quiet, group_needs_stay, group_needs_later, part_pairs, rows_all}
use Rattle.mp_multi.proofs.skips.take_eight.Goals as goal

pub are_reached-requires-clause-small_needs : goal.are_reached-requires-clause-small_needs
are_reached-requires-clause-small_needs g c = λ t lt.
    let needs = c.args.needs.now in
    c.requires.wide.small (c.args.group - needs.base + t)
    (omega (arith, lt, c.requires.places, c.requires.base, c.requires.wide_places))

pub returns-then-are_reached-clause-scanned : goal.returns-then-are_reached-clause-scanned
returns-then-are_reached-clause-scanned g c =
    let level = c.args.levels.now.wide in
    let r = c.args.rows.now in
    let needs = c.args.needs.now in
    eight_quiet level.plan level.units c.args.into.now (c.requires.windows ∙ level.all_windows) r.first r.end r.row
    r.count
    c.args.group needs.base c.args.need needs.wide.now c.eight_bounds.new.bounds c.requires.few
    c.requires.rows_need c.requires.wide c.requires.base (omega (arith, c.requires.places, c.requires.wide_places))
    c.eight_bounds.ensures.far c.eight_bounds.ensures.small (c.are_reached.ensures.need c.if-are_reached.true)
    (c.are_reached.ensures.needs c.if-are_reached.true)

pub loop-done-init : goal.loop-done-init
loop-done-init g c =
    let level = c.args.levels.now.wide in
    let ch = level.plan.channels in
    let r = c.args.rows.now in
    let f = max r.first (8 * c.args.group - r.row) in
    let e = min r.end (8 * (c.args.group + 8) - r.row) in
    record {
      behind = omega arith;
      windows = c.requires.windows;
      scanned = scan_none ch.m ch.k ch.list.now (in_block f e r.row (r.row + min 0 r.count)) c.args.into.now
          (c.requires.windows ∙ level.all_windows)
          (λ i j. no_pairs f e r.row (r.row + min 0 r.count) i j (inr (omega arith)));
      groups_need = c.requires.narrow;
    }

pub scan_eight-requires-clause-needs : goal.scan_eight-requires-clause-needs
scan_eight-requires-clause-needs g c =
    let level = c.args.levels.now.narrow in
    let r = c.args.rows.now in
    let needs = c.args.needs.now in
    group_needs_later level.plan level.units c.loop-done.into r.row (r.row + c.loop-done.done) needs.base
    (length needs.narrow.now) needs.narrow.now (omega arith) c.loop-done.invariant.groups_need

pub loop-done-preserved : goal.loop-done-preserved
loop-done-preserved g c =
    let levels = c.args.levels.now in
    let ch = levels.wide.plan.channels in
    let before = c.loop-done.invariant in
    let next = c.scan_eight.ensures in
    let r = c.args.rows.now in
    let group = c.args.group in
    let done = c.loop-done.done in
    let at = c.loop-done.at in
    let count = c.min-count.result in
    let f = max r.first (8 * group - r.row) in
    let e = min r.end (8 * (group + 8) - r.row) in
    let pairs = in_block (max r.first (8 * at - (r.row + done))) (min r.end (8 * (at + 8) - (r.row + done)))
    (r.row + done) (r.row + done + count) in
    let here : AreScannedBy levels.wide.plan pairs c.loop-done.into c.scan_eight.new.into =
    subst (λ (p : MultiPlan). AreScannedBy p pairs c.loop-done.into c.scan_eight.new.into) levels.same_plan
    next.scanned in
    let bottom : r.row + (done + count) ≡ r.row + min (done + c.height-done.result) r.count =
    omega (arith, c.min-count.ensures, c.height.ensures, c.height-done.ensures, c.loop-done-test.true) in
    let both : AreScannedBy levels.wide.plan (in_block f e r.row (r.row + (done + count))) c.args.into.now
    c.scan_eight.new.into =
    scan_then ch.m ch.k ch.list.now (in_block f e r.row (r.row + min done r.count)) pairs
    (in_block f e r.row (r.row + (done + count))) _ _ _ before.scanned here
    (λ i j _ _. part_pairs r.first r.end r.row group at done count r.count i j before.behind c.loop-done-test.true) in
    record {
      behind = omega (arith, before.behind, c.height-done.ensures);
      windows = omega (arith, next.windows, levels.same_windows);
      scanned = scan_same ch.m ch.k ch.list.now (in_block f e r.row (r.row + (done + count)))
          (in_block f e r.row (r.row + min (done + c.height-done.result) r.count)) _ _ both
          (λ i j _ _. rows_all f e r.row (r.row + min (done + c.height-done.result) r.count) (r.row + (done + count))
          i j
          bottom);
      groups_need = group_needs_stay levels.narrow.plan levels.narrow.units pairs _ _
          (omega (arith, before.windows, levels.same_windows, levels.narrow.all_windows)) next.scanned _ _ _ _
          before.groups_need;
    }

pub returns-clause-scanned : goal.returns-clause-scanned
returns-clause-scanned g c =
    let ch = c.args.levels.now.wide.plan.channels in
    let r = c.args.rows.now in
    let f = max r.first (8 * c.args.group - r.row) in
    let e = min r.end (8 * (c.args.group + 8) - r.row) in
    scan_same ch.m ch.k ch.list.now (in_block f e r.row (r.row + min c.loop-done.done r.count))
    (in_block f e r.row (r.row + r.count)) _ _ c.loop-done.invariant.scanned
    (λ i j _ _. rows_all f e r.row (r.row + r.count) (r.row + min c.loop-done.done r.count) i j
    (omega (arith, c.loop-done-test.false)))
