use Rattle.std.proofs.Common.{◌≡◌, ◌+◌, ◌-◌, ◌∙◌, ap, refl, arith}
use Rattle.mp_scans.specs.Offering.{in_block}
use Rattle.mp_multi.proofs.PairScans.{scan_same}
use Rattle.mp_multi.proofs.SkipLemmas.{quiet_block, needs_later, diagonal_cut}
use Rattle.mp_multi.proofs.skips.take_diagonal.Goals as goal

pub returns-then-is_reached-clause-scanned : goal.returns-then-is_reached-clause-scanned
returns-then-is_reached-clause-scanned g c =
    let level = c.args.level.now in
    let r = c.args.rows.now in
    let behind = c.args.behind in
    let reached = c.is_reached.ensures c.if-is_reached.true in
    quiet_block level.plan level.units c.args.into.now (c.requires.windows ∙ level.all_windows) behind (behind + 1)
    behind
    (behind + 1) r.row r.count (r.row + behind) 1 c.args.need (omega arith) (omega arith) c.requires.few
    (needs_later level.plan level.units c.args.into.now (r.row + r.first) (r.row + behind) r.row r.count c.args.need
    (omega (arith, c.requires.behind)) c.requires.rows_need)
    c.requires.columns_need (c.requires.far reached) (omega (arith, reached, c.requires.small))

pub returns-clause-scanned : goal.returns-clause-scanned
returns-clause-scanned g c =
    let level = c.args.level.now in
    let ch = level.plan.channels in
    let r = c.args.rows.now in
    let behind = c.args.behind in
    let count = c.min-count.result in
    let k = r.row + behind - r.row in
    let same : k ≡ behind = omega arith in
    scan_same ch.m ch.k ch.list.now (in_block k (k + 1) r.row (r.row + count))
    (in_block behind (behind + 1) r.row (r.row + r.count)) _ _ c.scan_diagonal.ensures.scanned
    (λ i j _ lt. ap (λ n. in_block n (n + 1) r.row (r.row + count) i j) same
    ∙ diagonal_cut behind r.row r.count count (r.row + behind) level.windows i j refl
    (omega (arith, c.min-count.ensures))
    (omega (arith, lt, level.all_windows)))
