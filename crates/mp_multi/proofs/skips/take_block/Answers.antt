use Rattle.std.proofs.Common.{◌+◌, ◌-◌, ◌*◌, ◌∙◌, max, min, refl, arith}
use Rattle.mp_multi.proofs.SkipLemmas.{past_the_last, quiet_block}
use Rattle.mp_multi.proofs.skips.take_block.Goals as goal

pub returns-then-group-level-clause-scanned : goal.returns-then-group-level-clause-scanned
returns-then-group-level-clause-scanned g c =
    let level = c.args.level.now in
    let r = c.args.rows.now in
    past_the_last level.plan c.args.into.now (c.requires.windows ∙ level.all_windows) r.first r.end r.row r.count
    c.args.group (omega (arith, level.all_windows))

pub returns-then-is_reached-clause-scanned : goal.returns-then-is_reached-clause-scanned
returns-then-is_reached-clause-scanned g c =
    let level = c.args.level.now in
    let r = c.args.rows.now in
    let reached = c.is_reached.ensures c.if-is_reached.true in
    quiet_block level.plan level.units c.args.into.now (c.requires.windows ∙ level.all_windows) r.first r.end
    (max r.first (8 * c.args.group - r.row)) (min r.end (8 * c.args.group + 8 - r.row)) r.row r.count
    (8 * c.args.group) 8
    c.args.need refl refl c.requires.few c.requires.rows_need c.requires.columns_need (c.requires.far reached)
    (omega (arith, reached, c.requires.small))
