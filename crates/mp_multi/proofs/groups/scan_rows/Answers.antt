use Rattle.std.proofs.Common.{◌≡◌, ◌+◌, ◌-◌, arith, rules, subst}
use Rattle.mp_scans.specs.Offering.{in_block}
use Rattle.mp_multi.specs.Blocks.{AreScannedBy}
use Rattle.mp_multi.specs.Exacts.{AreKept}
use Rattle.mp_multi.proofs.groups.scan_rows.Goals as goal

pub returns-clause-scanned : goal.returns-clause-scanned
returns-clause-scanned g c =
    let group = c.args.rows.now.group in
    let row = c.args.rows.now.row in
    let here : row + group.first - row ≡ group.first = omega arith in
    subst (λ first. AreScannedBy group.plan (in_block first (first + group.width) row (row + c.args.rows.now.count))
    c.args.into.now c.scan_block.new.into) here c.scan_block.ensures.scanned

pub scan_block-requires : goal.scan_block-requires
scan_block-requires g c =
    let group = c.args.rows.now.group in
    let row = c.args.rows.now.row in
    let here : group.first ≡ row + group.first - row = omega arith in (
      search rules,
      (
        search rules,
        (
          search rules,
          (
            c.requires.windows,
            (
              c.requires.places,
              (
                record {
                  rows = c.fill_row_limits.ensures.limits;
                  columns = rw c.div_ceil-width.ensures at c.fill_column_limits.ensures.limits;
                },
                (
                  subst (λ first. AreKept group.plan.channels.m group.plan.channels.list.now first
                      c.args.known.now.kept c.args.running.now) here c.requires.kept,
                  c.requires.residues,
                ),
              ),
            ),
          ),
        ),
      ),
    )

pub returns-clause-kept : goal.returns-clause-kept
returns-clause-kept g c =
    let group = c.args.rows.now.group in
    let row = c.args.rows.now.row in
    let here : row + group.first - row ≡ group.first = omega arith in
    subst (λ first. AreKept group.plan.channels.m group.plan.channels.list.now first c.scan_block.new.known.kept
    c.scan_block.new.running) here c.scan_block.ensures.kept
