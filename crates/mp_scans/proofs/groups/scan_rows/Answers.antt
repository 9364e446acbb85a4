use Rattle.std.proofs.Common.{◌≡◌, ◌+◌, ◌-◌, arith, rules, subst}
use Rattle.mp_scans.specs.Exacts.{AreExacts}
use Rattle.mp_scans.specs.Offering.{in_block}
use Rattle.mp_scans.specs.Windows.{AreScannedIn}
use Rattle.mp_scans.proofs.groups.scan_rows.Goals as goal

pub scan_block-requires-clause-known : goal.scan_block-requires-clause-known
scan_block-requires-clause-known g c =
    let group = c.args.rows.now.group in
    let row = c.args.rows.now.row in
    let here : group.first ≡ row + group.first - row = omega arith in
    record {
      places = c.requires.fits;
      exacts = subst (λ first. AreExacts group.plan.grid first c.args.known.now.exacts) here c.requires.exacts;
      limits = record {
        row_places = omega (arith, c.fill_row_limits.ensures.places);
        column_places = omega (arith, c.fill_column_limits.ensures.places);
        of_rows = c.fill_row_limits.ensures.limits;
        of_columns = rw c.div_ceil-2.ensures at c.fill_column_limits.ensures.limits;
      };
    }

pub returns-clause-exacts : goal.returns-clause-exacts
returns-clause-exacts g c =
    let group = c.args.rows.now.group in
    let row = c.args.rows.now.row in
    let here : row + group.first - row ≡ group.first = omega arith in
    subst (λ first. AreExacts group.plan.grid first c.scan_block.new.known.exacts) here c.scan_block.ensures.exacts

pub returns-clause-scanned : goal.returns-clause-scanned
returns-clause-scanned g c =
    let group = c.args.rows.now.group in
    let row = c.args.rows.now.row in
    let here : row + group.first - row ≡ group.first = omega arith in
    subst (λ first. AreScannedIn g.O.Offers.is_scanned group.plan.grid (in_block first (first + group.width) row
    (row + c.args.rows.now.count)) c.args.into.now c.scan_block.new.into) here (search rules)
