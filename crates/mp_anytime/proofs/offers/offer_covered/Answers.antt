use Rattle.std.proofs.Common.{◌∙◌, ◌-◌, ap, arith, get_or, sym}
use Rattle.std.specs.Prelude.{None, Some, if◌then◌else◌, ◌&&◌}
use Rattle.mp_defs.specs.Series.{series_of}
use Rattle.mp_defs.specs.Window.{is_free}
use Rattle.mp_partial.specs.Values.{Column}
use Rattle.mp_scans.specs.Offering.{only}
use Rattle.mp_tiles.specs.Scanning.{IsScanned}
use Rattle.mp_anytime.specs.Limits.{limit_of}
use Rattle.mp_anytime.proofs.Distances.{distance_is}
use Rattle.mp_anytime.proofs.RowPairs.{one_last, ready_again, row_count, row_places}
use Rattle.mp_anytime.proofs.offers.offer_covered.Goals as goal
use Rattle.mp_anytime.proofs.offers.offer_covered.Goals.{After-offer_pair}

taken : (c : After-offer_pair) → IsScanned (only (c.args.row.now.last - c.args.diagonal) c.args.row.now.last)
    c.args.row.now.m (series_of c.args.row.now.samples.now.items) c.args.profile.now c.offer_pair.new.into
taken c =
    let row = c.args.row.now in
    let a = series_of row.samples.now.items in
    let m = row.m in
    let sum = row.row.lasts c.args.diagonal c.requires.within c.requires.covered in
    c.offer_pair.ensures.taken m a
    (row_places m row.samples.now.items row.last c.args.profile.now row.row.shortest row.row.within
    c.requires.ready.places)
    (omega (arith, row_count m row.samples.now.items row.last row.row.shortest row.row.within))
    (distance_is m a (row.last - c.args.diagonal) row.last (get_or row.sums.now c.args.diagonal 0) sum
    ∙ ap (λ t. if t && is_free m a row.last then Some (get_or row.sums.now c.args.diagonal 0) else None)
    (sym c.free.ensures)
    ∙ ap (λ t. if c.free.result && t then Some (get_or row.sums.now c.args.diagonal 0) else None)
    (sym c.free-2.ensures)
    ∙ ap (λ s. if c.free.result && c.free-2.result then Some s else None) (sym c.from.ensures))

pub returns-clause-ready : goal.returns-clause-ready
returns-clause-ready c =
    let row = c.args.row.now in
    ready_again row.m row.samples.now.items row.last (row.last - c.args.diagonal) c.limit_of.result
    (only (row.last - c.args.diagonal) row.last) c.args.profile.now c.offer_pair.new.into c.args.limits.now
    row.row.shortest row.row.within (omega arith) c.requires.ready
    (taken (goal.at.returns-clause-ready c).After-offer_pair) c.offer_pair.ensures.right
    (c.limit_of.ensures.limit
    ∙ ap (λ (v : Column). limit_of (get_or v (row.last - c.args.diagonal) None)) c.right.ensures)

pub returns-clause-scanned : goal.returns-clause-scanned
returns-clause-scanned c =
    let row = c.args.row.now in
    one_last row.m row.samples.now.items row.covered.now row.last c.args.diagonal c.args.profile.now
    c.offer_pair.new.into row.row.shortest row.row.within c.requires.within c.requires.covered
    c.requires.ready.places (taken (goal.at.returns-clause-scanned c).After-offer_pair)
