use Rattle.std.proofs.Common.{length, refl, arith, ap, ◌∙◌}
use Rattle.mp_consensus.proofs.Scanning.{all_scanned, none_scanned}
use Rattle.mp_consensus.proofs.blocks.scan_all.Goals as goal

pub returns-then-columns-eq0-clause-each : goal.returns-then-columns-eq0-clause-each
returns-then-columns-eq0-clause-each c = λ i lt.
    none_scanned c.args.m c.args.rows.now c.args.others.now _ i
    (omega (arith, c.windows-columns.ensures, c.if-columns-eq0.true))

pub returns-clause-each : goal.returns-clause-each
returns-clause-each c =
    let count = ap length c.as_slice.ensures ∙ c.requires.places in
    let some = c.requires.some in
    let columns = c.windows-columns.ensures in
    let free = c.if-columns-eq0.false in
    λ i lt.
    all_scanned c.args.m c.args.rows.now c.args.others.now _ c.args.slots.now.items c.scan_both.new.into.items
    c.scan_both.ensures.items c.requires.places refl
    (omega (arith, count, some, columns, free, c.requires.places)) refl
    (omega (arith, count, some, c.requires.places)) i lt
