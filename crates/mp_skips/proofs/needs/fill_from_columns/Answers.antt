use Rattle.std.proofs.Common.{length, arith}
use Rattle.mp_skips.proofs.NeedLemmas.{group_needs_are, group_needs_lowered}
use Rattle.mp_skips.proofs.needs.fill_from_columns.Goals as goal

pub returns-clause-needs : goal.returns-clause-needs
returns-clause-needs g c =
    group_needs_lowered c.args.coarse.now (g.O.Offers.keeps_column c.args.into.now) c.args.first c.args.group
    (length c.args.needs.now) c.fill_greatest.new.needs c.lower.new.needs c.lower.ensures.same
    (group_needs_are c.args.coarse.now (g.O.Offers.keeps_column c.args.into.now) c.args.first c.args.group
    (length c.args.needs.now) (length c.args.columns.now) c.fill_column_needs.new.needs c.fill_greatest.new.needs
    c.fill_column_needs.ensures.needs c.fill_greatest.ensures.greatest (omega (arith, c.requires.places)))
