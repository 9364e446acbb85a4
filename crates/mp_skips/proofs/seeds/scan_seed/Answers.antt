use Rattle.mp_skips.proofs.SeedLemmas.{none_scanned}
use Rattle.mp_skips.proofs.seeds.scan_seed.Goals as goal

pub returns-then-row-count_rows-clause-some : goal.returns-then-row-count_rows-clause-some
returns-then-row-count_rows-clause-some g c =
    none_scanned g.met.O.Offers.laws c.args.coarse.now.plan.grid _ c.requires.fits

pub returns-else-near-count_columns-clause-some : goal.returns-else-near-count_columns-clause-some
returns-else-near-count_columns-clause-some g c =
    none_scanned g.met.O.Offers.laws c.args.coarse.now.plan.grid _ c.requires.fits
