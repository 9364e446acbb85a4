use Rattle.std.proofs.Common.{ap, sym, ◌∙◌}
use Rattle.mp_defs.specs.Series.{series_of}
use Rattle.mp_pan.proofs.scans.scan_lengths.Goals as goal

pub scan-requires-clause-fits : goal.scan-requires-clause-fits
scan-requires-clause-fits c = record {
  series = ap series_of c.requires.rows;
  same = ap series_of (c.requires.rows ∙ sym c.requires.columns);
  least = sym c.requires.least;
  places = c.requires.places;
}
