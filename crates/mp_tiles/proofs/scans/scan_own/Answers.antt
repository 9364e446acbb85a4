use Rattle.std.proofs.Common.{refl, sym, ◌∙◌}
use Rattle.mp_defs.specs.Series.{series_of}
use Rattle.mp_defs.specs.Profile.{windows_of}
use Rattle.mp_defs.specs.SeriesLaws.{series_are_of_samples}
use Rattle.mp_cuts.specs.Pairs.{has_pair}
use Rattle.mp_tiles.specs.Scanning.{HasPlaces}
use Rattle.mp_tiles.specs.OfferingLaws.{each_to_other}
use Rattle.mp_tiles.specs.Pieces.{profile_has_columns}
use Rattle.mp_tiles.proofs.scans.scan_own.Goals as goal

pub returns : goal.returns
returns c =
    let m = c.args.m in
    let a = series_of c.args.samples.now in
    let pairs = has_pair 0 c.args.tile.now in
    let all = c.requires.places ∙ sym (series_are_of_samples.windows_are m c.args.samples.now) in
    let places : HasPlaces (windows_of m a) c.args.into.now = record {
      all = all;
      sides = record {
        left = sym c.len-windows.ensures.left ∙ c.len-windows.ensures.all ∙ all;
        right = sym c.len-windows.ensures.right ∙ c.len-windows.ensures.all ∙ all;
      };
    } in
    let scanned = rw c.of-plan.ensures.grid at c.scan_tile.ensures.scanned in
    let stay = (each_to_other.still_fits m a a pairs _ _ (places, refl) scanned).0 in
    record {
      all = scanned.all;
      left = scanned.sides.left;
      right = scanned.sides.right;
      places = stay.all ∙ sym all;
      is_value = profile_has_columns _ _ stay;
      room = (scanned.spare, scanned.sides.room);
    }
