use Rattle.std.proofs.Common.{arith, refl, subst}
use Rattle.std.specs.Prelude.{false}
use Rattle.mp_defs.specs.Series.{series_of}
use Rattle.mp_tiles.specs.Scanning.{IsScanned}
use Rattle.mp_anytime.specs.Kept.{AreSums, is_last_pair}
use Rattle.mp_anytime.proofs.Windows.{both_ways}
use Rattle.mp_anytime.proofs.coverage.Coverage.extend_covered.Goals as goal

pub returns-clause-extended : goal.returns-clause-extended
returns-clause-extended c =
    let m = c.args.m in
    let last = c.args.last in
    let a = series_of c.args.samples.now.items in
    record {
      covered = refl;
      waiting = refl;
      range = refl;
      lasts = subst (λ ds. AreSums m a ds last c.extend_each.new.sums) c.as_slice.ensures c.extend_each.ensures.sums;
      places = c.extend_each.ensures.sum_places;
      limits_are = c.requires.waiting.limits_are;
      scanned = subst (λ ds. IsScanned (is_last_pair ds last) m a c.args.self.now.profile c.extend_each.new.profile)
          c.as_slice.ensures c.extend_each.ensures.scanned;
      limits = λ known. absurd (both_ways false known refl);
    }

pub returns-clause-room : goal.returns-clause-room
returns-clause-room c = omega (arith, c.extend_each.ensures.scanned.spare, c.extend_each.ensures.room)
