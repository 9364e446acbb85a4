use Rattle.std.proofs.Common.{arith, ap, length, subst, sym}
use Rattle.std.specs.Prelude.{All}
use Rattle.mp_defs.specs.Series.{series_of}
use Rattle.mp_defs.specs.Window.{windows}
use Rattle.mp_anytime.specs.Kept.{AreDistinct, AreSums, IsAlongCovered, IsDiagonal, last_place}
use Rattle.mp_anytime.specs.Waiting.{AreWaiting, IsCounted}
use Rattle.mp_anytime.proofs.coverage.Coverage.reserve_covered.Goals as goal

pub returns-clause-is_of : goal.returns-clause-is_of
returns-clause-is_of c = λ m items h.
    let same = c.reserve.ensures.items in
    let w = windows (length items) m in
    record {
      listed = record {
        diagonals = subst (All (IsDiagonal m w)) (sym same) h.listed.diagonals;
        distinct = subst AreDistinct (sym same) h.listed.distinct;
        lasts = subst (λ ds. AreSums m (series_of items) ds (last_place m items) c.args.self.now.sums) (sym same)
            h.listed.lasts;
        places = h.listed.places;
        limits_are = h.listed.limits_are;
        range = λ some. h.listed.range (omega (arith, some, ap length same));
        waiting = subst (λ ds. AreWaiting m w ds c.args.self.now.waiting) (sym same) h.listed.waiting;
      };
      counted = subst (IsCounted m w) (sym same) h.counted;
      profile = subst (λ ds. IsAlongCovered m items ds c.args.self.now.profile) (sym same) h.profile;
      limits = h.limits;
    }
