use Rattle.mp_series.specs.Samples.{numbers_in}
use Rattle.mp_anytime.proofs.Windows.{wider_range}
use Rattle.mp_anytime.proofs.coverage.Coverage.widen.Goals as goal

pub returns-clause-is_of : goal.returns-clause-is_of
returns-clause-is_of c = λ m items h. record {
  listed = record {
    diagonals = h.listed.diagonals;
    distinct = h.listed.distinct;
    lasts = h.listed.lasts;
    places = h.listed.places;
    limits_are = h.listed.limits_are;
    range = λ some. wider_range c.around-self.result c.args.self.now.range (numbers_in items)
        c.around-self.ensures.wider
        (h.listed.range some);
    waiting = h.listed.waiting;
  };
  counted = h.counted;
  profile = h.profile;
  limits = h.limits;
}
