use Rattle.std.proofs.Common.{refl, arith, ◌+◌, ◌<◌, sym, ap, ◌∙◌}
use Rattle.std.specs.Prelude.{Some}
use Rattle.mp_defs.specs.Series.{series_of}
use Rattle.mp_defs.specs.DistanceLaws.{grows_by_one_sample}
use Rattle.mp_plain.proofs.Steps.{distance_takes, distance_ends, square_at_places}
use Rattle.mp_plain.proofs.distances.distance.Goals as goal

pub loop-k-init : goal.loop-k-init
loop-k-init c = record { is = grows_by_one_sample.no_samples _ _ _ _; small = omega arith }

pub loop-k-preserved : goal.loop-k-preserved
loop-k-preserved c =
    let places = square_at_places c.args.a.now (c.args.i + c.loop-k.k) c.args.b.now (c.args.j + c.loop-k.k)
    c.index-a-i.result c.index-b-j.result (omega arith) (omega arith) c.index-a-i.is c.index-b-j.is in
    record {
      is = distance_takes _ _ _ _ _ _ _ c.loop-k.invariant.is
          (places ∙ sym c.square_between.ensures.value ∙ c.in_ok-sum.was);
      small = omega (arith, c.loop-k.invariant.small, c.in_ok-sum.ensures.small);
    }

pub returns-in_err-sum-clause-value : goal.returns-in_err-sum-clause-value
returns-in_err-sum-clause-value c =
    let places = square_at_places c.args.a.now (c.args.i + c.loop-k.k) c.args.b.now (c.args.j + c.loop-k.k)
    c.index-a-i.result c.index-b-j.result (omega arith) (omega arith) c.index-a-i.is c.index-b-j.is in
    let before : c.loop-k.k < c.args.m = omega arith in
    rw (
      c.from_residual.ensures,
      distance_ends c.loop-k.k c.args.m (series_of c.args.a.now) c.args.i
          (series_of c.args.b.now) c.args.j before (places ∙ sym c.square_between.ensures.value ∙ c.in_err-sum.was),
    ) refl
