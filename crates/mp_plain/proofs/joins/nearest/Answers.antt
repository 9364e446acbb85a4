use Rattle.std.proofs.Common.{true, refl, sym, ap, ◌∙◌, arith}
use Rattle.mp_defs.specs.Series.{series_of}
use Rattle.mp_defs.specs.SeriesLaws.{series_are_of_samples}
use Rattle.mp_defs.specs.LeastLaws.{grows_by_one_candidate}
use Rattle.mp_plain.proofs.Steps.{distance_found, distance_missing, nearest_below, nearest_misses, nearest_takes}
use Rattle.mp_plain.proofs.joins.nearest.Goals as goal
use Rattle.mp_plain.proofs.joins.nearest.Goals.{in-Some, in_default}

pub loop-j-init : goal.loop-j-init
loop-j-init c = sym (grows_by_one_candidate.no_candidates _)

pub loop-j-preserved : goal.loop-j-preserved
loop-j-preserved c =
    let m = c.args.m in
    let a = series_of c.args.a.now in
    let b = series_of c.args.b.now in
    let i = c.args.i in
    let j = c.loop-j.j in
    elim c.match-distance.branch [
      | in-Some w ↦ w.best-is ∙ w.offer.ensures
          ∙ nearest_takes m (λ _. true) a i b j c.loop-j.best _ c.loop-j.invariant refl
          (distance_found _ _ w.in-Some.ensures.value)
      | in_default w ↦ w.best-is
          ∙ nearest_misses m (λ _. true) a i b j c.loop-j.best c.loop-j.invariant
          (distance_missing _ w.in_default.ensures.value)
    ]

pub returns : goal.returns
returns c =
    let m = c.args.m in
    let b = series_of c.args.b.now in
    c.loop-j.invariant
    ∙ ap (nearest_below m (λ _. true) (series_of c.args.a.now) c.args.i b)
    (omega (arith, c.windows-j-end.ensures) ∙ sym (series_are_of_samples.windows_are m c.args.b.now))
