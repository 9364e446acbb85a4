use Rattle.std.proofs.Common.{◌≡◌, ◌+◌, ◌-◌, length, take, drop, ap, ◌∙◌, subst, arith, ⊎_elim, refl}
use Rattle.std.specs.Prelude.{Contains, IfOk, Err}
use Rattle.mp_nums.specs.declared.samples.Sample.TheVariants.{Missing as missing_sample}
use Rattle.mp_slide.specs.declared.refusal.SlideRefusal.{SlideRefusal}
use Rattle.mp_slide.specs.declared.refusal.SlideRefusal.TheVariants.{Length, Missing, Memory}
use Rattle.mp_defs.specs.Series.{series_of}
use Rattle.mp_results.specs.Slide.{distances_of}
use Rattle.mp_results.specs.Motifs.{distances_from}
use Rattle.mp_motifs.proofs.Windows.{distances_of_window, window_length, none_missing, ok_mapped}
use Rattle.mp_motifs.proofs.repeated.distances_to_all.Goals as goal

pub map_err-requires : goal.map_err-requires
map_err-requires g c = by_refusal
  where
    short : c.args.start + c.args.m - c.args.start ≡ c.args.m
    short = omega arith

    long : length (take (c.args.start + c.args.m - c.args.start) (drop c.args.start c.args.series.now)) ≡ c.args.m
    long = ap (λ n. length (take n (drop c.args.start c.args.series.now))) short
        ∙ window_length c.args.series.now c.args.m c.args.start c.requires.within

    by_refusal : (e : SlideRefusal) → c.distances.result ≡ Err e → e ≡ Memory
    by_refusal Length e = absurd (⊎_elim (λ less. omega (arith, less, long)) (λ more. omega (arith, more, long))
        (c.distances.ensures.length.0 e))
    by_refusal Missing e = absurd
        (none_missing c.args.series.now c.args.m c.args.start c.requires.within c.requires.free
        (subst (λ n. Contains (take n (drop c.args.start c.args.series.now)) missing_sample) short
        (c.distances.ensures.missing.0 e).2))
    by_refusal Memory e = refl

pub returns : goal.returns
returns g c =
    let series = c.args.series.now in
    let short : c.args.start + c.args.m - c.args.start ≡ c.args.m = omega arith in
    let same = ap (λ n. distances_of (series_of (take n (drop c.args.start series))) (series_of series)) short
    ∙ distances_of_window series c.args.m c.args.start (series_of series) c.requires.within in
    ok_mapped (λ list. list.items ≡ distances_from c.args.m (series_of series) c.args.start) _ c.distances.result
    c.map_err.result c.map_err.ensures.cases
    (subst (λ xs. IfOk c.distances.result (λ list. list.items ≡ xs)) same c.distances.ensures.distances)
