use Rattle.std.proofs.Common.{◌≡◌, ◌+◌, ◌∙◌, ap, arith, subst, sym}
use Rattle.std.specs.Prelude.{Some, None, if◌then◌else◌, ◌&&◌}
use Rattle.mp_defs.specs.Series.{series_of}
use Rattle.mp_defs.specs.Window.{is_free}
use Rattle.mp_defs.specs.Profile.{windows_of}
use Rattle.mp_defs.specs.SeriesLaws.{series_are_of_samples}
use Rattle.mp_tiles.specs.Scanning.{HasPlaces}
use Rattle.mp_anytime.proofs.Distances.{distance_is}
use Rattle.mp_anytime.proofs.extending.extend.Goals as goal

pub returns-clause-scanned : goal.returns-clause-scanned
returns-clause-scanned c =
    let a = series_of c.args.samples.now.items in
    let m = c.args.m in
    let count : windows_of m a ≡ c.args.last + 1 =
    series_are_of_samples.windows_are m c.args.samples.now.items
    ∙ omega (arith, c.requires.within, c.requires.shortest) in
    c.offer_pair.ensures.taken m a (subst (λ w. HasPlaces w c.args.profile.now) (sym count) c.requires.places)
    (omega (arith, count))
    (distance_is m a c.args.i c.args.last c.next_sum-sum.result c.next_sum-sum.ensures.sum
    ∙ ap (λ t. if t && is_free m a c.args.last then Some c.next_sum-sum.result else None) (sym c.free.ensures)
    ∙ ap (λ t. if c.free.result && t then Some c.next_sum-sum.result else None) (sym c.free-2.ensures))
