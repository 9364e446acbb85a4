use Rattle.std.proofs.Common.{◌≡◌, length, refl, rules}
use Rattle.std.specs.Prelude.{slice_get}
use Rattle.mp_replies.specs.ArcLaws.{regimes_within}
use Rattle.mp_made.proofs.SummaryLemmas.{first_within}
use Rattle.mp_made.proofs.summaries.first_regime.Goals as goal

pub returns-clause-within : goal.returns-clause-within
returns-clause-within c =
    let curve = c.args.curve.now in
    let places = c.as_slice.result.now in
    let is : c.copied.result ≡ slice_get places 0 = search rules in
    first_within places c.copied.result (length curve)
    (regimes_within curve _ _ _ _ places c.in_ok-places.ensures.described c.as_slice.ensures refl) is
