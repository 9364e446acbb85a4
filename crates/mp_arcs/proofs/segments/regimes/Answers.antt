use Rattle.std.proofs.Common.{ap, ◌∙◌, map}
use Rattle.mp_nums.specs.Ratio.{ratio_cmp}
use Rattle.mp_picks.specs.Candidates.{by_key, place_of, candidates}
use Rattle.mp_picks.specs.Picks.{picks}
use Rattle.mp_arcs.proofs.RegimeLemmas.{meet_regimes, regimes_of_parts}
use Rattle.mp_arcs.proofs.segments.regimes.Goals as goal

pub returns : goal.returns
returns c =
    let curve = c.args.curve.now in
    let zone = c.args.zone in
    let count = c.args.count in
    let chosen = c.as_slice-2.ensures.value
    ∙ c.in_ok-chosen.ensures
    ∙ ap (λ low. picks (by_key ratio_cmp) place_of zone count (candidates low))
    (c.as_slice.ensures.value ∙ c.in_ok-low.ensures) in
    let places = c.from.ensures ∙ c.in_ok-places_of.ensures ∙ ap (map place_of) chosen in
    record {
      regimes = places;
      described = meet_regimes curve zone count _ places;
      by_parts = places ∙ regimes_of_parts curve zone count;
    }
