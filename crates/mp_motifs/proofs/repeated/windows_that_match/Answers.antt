use Rattle.std.proofs.Common.{◌≡◌, ◌<◌, arith, rules, ap, ◌∙◌, None, get_or}
use Rattle.std.specs.Option.{is_some}
use Rattle.mp_motifs.proofs.Windows.{candidate_by_laws, free_within}
use Rattle.mp_motifs.proofs.Alone.{alone, itself_there}
use Rattle.mp_motifs.proofs.repeated.windows_that_match.Goals as goal

pub distances_to_all-requires-clause-within : goal.distances_to_all-requires-clause-within
distances_to_all-requires-clause-within g c κs within =
    let candidate = candidate_by_laws c.args.m _ c.args.candidate c.distance_is_of_free_windows.ensures
    c.entries_are_nearest.ensures c.requires.entry in
    free_within c.args.series.now c.args.m c.args.candidate.index (omega arith) candidate.free

pub matches-requires-clause-first : goal.matches-requires-clause-first
matches-requires-clause-first g c = λ x e.
    let candidate = candidate_by_laws c.args.m _ c.args.candidate c.distance_is_of_free_windows.ensures
    c.entries_are_nearest.ensures c.requires.entry in
    let place : x ≡ c.args.candidate.index = cc in
    ap is_some
    (ap (λ k. get_or c.as_slice.result.now k None) place
    ∙ ap (λ xs. get_or xs c.args.candidate.index None) (c.as_slice.ensures ∙ c.in_ok-dist.ensures)
    ∙ itself_there c.args.m c.args.series.now c.args.candidate (omega arith) candidate)

pub returns-then-lt : goal.returns-then-lt
returns-then-lt g c =
    let candidate = candidate_by_laws c.args.m _ c.args.candidate c.distance_is_of_free_windows.ensures
    c.entries_are_nearest.ensures c.requires.entry in
    let short : c.args.radius.0 < c.args.candidate.dist.0 = search rules in
    c.from.ensures
    ∙ c.in_ok-vec.ensures.items
    ∙ alone c.args.m c.args.series.now c.args.candidate (omega arith) candidate c.args.radius.0 c.args.max_matches short

pub distances_to_all-requires-clause-free : goal.distances_to_all-requires-clause-free
distances_to_all-requires-clause-free g c κs lives =
    let candidate = candidate_by_laws c.args.m _ c.args.candidate c.distance_is_of_free_windows.ensures
    c.entries_are_nearest.ensures c.requires.entry in
    candidate.free
