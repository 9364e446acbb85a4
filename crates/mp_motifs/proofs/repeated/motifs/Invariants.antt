use Rattle.std.proofs.Common.{length}
use Rattle.mp_defs.specs.Series.{series_of}
use Rattle.mp_results.specs.Motifs.{matches_of, within_cutoff}
use Rattle.mp_motifs.proofs.Searching.{IsSearching}
use Rattle.mp_motifs.proofs.repeated.motifs.Given as goal

abbrev pub invariant-loop-candidate : goal.invariant-loop-candidate
invariant-loop-candidate g l =
    IsSearching (matches_of l.m (series_of l.series) l.radius.0 l.max_matches) l.zone l.neighbours l.count
    (within_cutoff l.fn.cutoff.0 l.profile) l.candidate-items (length l.profile) l.candidate-index l.is_free.items
    l.found.items
