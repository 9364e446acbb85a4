-- A law of repeated patterns, in the subject's own words.
use Rattle.std.specs.Prelude.{◌≡◌, ℕ, ◌≤◌, length}
use Rattle.mp_defs.specs.Profile.{matrix_profile}
use Rattle.mp_defs.specs.Series.{Series}
use Rattle.mp_defs.specs.Window.{excl}
use Rattle.mp_results.specs.Motifs.{MotifQuery, matches_of, motifs, motifs_among, within_cutoff}

-- with more rounds than candidates the same ones are found
abbrev pub MoreRoundsChangeNothing : Type 0
MoreRoundsChangeNothing = (m : ℕ) (a : Series) (query : MotifQuery) (rounds : ℕ) →
    let candidates = within_cutoff query.cutoff (matrix_profile m a).all in
    length candidates ≤ rounds
    → motifs_among (matches_of m a query.radius query.max_matches) (excl m) query.neighbours rounds query.count
    candidates
    ≡ motifs m a query
