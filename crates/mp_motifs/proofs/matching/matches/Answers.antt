use Rattle.std.proofs.Common.{◌-◌, ◌++◌, refl, sym, ap, ◌∙◌, subst, map, length}
use Rattle.std.specs.List.{enumerate_from}
use Rattle.std.specs.Option.{option_to_list}
use Rattle.mp_motifs.specs.Described.{AreMatches}
use Rattle.mp_results.specs.Matches.{given, matches}
use Rattle.mp_motifs.specs.Retold.{match_key, near_of}
use Rattle.mp_motifs.proofs.MatchLemmas.{chosen_are_matches, matches_are_described}
use Rattle.mp_motifs.proofs.matching.matches.Goals as goal

pub returns : goal.returns
returns c =
    let dist = c.args.dist.now in
    let zone = c.args.excl in
    let radius = c.args.radius.0 in
    let same = c.given_window-given.ensures in
    let keys = c.as_slice.ensures.value
    ∙ c.in_ok-keys.ensures
    ∙ ap (λ chosen. map (match_key zone radius chosen) (enumerate_from 0 dist)) same in
    let room = c.room.ensures ∙ ap (λ chosen. c.args.max - length (option_to_list chosen)) same in
    let list = c.from.ensures
    ∙ c.in_ok-listed.ensures
    ∙ ap (λ chosen. option_to_list chosen ++ map near_of c.as_slice-2.result.now) same
    ∙ ap (λ found. option_to_list (given dist c.args.first) ++ map near_of found)
    (c.as_slice-2.ensures.value ∙ c.in_ok-found.ensures)
    ∙ chosen_are_matches zone radius _ (λ a b. refl) dist _ c.args.first c.args.max c.room.result keys room in
    record {
      matches = list;
      described = λ none.
          subst (AreMatches dist zone radius c.args.max)
          (sym (list ∙ ap (λ first. matches dist zone first radius c.args.max) none))
          (matches_are_described dist zone radius c.args.max);
    }
