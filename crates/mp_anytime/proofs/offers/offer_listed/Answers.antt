use Rattle.std.proofs.Common.{◌≡◌, ℕ, ◌+◌, ◌-◌, ◌<◌, ◌∙◌, arith, drop, get_or, length, subst, sym, take, true}
use Rattle.std.specs.Prelude.{◌==◌}
use Rattle.std.proofs.lemmas.Bool.Decides.{nat_tests}
use Rattle.std.proofs.lemmas.List.{get_or-drop, get_or-take, length-drop, length-take, take_all}
use Rattle.std.proofs.lemmas.List.Folds.{list_any_at}
use Rattle.mp_defs.specs.Series.{series_of}
use Rattle.mp_tiles.specs.Scanning.{IsScanned}
use Rattle.mp_anytime.specs.Kept.{is_last_pair}
use Rattle.mp_anytime.specs.Offers.{IsCoveredWithin}
use Rattle.mp_anytime.proofs.Reading.{last_pairs_more, no_last_pair}
use Rattle.mp_anytime.proofs.RowPairs.{row_places}
use Rattle.mp_anytime.proofs.offers.offer_listed.Goals as goal

pub loop-first-init : goal.loop-first-init
loop-first-init c =
    let row = c.args.row.now in
    record {
      within = omega arith;
      ready = c.requires.ready;
      scanned = no_last_pair row.last row.m (series_of row.samples.now.items) c.args.profile.now
          (row_places row.m row.samples.now.items row.last c.args.profile.now row.row.shortest row.row.within
          c.requires.ready.places);
    }

pub loop-first-preserved : goal.loop-first-preserved
loop-first-preserved c =
    let row = c.args.row.now in
    let covered = row.covered.now in
    let first = c.loop-first.first in
    let end = c.min-end.result in
    let there : first + (end - first) ≡ end = omega (arith, c.min-end.ensures, c.loop-first-test.true) in
    record {
      within = omega (arith, c.min-end.ensures);
      ready = c.offer_part.ensures.ready;
      scanned = subst (λ n. IsScanned (is_last_pair (take n covered) row.last) row.m (series_of row.samples.now.items)
          c.args.profile.now c.offer_part.new.profile) there
          (last_pairs_more covered first (end - first) row.last row.m (series_of row.samples.now.items)
          c.args.profile.now c.loop-first.profile c.offer_part.new.profile
          (row_places row.m row.samples.now.items row.last c.args.profile.now row.row.shortest row.row.within
          c.requires.ready.places)
          c.loop-first.invariant.scanned c.offer_part.ensures.scanned);
    }

pub offer_part-requires-clause-covered : goal.offer_part-requires-clause-covered
offer_part-requires-clause-covered c = λ k d lt.
    let row = c.args.row.now in
    let covered = row.covered.now in
    let first = c.loop-first.first in
    let count = c.min-end.result - first in
    let inside : first + k < length covered =
    omega (arith, lt, length-take count (drop first covered), length-drop first covered) in
    let same : get_or (take count (drop first covered)) k d ≡ get_or covered (first + k) d =
    get_or-take count (drop first covered) k d (omega (arith, lt, length-take count (drop first covered)))
    ∙ get_or-drop first covered k d in
    let diagonal = get_or covered (first + k) d in
    let lies = c.requires.diagonals (first + k) d inside in
    subst (IsCoveredWithin row.m row.last covered) (sym same)
    (record {
      is = list_any_at (λ other. other == diagonal) covered (first + k) d inside (itself diagonal);
      zone = lies.0;
      within = lies.1;
    })
  where
    itself : (d : ℕ) → (d == d) ≡ true
    itself d = grind (arith, nat_tests)

pub returns-clause-scanned : goal.returns-clause-scanned
returns-clause-scanned c =
    let row = c.args.row.now in
    subst (λ ds. IsScanned (is_last_pair ds row.last) row.m (series_of row.samples.now.items) c.args.profile.now
    c.loop-first.profile)
    (take_all c.loop-first.first row.covered.now
    (omega (arith, c.loop-first-test.false, c.loop-first.invariant.within)))
    c.loop-first.invariant.scanned
