use Rattle.std.proofs.Common.{length, arith, ap, ◌∙◌, sym, subst}
use Rattle.std.specs.Prelude.{IfSome}
use Rattle.std.proofs.lemmas.List.{length-map}
use Rattle.mp_defs.specs.Series.{series_of}
use Rattle.mp_consensus.specs.declared.candidates.Candidate.{Candidate}
use Rattle.mp_consensus.specs.Bounds.{HasLeast, least_radius}
use Rattle.mp_consensus.specs.Searches.{HaveReached}
use Rattle.mp_consensus.specs.Searchers.{series_in}
use Rattle.mp_consensus.proofs.Pieces.{windows_there}
use Rattle.mp_consensus.proofs.Searching.{leaves_block, sound_block, radius_of_best}
use Rattle.mp_consensus.proofs.searchers.Searcher.take_block.Goals as goal

pub tell-requires-clause-radius : goal.tell-requires-clause-radius
tell-requires-clause-radius c =
    let s = c.args.search.now in
    let list = series_in s in
    let b = c.args.block in
    let reaches = c.as_slice.result.now in
    let count = length-map s.list.now series_of in
    let found = c.in_ok-reaches.ensures in
    let reached = subst (HaveReached (least_radius s.m s.list.now) s.m list b.place b.start (length s.list.now))
    (sym c.as_slice.ensures.value) found.reached in
    let sound = sound_block s.m list b reaches (length s.list.now) reached (sym count) c.args.self.now.best
    c.best_of-best.result (omega (arith, c.requires.block.place, count))
    (omega (
      arith,
      ap length c.as_slice.ensures.value,
      found.count,
      c.requires.block.within,
      windows_there s.m s.list.now b.place,
    ))
    c.requires.sound c.best_of-best.ensures.either in
    subst (λ l. IfSome c.best_of-best.result (λ (x : Candidate). HasLeast l x.radius.0))
    (sym (found.least ∙ c.requires.at_work.least)) (radius_of_best s.m list c.best_of-best.result sound)

pub returns-clause-sound : goal.returns-clause-sound
returns-clause-sound c =
    let s = c.args.search.now in
    let list = series_in s in
    let b = c.args.block in
    let reaches = c.as_slice.result.now in
    let count = length-map s.list.now series_of in
    let found = c.in_ok-reaches.ensures in
    let reached = subst (HaveReached (least_radius s.m s.list.now) s.m list b.place b.start (length s.list.now))
    (sym c.as_slice.ensures.value) found.reached in
    sound_block s.m list b reaches (length s.list.now) reached (sym count) c.args.self.now.best
    c.best_of-best.result (omega (arith, c.requires.block.place, count))
    (omega (
      arith,
      ap length c.as_slice.ensures.value,
      found.count,
      c.requires.block.within,
      windows_there s.m s.list.now b.place,
    ))
    c.requires.sound c.best_of-best.ensures.either

pub returns-clause-searched : goal.returns-clause-searched
returns-clause-searched c = λ k lt.
    let s = c.args.search.now in
    let list = series_in s in
    let b = c.args.block in
    let reaches = c.as_slice.result.now in
    let count = length-map s.list.now series_of in
    let found = c.in_ok-reaches.ensures in
    let reached = subst (HaveReached (least_radius s.m s.list.now) s.m list b.place b.start (length s.list.now))
    (sym c.as_slice.ensures.value) found.reached in
    leaves_block s.m list b reaches (length s.list.now) reached (sym count) c.best_of-best.result
    c.best_of-best.ensures.each k (omega (arith, lt, ap length c.as_slice.ensures.value, found.count))
