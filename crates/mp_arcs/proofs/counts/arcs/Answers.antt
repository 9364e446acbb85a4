use Rattle.mp_arcs.proofs.ArcLoops.{names_window, AreChanged-next, AreChanged-all}
use Rattle.mp_arcs.proofs.counts.arcs.Goals as goal

pub change-requires-clause-named : goal.change-requires-clause-named
change-requires-clause-named c =
    rw (c.index_of.ensures, c.loop-place.invariant.as_long)
    (names_window c.args.index.now c.loop-place.place c.loop-place-test.true c.requires.named)

pub loop-place-preserved : goal.loop-place-preserved
loop-place-preserved c =
    rw (c.change.ensures.items, c.index_of.ensures)
    (AreChanged-next _ _ _ c.loop-place-test.true c.loop-place.invariant)

pub returns : goal.returns
returns c = rw (AreChanged-all _ _ _ c.loop-place-test.false c.loop-place.invariant) at c.counts.ensures
