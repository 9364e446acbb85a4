use Rattle.mp_arcs.proofs.EndChanges.{AreEnds-grow}
use Rattle.mp_arcs.proofs.boards.ArcBoard.grow.Goals as goal

pub invariant_of-self : goal.invariant_of-self
invariant_of-self c =
    let index_there = rw c.unwrap.ensures at c.push.ensures.ok in
    let begun_there = rw c.unwrap-2.ensures at c.push-2.ensures.ok in
    let ended_there = rw c.unwrap-3.ensures at c.push-3.ensures.ok in
    let few = rw (← c.self.view_is) at c.requires.few in
    rw (index_there, begun_there, ended_there) (AreEnds-grow _ _ _ few c.self.invariant)
