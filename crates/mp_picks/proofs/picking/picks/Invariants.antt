use Rattle.std.proofs.Common.{heap_items, heap_len}
use Rattle.mp_picks.specs.Candidates.{by_key, candidates, place_of}
use Rattle.mp_picks.proofs.Choosing.{IsChoosing}
use Rattle.mp_picks.proofs.picking.picks.Given as goal

abbrev pub invariant-loop-waiting : goal.invariant-loop-waiting
invariant-loop-waiting g l = IsChoosing (by_key g.K.Ord.cmp) place_of l.zone l.count
    (candidates l.keys) l.is_free.items (heap_items l.waiting) l.chosen.items

abbrev pub decreases-loop-waiting : goal.decreases-loop-waiting
decreases-loop-waiting g l = heap_len l.waiting
