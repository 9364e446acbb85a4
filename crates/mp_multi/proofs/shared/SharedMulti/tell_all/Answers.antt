use Rattle.mp_multi.proofs.SharedLemmas.{of_whole, whole_count}
use Rattle.mp_multi.proofs.shared.SharedMulti.tell_all.Goals as goal

pub tell-requires-clause-size : goal.tell-requires-clause-size
tell-requires-clause-size g c =
    let own = c.self.inside in
    whole_count c.args.self.now c.in-Some.entries c.args.found.now.items
    (of_whole own.parts own.summed.now c.args.self.now own.entries c.in-Some.entries c.self.invariant
    c.self.view_is c.in-Some.is) c.requires.size
