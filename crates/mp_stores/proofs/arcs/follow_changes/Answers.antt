use Rattle.std.proofs.Common.{◌∙◌}
use Rattle.mp_stores.proofs.arcs.follow_changes.Goals as goal

pub name_marked-requires-clause-unmarked : goal.name_marked-requires-clause-unmarked
name_marked-requires-clause-unmarked c = λ i clear. c.grow_to.ensures.same i ∙ c.requires.unmarked i clear
