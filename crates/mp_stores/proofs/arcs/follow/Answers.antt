use Rattle.std.proofs.Common.{◌∙◌, arith}
use Rattle.mp_stores.proofs.ArcLemmas.{each_named}
use Rattle.mp_stores.proofs.arcs.follow.Goals as goal

pub returns : goal.returns
returns c =
    let named = c.name_part.ensures in
    each_named c.args.profile.now c.name_part.new.board.items (named.as_long ∙ c.grow_to.ensures.long)
    (λ k lt. named.within k (omega arith) lt)
