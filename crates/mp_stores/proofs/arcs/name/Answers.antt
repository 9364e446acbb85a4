use Rattle.std.proofs.Common.{◌≡◌, ◌∙◌, Some, ap, rules}
use Rattle.mp_stores.proofs.ArcLemmas.{named_already}
use Rattle.mp_stores.proofs.arcs.name.Goals as goal

pub returns-else-ne : goal.returns-else-ne
returns-else-ne c =
    let same : c.get.result ≡ c.args.nearest = search rules in
    named_already c.args.board.now.items c.args.i c.args.nearest (c.get.ensures.named ∙ ap Some same)
