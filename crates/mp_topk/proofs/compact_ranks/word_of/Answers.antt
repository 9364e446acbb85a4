use Rattle.std.proofs.Common.{arith, subst}
use Rattle.std.specs.Prelude.{None}
use Rattle.std.proofs.lemmas.List.{get_or_default}
use Rattle.mp_tiles.specs.Compact.{IsWordOf}
use Rattle.mp_topk.proofs.Entering.{word_gives_none}
use Rattle.mp_topk.proofs.Through.{ranked_long}
use Rattle.mp_topk.proofs.compact_ranks.word_of.Goals as goal

pub returns : goal.returns
returns g c =
    word_gives_none g.row.K c.args.rank c.args.slots.now c.word.result c.requires.ranked c.requires.rank
    (subst (λ slot. IsWordOf slot c.word.result)
    (get_or_default c.args.slots.now c.args.rank _ None
    (omega (arith, c.requires.rank, ranked_long g.row.K c.args.slots.now c.requires.ranked)))
    c.word.ensures)
