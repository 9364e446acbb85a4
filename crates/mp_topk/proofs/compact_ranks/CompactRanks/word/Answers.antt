use Rattle.std.proofs.Common.{◌∙◌, [], ap, get_or, map, subst, sym}
use Rattle.mp_tiles.specs.Compact.{slot_of_word}
use Rattle.mp_topk.specs.Ranking.{Ranked, those_in}
use Rattle.mp_topk.specs.Sharing.{GivesNone}
use Rattle.mp_topk.proofs.Whole.{same_there}
use Rattle.mp_topk.proofs.compact_ranks.CompactRanks.word.Goals as goal

pub returns : goal.returns
returns g c = subst (λ list. GivesNone g.row.K list (slot_of_word c.word_at.result))
    (ap (λ places. get_or (map those_in places) c.args.i []) c.as_slice.ensures.value
    ∙ sym (same_there g.row.K c.self.inside.size c.args.i c.self.inside.places.items)
    ∙ ap (λ (r : Ranked). get_or r.lists c.args.i []) c.self.view_is)
    c.word_at.ensures
