use Rattle.std.proofs.Common.{arith, ap, ◌∙◌, get_or, []}
use Rattle.std.specs.Prelude.{slice_get, None}
use Rattle.std.proofs.lemmas.List.{get_or_default}
use Rattle.mp_topk.proofs.Places.{place_list}
use Rattle.mp_topk.proofs.Through.{rank_at, rank_past}
use Rattle.mp_topk.proofs.ranks.slot_of.Goals as goal

pub returns-then-rank : goal.returns-then-rank
returns-then-rank g c =
    let here = c.index-places-i.is ∙ get_or_default c.args.places.now c.args.i _ [] c.requires.place in
    ap (λ slots. get_or slots c.args.rank None) here
    ∙ rank_at g.row.K c.args.rank _ (c.requires.ranked c.args.i [] c.requires.place) (omega (arith, c.if-rank.true))
    ∙ ap (λ list. slice_get list c.args.rank) (place_list c.args.i c.args.places.now c.requires.place)

pub returns-else-rank : goal.returns-else-rank
returns-else-rank g c =
    rank_past g.row.K c.args.rank _ (c.requires.ranked c.args.i [] c.requires.place) (omega (arith, c.if-rank.false))
    ∙ ap (λ list. slice_get list c.args.rank) (place_list c.args.i c.args.places.now c.requires.place)
