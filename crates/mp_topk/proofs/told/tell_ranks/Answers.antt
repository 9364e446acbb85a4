use Rattle.std.proofs.lemmas.Result.{IfOk-weaker}
use Rattle.mp_topk.proofs.RankTelling.{all_told}
use Rattle.mp_topk.proofs.told.tell_ranks.Goals as goal

pub returns-clause-all : goal.returns-clause-all
returns-clause-all g c =
    let k = g.row.K in
    IfOk-weaker c.run_telling.result _ _
    (λ hold told. all_told k c.args.tiles.now hold.view c.requires.together told)
    c.run_telling.ensures.told
