use Rattle.std.proofs.lemmas.Result.{IfOk-weaker}
use Rattle.mp_workers.proofs.WholeTelling.{whole_told}
use Rattle.mp_workers.proofs.told_tiles.tell_all.Goals as goal

pub returns-clause-whole : goal.returns-clause-whole
returns-clause-whole g c =
    IfOk-weaker c.run_telling.result _ _
    (λ hold told. whole_told c.args.tiles.now c.args.entries.now.series hold.told c.requires.tiles.series_is
    c.requires.together told)
    c.run_telling.ensures.told
