use Rattle.std.proofs.Common.{ap, ◌∙◌}
use Rattle.std.proofs.lemmas.Option.{IfSome_then}
use Rattle.std.proofs.lemmas.Result.{IfOk-weaker}
use Rattle.mp_tiles.specs.Pieces.{OwnTiling}
use Rattle.mp_topk.proofs.kernels.RankTiles.sums.Goals as goal

pub returns-clause-samples : goal.returns-clause-samples
returns-clause-samples g c = IfOk-weaker c.sums.result _ _ (λ found h. IfSome_then found h
    (λ sums e. e ∙ c.new.ensures.samples ∙ ap (λ (own : OwnTiling). own.samples) c.self.view_is))
    c.sums.ensures.samples

pub returns-clause-m : goal.returns-clause-m
returns-clause-m g c = IfOk-weaker c.sums.result _ _ (λ found h. IfSome_then found h
    (λ sums e. e ∙ c.new.ensures.m ∙ c.self.inside.plan.same_length ∙ ap (λ (own : OwnTiling). own.m) c.self.view_is))
    c.sums.ensures.m
