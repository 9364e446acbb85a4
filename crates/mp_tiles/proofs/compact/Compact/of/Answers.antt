use Rattle.std.proofs.Common.{◌+◌, ◌*◌, ◌∙◌, ap}
use Rattle.mp_series.specs.declared.limits.TheConstants.{MAX_SAMPLES}
use Rattle.mp_tiles.proofs.CompactLemmas.{packed}
use Rattle.mp_tiles.proofs.compact.Compact.of.Goals as goal

pub returns : goal.returns
returns c =
    packed c.args.near _ c.requires.start c.requires.small
    (ap (λ most. c.args.near.dist.0 * most + c.from-2.result) c.from.ensures
    ∙ ap (λ start. c.args.near.dist.0 * MAX_SAMPLES + start) c.from-2.ensures)
