use Rattle.std.proofs.Common.{◌+◌, ◌*◌, arith}
use Rattle.mp_series.specs.declared.limits.TheConstants.{MAX_SAMPLES}
use Rattle.mp_tiles.proofs.CompactLemmas.{word_tells}
use Rattle.mp_tiles.proofs.compact.word_of.Goals as goal

pub returns : goal.returns
returns c =
    word_tells c.args.near (c.args.near.dist.0 * MAX_SAMPLES + c.args.near.index) c.requires.start c.requires.short
    (omega arith)
