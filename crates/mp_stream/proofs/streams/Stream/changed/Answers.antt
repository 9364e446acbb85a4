use Rattle.std.proofs.Common.{◌∙◌, ap, length}
use Rattle.mp_defs.specs.Window.{windows}
use Rattle.mp_stream.specs.Blocks.{block_count}
use Rattle.mp_stream.proofs.Growing.{rights_count}
use Rattle.mp_stream.proofs.streams.Stream.changed.Goals as goal

pub returns-clause-blocks : goal.returns-clause-blocks
returns-clause-blocks c =
    let stream = c.self.inside in
    c.changed.ensures.blocks
    ∙ ap block_count (rights_count stream.m stream.samples.items stream.growing c.self.invariant.2)
    ∙ ap (λ v. block_count (windows (length v.items) v.m)) c.self.view_is
