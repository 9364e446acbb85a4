use Rattle.std.proofs.lemmas.Option.{get_or_from_slice_get}
use Rattle.mp_cuts.specs.Pairs.{no_tile}
use Rattle.mp_multi.proofs.PieceLemmas.{piece_taken}
use Rattle.mp_multi.proofs.kernels.MultiTilesKernel.run.Goals as goal

pub returns-clause-value : goal.returns-clause-value
returns-clause-value g c =
    let own = c.self.inside in
    piece_taken (record { channels = own.channels.now; m = own.m; k = own.k; tiles = own.cut }) c.args.self.now
    c.args.piece c.tile.result c.args.into.now.items c.scan_fast.new.into.items c.self.view_is
    (get_or_from_slice_get own.cut c.args.piece c.tile.result no_tile c.tile.ensures)
    c.scan_fast.ensures.items
