use Rattle.std.proofs.Common.{sym, ap, ◌∙◌}
use Rattle.std.proofs.lemmas.Option.{get_or_from_slice_get}
use Rattle.mp_cuts.specs.Pairs.{no_tile}
use Rattle.mp_tiles.specs.Pieces.{join_size}
use Rattle.mp_tiles.proofs.JoinLaws.{join_piece_taken}
use Rattle.mp_tiles.proofs.joins.JoinTilesKernel.run.Goals as goal

pub returns-clause-value : goal.returns-clause-value
returns-clause-value c =
    let grid = c.self.inside.plan.grid in
    let cut = c.self.inside.cut in
    join_piece_taken (record { a = grid.rows.now; b = grid.columns.now; m = grid.m; tiles = cut }) c.args.self.now
    c.args.piece _ c.tile.result c.args.into.now.items c.scan_join.new.into.items c.self.view_is
    (get_or_from_slice_get cut c.args.piece c.tile.result no_tile c.tile.ensures)
    (c.requires.size ∙ sym (ap join_size c.self.view_is)) c.scan_join.ensures.taken
