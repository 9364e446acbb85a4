use Rattle.std.proofs.Common.{sym, ap, ◌∙◌}
use Rattle.mp_multi.specs.Tiling.{MultiTiling, multi_size}
use Rattle.mp_multi.proofs.SharedLemmas.{profile_count}
use Rattle.mp_multi.proofs.kernels.MultiTiles.entries.Goals as goal

pub new-requires : goal.new-requires
new-requires g c =
    let own = c.self.inside in
    let multi : MultiTiling = record { channels = own.channels.now; m = own.m; k = own.k; tiles = own.cut } in
    c.size.ensures ∙ sym (ap multi_size c.self.view_is) ∙ sym (profile_count multi)
