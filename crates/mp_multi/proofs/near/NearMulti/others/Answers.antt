use Rattle.std.proofs.Common.{◌≡◌, [], ◌∷◌, map, refl, sym, ap, subst, ◌∙◌, arith}
use Rattle.mp_defs.specs.Series.{series_of}
use Rattle.mp_defs.specs.Window.{excl}
use Rattle.mp_results.specs.Multi.{multi_of}
use Rattle.mp_partial.specs.Values.{merged_columns}
use Rattle.mp_cuts.specs.Cutting.{own_tiles}
use Rattle.mp_multi.specs.Tiling.{MultiTiling, multi_size, multi_together, window_count}
use Rattle.mp_multi.proofs.NearLemmas.{near_and_others}
use Rattle.mp_multi.proofs.near.NearMulti.others.Goals as goal

pub returns-clause-together : goal.returns-clause-together
returns-clause-together g c =
    let own = c.self.inside in
    let list = own.channels.now in
    let far : MultiTiling = record { channels = list; m = own.m; k = own.k; tiles = c.cut_own.result } in
    let w = window_count own.m list in
    let size : c.size.result ≡ w = c.size.ensures ∙ sym (ap multi_size c.self.view_is) in
    subst (λ (near : MultiTiling). merged_columns (multi_together near) (multi_together far)
    ≡ multi_of near.m near.k (map series_of near.channels) ∷ [])
    c.self.view_is
    (near_and_others own.m own.k list (excl own.m) w c.args.tile own.bands c.cut_own.result
    refl refl (omega arith) c.self.invariant.are_bands
    (c.cut_own.ensures.tiles ∙ ap (λ count. own_tiles count c.last.result c.args.tile) size
    ∙ ap (λ last. own_tiles w last c.args.tile) c.last.ensures))
