use Rattle.std.proofs.Common.{map, ap, ◌∙◌}
use Rattle.mp_defs.specs.Series.{series_of}
use Rattle.mp_partial.specs.Values.{merged_column}
use Rattle.mp_cuts.specs.Pairs.{has_pair}
use Rattle.mp_multi.specs.Among.{multi_among}
use Rattle.mp_multi.specs.Tiling.{MultiTiling}
use Rattle.mp_multi.specs.declared.plans.MultiPlan.{MultiPlan}
use Rattle.mp_multi.proofs.SummedTiles.{tile_taken}
use Rattle.mp_multi.proofs.tiles.SummedMulti.scan_tile.Goals as goal

pub returns-then-are_mostly_apart-clause-items : goal.returns-then-are_mostly_apart-clause-items
returns-then-are_mostly_apart-clause-items g c =
    let plan = c.levels-levels.result.wide.plan in
    let is = c.self.invariant in
    (tile_taken plan c.args.self.now.m c.args.self.now.k c.args.self.now.channels c.args.tile.now c.args.into.now
    c.scan_apart.new.into
    (ap (λ (p : MultiPlan). p.channels.list.now) c.levels-levels.ensures.plan ∙ is.channels
    ∙ ap (λ (s : MultiTiling). s.channels) c.self.view_is)
    (ap (λ (p : MultiPlan). p.channels.m) c.levels-levels.ensures.plan ∙ is.length_is
    ∙ ap (λ (s : MultiTiling). s.m) c.self.view_is)
    (ap (λ (p : MultiPlan). p.channels.k) c.levels-levels.ensures.plan ∙ is.together
    ∙ ap (λ (s : MultiTiling). s.k) c.self.view_is)
    c.scan_apart.ensures.scanned).items

pub returns-else-are_mostly_apart-clause-items : goal.returns-else-are_mostly_apart-clause-items
returns-else-are_mostly_apart-clause-items g c =
    c.scan_tile.ensures.items
    ∙ ap (λ (s : MultiTiling). merged_column c.args.into.now.items
    (multi_among (has_pair 0 c.args.tile.now) s.m s.k (map series_of s.channels))) c.self.view_is
