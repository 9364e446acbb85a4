use Rattle.std.proofs.Common.{◌≡◌, [], ◌∷◌, map, ap, ◌∙◌, sym, arith}
use Rattle.mp_defs.specs.Series.{series_of}
use Rattle.mp_results.specs.Multi.{multi_of}
use Rattle.mp_partial.specs.Values.{Column, merged_column}
use Rattle.mp_multi.specs.Tiling.{MultiTiling}
use Rattle.mp_multi.specs.TilingLaws.{windows_of_channels}
use Rattle.mp_multi.specs.declared.plans.MultiPlan.{MultiPlan}
use Rattle.mp_multi.proofs.SummedTiles.{ahead_whole}
use Rattle.mp_multi.proofs.tiles.SummedMulti.begin.Goals as goal

pub returns-clause-whole : goal.returns-clause-whole
returns-clause-whole g c =
    let level = c.levels-levels.result.wide in
    let plan = level.plan in
    let seen = c.args.self.now in
    let is = c.self.invariant in
    let list : plan.channels.list.now ≡ seen.channels =
    ap (λ (p : MultiPlan). p.channels.list.now) c.levels-levels.ensures.plan ∙ is.channels
    ∙ ap (λ (s : MultiTiling). s.channels) c.self.view_is in
    let m : plan.channels.m ≡ seen.m =
    ap (λ (p : MultiPlan). p.channels.m) c.levels-levels.ensures.plan ∙ is.length_is
    ∙ ap (λ (s : MultiTiling). s.m) c.self.view_is in
    let k : plan.channels.k ≡ seen.k =
    ap (λ (p : MultiPlan). p.channels.k) c.levels-levels.ensures.plan ∙ is.together
    ∙ ap (λ (s : MultiTiling). s.k) c.self.view_is in
    let same : multi_of plan.channels.m plan.channels.k (map series_of plan.channels.list.now)
    ≡ multi_of seen.m seen.k (map series_of seen.channels) =
    ap (λ n. multi_of n plan.channels.k (map series_of plan.channels.list.now)) m
    ∙ ap (λ n. multi_of seen.m n (map series_of plan.channels.list.now)) k
    ∙ ap (λ s. multi_of seen.m seen.k (map series_of s)) list in
    ap (λ (column : Column). column ∷ [])
    (ap (merged_column c.scan_seeds.new.into.items) (sym same)
    ∙ ahead_whole plan c.args.into.now c.scan_seeds.new.into level.windows _
    (level.all_windows ∙ windows_of_channels plan.channels.m plan.channels.list.now)
    (omega (arith, c.first.ensures, m, ap (λ (s : MultiTiling). s.m) c.self.view_is)) c.scan_seeds.ensures.ahead
    ∙ ap (merged_column c.args.into.now.items) same)
