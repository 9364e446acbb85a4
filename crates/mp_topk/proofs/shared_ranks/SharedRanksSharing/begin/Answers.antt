use Rattle.std.proofs.Common.{◌≡◌, ℕ, List, map, subst, ap, ◌∙◌, arith}
use Rattle.mp_nums.specs.declared.nearest.Near.{Near}
use Rattle.mp_nums.specs.declared.samples.Sample.{Sample}
use Rattle.mp_topk.specs.Ranking.{merged_ranks, slots_of}
use Rattle.mp_topk.specs.Sharing.{RankSeries, entries_of, series_in, whole_of}
use Rattle.mp_topk.proofs.Entering.{within_whole}
use Rattle.mp_topk.proofs.shared_ranks.SharedRanksSharing.begin.Goals as goal

-- what is the same with the ranks of one series is so with those of the same
same_with : (k : ℕ) (s t : RankSeries) (new old : List (List Near)) → s ≡ t
    → merged_ranks k (map slots_of new) (map slots_of (whole_of k s))
    ≡ merged_ranks k (map slots_of old) (map slots_of (whole_of k s))
    → merged_ranks k (map slots_of old) (map slots_of (whole_of k t)) ≡ map slots_of (whole_of k t)
    → merged_ranks k (map slots_of new) (map slots_of (whole_of k t)) ≡ map slots_of (whole_of k t)
same_with k s t new old same e h =
    subst (λ u. merged_ranks k (map slots_of new) (map slots_of (whole_of k u))
    ≡ merged_ranks k (map slots_of old) (map slots_of (whole_of k u))) same e ∙ h

pub tell_all-requires : goal.tell_all-requires
tell_all-requires g c =
    let own = c.args.self.now in
    let grid = c.coarse.result.now.plan.grid in
    let series : entries_of grid.rows.now grid.m ≡ series_in own =
    ap (λ (m : ℕ). entries_of grid.rows.now m) c.coarse.ensures.m
    ∙ ap (λ (xs : List Sample). entries_of xs c.self.inside.tiles.now.m) c.coarse.ensures.samples
    ∙ ap series_in c.self.view_is in (
      omega arith,
      (
        omega arith,
        within_whole g.row.K (whole_of g.row.K (series_in own)) c.take_seeds.new.into.lists
            (same_with g.row.K (entries_of grid.rows.now grid.m) (series_in own) c.take_seeds.new.into.lists
            c.args.into.now.lists series c.take_seeds.ensures.value c.requires.within),
      ),
    )

pub returns-clause-within : goal.returns-clause-within
returns-clause-within g c =
    let own = c.args.self.now in
    let grid = c.coarse.result.now.plan.grid in
    let series : entries_of grid.rows.now grid.m ≡ series_in own =
    ap (λ (m : ℕ). entries_of grid.rows.now m) c.coarse.ensures.m
    ∙ ap (λ (xs : List Sample). entries_of xs c.self.inside.tiles.now.m) c.coarse.ensures.samples
    ∙ ap series_in c.self.view_is in
    same_with g.row.K (entries_of grid.rows.now grid.m) (series_in own) c.take_seeds.new.into.lists
    c.args.into.now.lists series c.take_seeds.ensures.value c.requires.within
