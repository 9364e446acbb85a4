use Rattle.std.proofs.Common.{◌≡◌, ℕ, ◌+◌, Bool, map, sym, ap, subst, ◌∙◌, arith}
use Rattle.std.specs.Prelude.{◌||◌}
use Rattle.mp_defs.specs.Series.{series_of}
use Rattle.mp_defs.specs.SeriesLaws.{series_are_of_samples}
use Rattle.mp_defs.specs.Window.{excl, is_allowed}
use Rattle.mp_scans.specs.Offering.{in_block}
use Rattle.mp_scans.specs.Windows.{row_windows, column_windows}
use Rattle.mp_tiles.specs.Among.{either_way}
use Rattle.mp_topk.specs.Ranking.{HasRanks, slots_of}
use Rattle.mp_topk.proofs.SeedLemmas.{HasAll, ahead_spare, ahead_value, far_pairs}
use Rattle.mp_topk.proofs.Taken.{are_few}
use Rattle.mp_topk.proofs.scans.take_seeds.Goals as goal

pub scan_seeds-requires-clause-fits : goal.scan_seeds-requires-clause-fits
scan_seeds-requires-clause-fits g c =
    let grid = c.args.coarse.now.plan.grid in
    record {
      places = c.requires.places ∙ sym (series_are_of_samples.windows_are grid.m grid.rows.now);
      few = are_few g.row.K c.args.into.now.lists c.size-windows.ensures.is_value.ranks;
      same = ap series_of (sym c.requires.same);
    }

abbrev pairs : (g : _) → (c : goal.After-size-same_windows g) → ℕ → ℕ → Bool
pairs g c =
    let grid = c.args.coarse.now.plan.grid in
    in_block (c.excl.result + 1) (column_windows grid) 0 (row_windows grid)

before : (g : _) → (c : goal.After-size-same_windows g)
    → HasAll g.row.K c.args.coarse.now.plan.grid.m c.args.coarse.now.plan.grid.rows.now c.args.into.now
before g c =
    let grid = c.args.coarse.now.plan.grid in
    record {
      ranks = subst (λ n. HasRanks g.row.K n (map slots_of c.args.into.now.lists))
          (c.size-windows.ensures.size ∙ c.requires.places) c.size-windows.ensures.is_value;
      places = c.requires.places ∙ sym (series_are_of_samples.windows_are grid.m grid.rows.now);
    }

there : (g : _) → (c : goal.After-size-same_windows g)
    → HasAll g.row.K c.args.coarse.now.plan.grid.m c.args.coarse.now.plan.grid.rows.now c.scan_seeds.new.into
there g c =
    let grid = c.args.coarse.now.plan.grid in
    record {
      ranks = subst (λ n. HasRanks g.row.K n (map slots_of c.scan_seeds.new.into.lists))
          (c.size-same_windows.ensures.size ∙ c.scan_seeds.ensures.fits.places
          ∙ series_are_of_samples.windows_are grid.m grid.rows.now)
          c.size-same_windows.ensures.is_value;
      places = c.scan_seeds.ensures.fits.places;
    }

allowed : (g : _) → (c : goal.After-size-same_windows g) → (i j : ℕ)
    → (either_way (pairs g c) i j || is_allowed c.args.coarse.now.plan.grid.m i j)
    ≡ is_allowed c.args.coarse.now.plan.grid.m i j
allowed g c i j =
    let plan = c.args.coarse.now.plan in
    far_pairs (excl plan.grid.m) (c.excl.result + 1) (column_windows plan.grid) (row_windows plan.grid) i j
    (omega (arith, c.excl.ensures ∙ ap excl plan.same_length))

pub returns-clause-value : goal.returns-clause-value
returns-clause-value g c =
    let grid = c.args.coarse.now.plan.grid in
    ahead_value g.row.K (pairs g c) grid.m grid.rows.now (series_of grid.columns.now) c.args.into.now
    c.scan_seeds.new.into (λ after s. c.scan_seeds.ensures.ahead.all after s) (before g c) (there g c) (allowed g c)

pub returns-clause-size : goal.returns-clause-size
returns-clause-size g c = c.scan_seeds.ensures.fits.places ∙ sym (before g c).places

pub returns-clause-room : goal.returns-clause-room
returns-clause-room g c =
    let grid = c.args.coarse.now.plan.grid in
    ahead_spare g.row.K (pairs g c) grid.m grid.rows.now (series_of grid.columns.now) c.args.into.now
    c.scan_seeds.new.into (λ after s. c.scan_seeds.ensures.ahead.all after s) (there g c)
