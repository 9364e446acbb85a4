-- The limits of what a run is started with.
use Rattle.std.specs.Prelude.{◌≤◌}
use Rattle.mp_defs.specs.Limits.{min_window, max_window}
use Rattle.mp_replies.specs.Limits.{max_scale, max_tile, max_workers}
use Rattle.mp_replies.specs.Words.{Setup}

pub record IsWithinLimits (setup : Setup) : Type 0 where
  pub window_low : min_window ≤ setup.window
  pub window_high : setup.window ≤ max_window
  pub scale_high : setup.scale ≤ max_scale
  pub tile_low : 1 ≤ setup.tile
  pub tile_high : setup.tile ≤ max_tile
  pub workers_low : 1 ≤ setup.workers
  pub workers_high : setup.workers ≤ max_workers
