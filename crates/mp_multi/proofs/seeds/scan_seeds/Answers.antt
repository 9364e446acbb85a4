use Rattle.std.proofs.Common.{refl, ◌∙◌}
use Rattle.mp_multi.proofs.SeedLemmas.{ahead_none, ahead_then}
use Rattle.mp_multi.proofs.seeds.scan_seeds.Goals as goal

pub loop-k-init : goal.loop-k-init
loop-k-init g c = record { windows = c.requires.windows; spare = refl; ahead = ahead_none _ _ _ }

pub loop-k-preserved : goal.loop-k-preserved
loop-k-preserved g c = record {
  windows = c.scan_seed-in-loop-k.ensures.windows;
  spare = c.scan_seed-in-loop-k.ensures.spare ∙ c.scan_seed.ensures.spare ∙ c.loop-k.invariant.spare;
  ahead = ahead_then _ _ _ _ _
      (ahead_then _ _ _ _ _ c.loop-k.invariant.ahead c.scan_seed.ensures.ahead) c.scan_seed-in-loop-k.ensures.ahead;
}
