use Rattle.std.proofs.Common.{ℕ, ◌≤◌, length, map}
use Rattle.mp_defs.specs.Series.{series_of}
use Rattle.mp_results.specs.Multi.{distance_in}
use Rattle.mp_results.specs.Rising.{rising}
use Rattle.mp_multi.proofs.bounds.Level.count_free.Given as goal

abbrev pub invariant-loop-c : goal.invariant-loop-c
invariant-loop-c l =
    let ch = l.self.plan.channels in
    record {
      few : l.count ≤ l.c;
      bound : (other : ℕ) → length (rising (distance_in ch.m (map series_of ch.list.now) l.window other) l.c) ≤ l.count;
    }
