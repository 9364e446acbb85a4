use Rattle.std.proofs.Common.{◌≡◌, ℕ, ◌+◌, All, length}
use Rattle.std.specs.Prelude.{sum_by}
use Rattle.mp_workers.specs.Desks.{times}
use Rattle.mp_workers.proofs.workers.join_passes.Given as goal

abbrev pub invariant-loop-worker : goal.invariant-loop-worker
invariant-loop-worker g l = record {
  is_desk : l.pass.desk ≡ l.desk;
  of_desk : All (λ worker. worker.pass.desk ≡ l.desk) l.team.items;
  weights : l.pass.weight + sum_by (λ worker. worker.pass.weight) l.team.items
      ≡ l.fn.pass.weight + sum_by (λ worker. worker.pass.weight) l.fn.team.items;
  drawn : (x : ℕ) → times x l.pass.drawn + sum_by (λ worker. times x worker.pass.drawn) l.team.items
      ≡ times x l.fn.pass.drawn + sum_by (λ worker. times x worker.pass.drawn) l.fn.team.items;
  count : length l.parts.items + length l.team.items ≡ length l.fn.parts.items + length l.fn.team.items;
  sizes : (size : ℕ) → All (λ worker. worker.size ≡ size) l.fn.team.items
      → All (λ part. g.P.Part.size_of part ≡ size) l.fn.parts.items
      → All (λ worker. worker.size ≡ size) l.team.items × All (λ part. g.P.Part.size_of part ≡ size) l.parts.items;
}

abbrev pub decreases-loop-worker : goal.decreases-loop-worker
decreases-loop-worker g l = length l.team.items
