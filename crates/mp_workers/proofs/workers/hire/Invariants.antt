use Rattle.std.proofs.Common.{◌≡◌, ℕ, ◌+◌, [], All, length}
use Rattle.mp_partial.specs.Values.{Value}
use Rattle.mp_workers.specs.Teams.{IsReady}
use Rattle.mp_workers.proofs.workers.hire.Given as goal

abbrev pub invariant-loop-found : goal.invariant-loop-found
invariant-loop-found g l =
    let part = g.P.Part in
    record {
      of_desk : l.pass.desk ≡ l.desk;
      unused : l.pass.drawn ≡ [];
      left : l.pass.weight + length l.team.items ≡ l.fn.pass.weight;
      hired : length l.team.items + length l.parts.items ≡ length l.fn.parts.items;
      alike : (size : ℕ) (start : Value)
          → All (λ part'. (part.size_of part' ≡ size) × (part.value part' ≡ start)) l.fn.parts.items
          → All (λ part'. (part.size_of part' ≡ size) × (part.value part' ≡ start)) l.parts.items
          × All (IsReady l.desk size start) l.team.items;
    }

abbrev pub decreases-loop-found : goal.decreases-loop-found
decreases-loop-found g l = goal.left-loop-found g l
