use Rattle.std.proofs.Common.{◌≡◌, ℕ, ◌<◌, get_or, false, true}
use Rattle.mp_anytime.proofs.narrow.are_all.Given as goal

abbrev pub invariant-loop-k : goal.invariant-loop-k
invariant-loop-k l = l.all ≡ true → (q : ℕ) → q < l.k → get_or l.marks q false ≡ true
