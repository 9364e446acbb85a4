use Rattle.std.proofs.Common.{◌≡◌, ℕ, ◌<◌, get_or}
use Rattle.mp_anytime.proofs.bits.are_zero.Given as goal

abbrev pub invariant-loop-k : goal.invariant-loop-k
invariant-loop-k l = l.all ≡ 0 → (q : ℕ) → q < l.k → get_or l.words q 0 ≡ 0
