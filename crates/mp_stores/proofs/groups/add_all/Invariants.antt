use Rattle.std.proofs.Common.{◌≡◌, ℕ, ◌<◌, ◌≤◌, [], get_or}
use Rattle.mp_stores.specs.Channels.{HasGrown}
use Rattle.mp_stores.specs.Stores.{lists_in, nothing}
use Rattle.mp_stores.proofs.groups.add_all.Given as goal

abbrev pub invariant-loop-k : goal.invariant-loop-k
invariant-loop-k l = record {
  done : (j : ℕ) → j < l.k
      → HasGrown (get_or (lists_in l.added) j []) (get_or l.initial.channels j nothing) (get_or l.channels j nothing);
  rest : (j : ℕ) → l.k ≤ j → get_or l.channels j nothing ≡ get_or l.initial.channels j nothing;
}
