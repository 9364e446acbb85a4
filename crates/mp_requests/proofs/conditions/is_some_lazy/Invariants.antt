use Rattle.std.proofs.Common.{◌≡◌, ◌<◌, ℕ, List, drop, get_or}
use Rattle.std.specs.Prelude.{None}
use Rattle.mp_replies.specs.Conditions.{some_lazy}
use Rattle.mp_replies.specs.declared.refs.Ref.{Ref}
use Rattle.mp_replies.specs.State.{Store}
use Rattle.mp_stores.specs.Stores.{IsOpenSlot, StandFor, keep_of, slot_at}
use Rattle.mp_requests.proofs.conditions.is_some_lazy.Given as goal

abbrev pub invariant-loop-at : goal.invariant-loop-at
invariant-loop-at l = record {
  same : (stands : List Store) → StandFor l.stores stands
      → some_lazy stands l.refs ≡ some_lazy stands (drop l.at-index l.refs);
  there : (k : ℕ) (d : Ref) → k < l.at-index → keep_of (slot_at l.stores (get_or l.refs k d).slot) ≡ None
      → IsOpenSlot l.stores (get_or l.refs k d);
}
