use Rattle.std.proofs.Common.{◌≡◌, List, drop}
use Rattle.mp_replies.specs.Conditions.{some_closed}
use Rattle.mp_replies.specs.State.{Store}
use Rattle.mp_stores.specs.Stores.{StandFor}
use Rattle.mp_requests.proofs.conditions.is_some_closed.Given as goal

abbrev pub invariant-loop-at : goal.invariant-loop-at
invariant-loop-at l = (stands : List Store) → StandFor l.stores stands
    → some_closed stands l.refs ≡ some_closed stands (drop l.at-index l.refs)
