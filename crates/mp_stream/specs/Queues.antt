-- What becomes of a queue that lends its items.
use Rattle.std.specs.Prelude.{List}
use Rattle.std.specs.Borrow.{Lends, Fml, RattleType, MutBor, Array}
use Rattle.mp_nums.specs.Listed.{Listed}
use Rattle.mp_nums.specs.Lending.{refilled}
use Rattle.mp_stream.specs.contracts.queues.Queue.{the_row}

module _ (T : RattleType) where
  -- queue ends with the items that are last behind r, and with the room that it had
  abbrev pub LendsQueue : MutBor (Listed T.Denot) → MutBor (List T.Denot) → Fml
  LendsQueue queue r =
      Lends (the_row T) (Array T 0) queue r
      (λ items. record { items = refilled queue.now.items items; spare = queue.now.spare })
