-- What becomes of a list that lends its items.
use Rattle.std.specs.Prelude.{List, ◌++◌, length, take, drop}
use Rattle.std.specs.Borrow.{Lends, Fml, RattleType, MutBor, Array}
use Rattle.mp_nums.specs.Listed.{Listed}
use Rattle.mp_nums.specs.contracts.lists.Items.{the_row}

-- these items, cut or filled up to as many as there were. A slice keeps its length, so nothing is cut or filled
abbrev pub refilled : {X : Type 0} → List X → List X → List X
refilled old items = take (length old) (items ++ drop (length items) old)

module _ (T : RattleType) where
  -- list ends with the items that are last behind r, and with the room that it had
  abbrev pub LendsItems : MutBor (Listed T.Denot) → MutBor (List T.Denot) → Fml
  LendsItems list r =
      Lends (the_row T) (Array T 0) list r
      (λ items. record { items = refilled list.now.items items; spare = list.now.spare })
