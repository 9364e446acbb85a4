-- What is seen of a list after a write through its slice.
use Rattle.std.proofs.Common.{◌≡◌, ◌-◌, List, ◌++◌, length, take, drop, ap, subst, vec_len, vec_capacity}
use Rattle.std.specs.Global.{Vec}
use Rattle.std.specs.Vec.{with_items}
use Rattle.mp_nums.specs.Listed.{Listed}
use Rattle.mp_nums.specs.Lending.{refilled}

-- what is seen of a vector with these items
abbrev seen_with : {X : Type 0} → Vec X → List X → Listed X
seen_with stored items = record { items = items; spare = vec_capacity stored - vec_len stored }

-- what is seen after a write through the slice
abbrev seen_after : {X : Type 0} → Listed X → List X → Listed X
seen_after seen items = record { items = refilled seen.items items; spare = seen.spare }

pub lent_items : {X : Type 0} (stored : Vec X) (items : List X) (seen : Listed X) → seen_with stored stored.items ≡ seen
    → seen_with stored (with_items stored items).items ≡ seen_after seen items
lent_items {X} stored items seen e =
    let P : Listed X → Type 0 = λ s. seen_with stored (with_items stored items).items ≡ seen_after s items in
    subst P e (ap (λ n. seen_with stored (take n (items ++ drop (length items) stored.items))) stored.ok.0)
