use Rattle.std.proofs.Common.{refl, rules}
use Rattle.mp_nums.proofs.Refills.{lent_items}
use Rattle.mp_nums.proofs.lists.Items.as_mut_slice.Goals as goal

pub returns : goal.returns
returns g c = (
  (refl, λ items. lent_items c.self.inside.stored items c.args.self.now c.self.view_is),
  record { writes_back = tt; value = search rules },
)
