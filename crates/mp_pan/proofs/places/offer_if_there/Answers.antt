use Rattle.std.proofs.Common.{ap, sym, ◌∙◌}
use Rattle.mp_pan.specs.Spans.{pair_put}
use Rattle.mp_pan.proofs.Offered.{none_put}
use Rattle.mp_pan.proofs.places.offer_if_there.Goals as goal

pub returns-in_default : goal.returns-in_default
returns-in_default c =
    none_put c.args.k c.args.row c.args.column c.args.slots.now
    ∙ ap (λ d. pair_put c.args.k c.args.row c.args.column d c.args.slots.now) (sym c.in_default.is)
