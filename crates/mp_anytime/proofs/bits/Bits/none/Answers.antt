use Rattle.std.proofs.Common.{◌*◌, ◌/◌, ◌∙◌, ap}
use Rattle.mp_anytime.proofs.Marks.{all_places, none_at}
use Rattle.mp_anytime.proofs.bits.Bits.none.Goals as goal

pub returns-clause-places : goal.returns-clause-places
returns-clause-places c =
    all_places c.in_ok-zeros.field-0.items ∙ ap (λ n. 64 * n) c.in_ok-zeros.ensures.places

pub returns-clause-none : goal.returns-clause-none
returns-clause-none c = λ place. none_at c.in_ok-zeros.field-0.items place (c.in_ok-zeros.ensures.none (place / 64))
