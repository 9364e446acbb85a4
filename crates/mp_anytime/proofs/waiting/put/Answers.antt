use Rattle.std.proofs.Common.{◌/◌, ◌∙◌, Bool, List, ap, false, get_or, set, subst, sym}
use Rattle.std.specs.Prelude.{◌||◌}
use Rattle.mp_anytime.specs.Waiting.{AreMarks}
use Rattle.mp_anytime.proofs.Choosing.{marks_put, put_at}
use Rattle.mp_anytime.proofs.waiting.put.Goals as goal

pub returns-clause-places : goal.returns-clause-places
returns-clause-places c = λ place lt.
    ap (λ (l : List Bool). get_or l place false) c.set.ensures
    ∙ put_at c.args.places.now c.args.diagonal c.reversal-place.result c.args.is_waiting
    c.reversal-place.ensures.reversal c.requires.diagonal c.requires.marks.all c.reversal-place.ensures.small place lt

pub returns-clause-marks : goal.returns-clause-marks
returns-clause-marks c =
    subst (λ (l : List Bool). AreMarks l (set c.args.marks.now (c.reversal-place.result / 512)
    (c.args.is_waiting || get_or c.args.marks.now (c.reversal-place.result / 512) false))) (sym c.set.ensures)
    (marks_put c.args.places.now c.args.marks.now c.reversal-place.result c.args.is_waiting c.requires.marks
    c.reversal-place.ensures.small)
