use Rattle.std.proofs.Common.{arith}
use Rattle.mp_anytime.proofs.Told.{always_slots}
use Rattle.mp_anytime.proofs.residue_sides.ResidueSide.none_found.Goals as goal

pub returns : goal.returns
returns c =
    always_slots c.in_ok-none_exceeded.field-0 c.in_ok-vec.field-0.items c.args.count c.in_ok-none_exceeded.ensures
    (omega (arith, c.in_ok-vec.ensures.len))
