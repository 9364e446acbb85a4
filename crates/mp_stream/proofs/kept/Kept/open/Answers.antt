use Rattle.std.proofs.Common.{arith}
use Rattle.mp_stream.proofs.KeptStands.{stands_first}
use Rattle.mp_stream.proofs.kept.Kept.open.Goals as goal

pub returns-clause-stands : goal.returns-clause-stands
returns-clause-stands c =
    stands_first c.args.m c.args.keep c.in_ok-new.field-0 c.in_ok-no_windows.field-0 (omega arith)
    c.in_ok-new.ensures.items c.in_ok-new.ensures.dropped c.in_ok-no_windows.ensures.is_of
