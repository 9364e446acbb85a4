use Rattle.std.proofs.Common.{refl}
use Rattle.mp_anytime.proofs.Windows.{none_kept}
use Rattle.mp_anytime.proofs.coverage.Coverage.none.Goals as goal

pub returns-clause-is_of : goal.returns-clause-is_of
returns-clause-is_of c = λ items count.
    none_kept c.args.m c.args.count items _ count c.in_ok-unit.ensures.value c.new.ensures.items c.in_ok-of.ensures
    c.in_ok-filled.ensures refl c.in_ok-none_covered.ensures c.requires
