use Rattle.std.proofs.Common.{◌≡◌, arith, subst, sym}
use Rattle.std.specs.Prelude.{None}
use Rattle.mp_defs.specs.Least.{near}
use Rattle.mp_defs.specs.LeastLaws.{grows_by_one_candidate}
use Rattle.mp_stream.specs.Moves.{AreOfferedBy, moved_candidate}
use Rattle.mp_stream.proofs.Taken.{offered_none}
use Rattle.mp_stream.proofs.narrow_rows.take_any.Goals as goal

pub returns-then-end-eq0-clause-offered : goal.returns-then-end-eq0-clause-offered
returns-then-end-eq0-clause-offered c =
    let none : 0 ≡ c.args.end = omega arith in
    subst (λ n. AreOfferedBy c.args.moves.now 0 n c.args.entries.now c.args.entries.now) none
    (offered_none _ _ _ _ 0 _ c.requires.ready)

pub returns-then-end-eq0-clause-best : goal.returns-then-end-eq0-clause-best
returns-then-end-eq0-clause-best c =
    let candidates = moved_candidate c.args.moves.now in
    let none : 0 ≡ c.args.end = omega arith in
    subst (λ n. None ≡ near candidates n) none (sym (grows_by_one_candidate.no_candidates candidates))
