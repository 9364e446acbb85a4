use Rattle.mp_multi.proofs.LimitLemmas.{strip_scanned, limits_fit}
use Rattle.mp_multi.proofs.runs.pass_over.Goals as goal

pub run-requires-clause-fit : goal.run-requires-clause-fit
run-requires-clause-fit g c = limits_fit _ _ _ _ c.requires.limits

pub returns-clause-scanned : goal.returns-clause-scanned
returns-clause-scanned g c =
    strip_scanned c.args.strip.now c.args.known.now c.args.into.now c.args.from c.run.result c.run.ensures.within
    c.requires.windows c.requires.limits c.run.ensures.above
