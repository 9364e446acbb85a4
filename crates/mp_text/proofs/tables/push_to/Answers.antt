use Rattle.std.proofs.Common.{arith}
use Rattle.mp_text.proofs.TableLemmas.{added-pushed}
use Rattle.mp_text.proofs.tables.push_to.Goals as goal

pub returns-clause-ok : goal.returns-clause-ok
returns-clause-ok c =
    added-pushed c.args.series.now.items c.args.k c.index_mut.result.now c.push.new.self c.args.sample
    (omega (arith, c.args.series.now.ok.0)) c.index_mut.ensures.value c.in_ok-push.ensures.items
