use Rattle.std.proofs.Common.{ap, ◌∙◌, arith}
use Rattle.mp_workers.specs.Entries.{count_of}
use Rattle.mp_workers.proofs.Entering.{half_is}
use Rattle.mp_workers.proofs.entries.Entries.len.Goals as goal

pub returns-clause-count : goal.returns-clause-count
returns-clause-count c =
    half_is c.word_count.result c.self.inside.table.shared.key c.args.self.now.series
    (c.word_count.ensures ∙ c.self.invariant.words_are) (ap (λ e. e.series) c.self.view_is)

pub returns-clause-few : goal.returns-clause-few
returns-clause-few c =
    omega (arith, returns-clause-count c, ap (λ e. count_of e.series) c.self.view_is, c.self.invariant.few)
