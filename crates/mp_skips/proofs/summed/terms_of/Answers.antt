use Rattle.mp_skips.proofs.FillLemmas.{some_terms, terms_fit}
use Rattle.mp_skips.proofs.summed.terms_of.Goals as goal

pub overflow_sub-result : goal.overflow_sub-result
overflow_sub-result c = some_terms c.args.m c.args.count c.requires.some c.requires.wide

pub returns : goal.returns
returns c = terms_fit c.args.m c.args.count c.requires.some c.requires.wide
