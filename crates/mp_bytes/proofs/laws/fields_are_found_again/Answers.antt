use Rattle.mp_bytes.specs.Fields.{fields_in}
use Rattle.mp_bytes.proofs.JoinedLemmas.{fields_without, joined_again}
use Rattle.mp_bytes.proofs.laws.fields_are_found_again.Goals as goal

pub returns-clause-no_blank : goal.returns-clause-no_blank
returns-clause-no_blank c = fields_without

pub returns-clause-again : goal.returns-clause-again
returns-clause-again c = λ text. joined_again (fields_in text) (fields_without text)
