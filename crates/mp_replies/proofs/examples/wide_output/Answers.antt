use Rattle.std.proofs.Common.{refl}
use Rattle.std.specs.Fmt.{digits}
use Rattle.mp_defs.specs.Distance.{distance}
use Rattle.mp_defs.specs.Least.{near}
use Rattle.mp_replies.specs.Line.{asked_of, ends}
use Rattle.mp_replies.specs.Step.{verdict, cause, after, answer}
use Rattle.mp_replies.specs.Output.{reply, output}
use Rattle.mp_replies.proofs.examples.wide_output.Goals as goal

pub returns : goal.returns
unfolding digits near distance asked_of verdict cause after answer reply ends output
returns c = λ files. refl
