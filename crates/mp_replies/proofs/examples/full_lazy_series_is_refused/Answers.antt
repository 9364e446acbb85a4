use Rattle.std.proofs.Common.{refl}
use Rattle.mp_replies.specs.Line.{asked_of}
use Rattle.mp_replies.specs.Step.{verdict, cause}
use Rattle.mp_replies.proofs.examples.full_lazy_series_is_refused.Goals as goal

pub returns : goal.returns
unfolding asked_of verdict cause
returns c = λ a files h. rw h refl
