use Rattle.mp_replies.specs.EndLaws.{ends_of_each_version}
use Rattle.mp_replies.proofs.laws.ends_are_of_each_version.Goals as goal

pub returns : goal.returns
returns c = ends_of_each_version
