use Rattle.std.proofs.Common.{refl}
use Rattle.std.specs.Fmt.{digits}
use Rattle.mp_defs.specs.Distance.{distance}
use Rattle.mp_defs.specs.Least.{near}
use Rattle.mp_defs.specs.Window.{is_free}
use Rattle.mp_results.specs.Chains.{links}
use Rattle.mp_results.specs.Motifs.{motifs_among}
use Rattle.mp_results.specs.Mpdist.{in_rising_order, mpdist_of}
use Rattle.mp_picks.specs.Picks.{first_of, picks}
use Rattle.mp_replies.specs.Line.{asked_of, ends}
use Rattle.mp_replies.specs.Step.{verdict, cause, after, answer}
use Rattle.mp_replies.specs.Output.{reply, output}
use Rattle.mp_replies.proofs.examples.lazy_refusals_output.Goals as goal

pub returns : goal.returns
unfolding digits near distance is_free links motifs_among in_rising_order mpdist_of first_of picks asked_of verdict
    cause after answer reply ends output
returns c = λ files. refl
