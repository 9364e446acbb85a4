use Rattle.std.proofs.Common.{ap, ◌∙◌, sym}
use Rattle.mp_replies.specs.AppendCommand.{most_samples}
use Rattle.mp_stores.specs.StoreLaws.{keep_stands}
use Rattle.mp_stores.specs.Stores.{Held, keep_of}
use Rattle.mp_commands.proofs.append_command.most_in.Goals as goal

pub returns-in-Some : goal.returns-in-Some
returns-in-Some c =
    let most = sym (ap (λ (h : Held). most_samples (keep_of h)) c.in-Some.ensures.some) in
    record {
      most = most;
      stands = λ stands stand.
          most ∙ sym (ap most_samples (keep_stands c.args.stores.now stands c.args.slot stand));
    }

pub returns-in-None : goal.returns-in-None
returns-in-None c =
    let most = sym (ap most_samples c.in-None.ensures.none) in
    record {
      most = most;
      stands = λ stands stand.
          most ∙ sym (ap most_samples (keep_stands c.args.stores.now stands c.args.slot stand));
    }
