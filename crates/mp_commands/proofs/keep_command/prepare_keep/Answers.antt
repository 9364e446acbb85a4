use Rattle.std.proofs.Common.{ap, refl, ◌∙◌, sym}
use Rattle.mp_replies.specs.Change.{PutKept}
use Rattle.mp_requests.specs.Answering.{state_over}
use Rattle.mp_commands.proofs.OpenLemmas.{kept_anew}
use Rattle.mp_commands.proofs.keep_command.prepare_keep.Goals as goal

pub returns-clause-prepared : goal.returns-clause-prepared
returns-clause-prepared c = λ told. record {
  ok = λ stores files stand h.
      kept_anew (state_over c.args.context c.args.stores.now stores) files c.args.keeping.slot c.args.keeping.keep _
      (rw c.window_len-m.ensures.m at (sym c.in_default.ensures.cause)) refl
      (ap (PutKept c.args.keeping.slot) c.in_ok-kept.ensures.keep);
  stop = λ stores stand. tt;
}

pub returns-clause-ready : goal.returns-clause-ready
returns-clause-ready c = record {
  can = record {
    within = c.in_default.ensures.slot;
    window = c.in_ok-kept.ensures.m ∙ c.window_len-m.ensures.m;
    empty = c.in_ok-kept.ensures.stands;
    unread = c.in_ok-kept.ensures.reads;
  };
  kept = λ h. absurd (cc h);
  renewed = λ other put. put;
  advanced = λ other cover. absurd (cc cover);
  adds = tt;
  names = tt;
  ends = refl;
  mode = refl;
}
