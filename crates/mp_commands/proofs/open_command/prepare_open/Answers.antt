use Rattle.std.proofs.Common.{[], ℕ, arith, refl, ap, ◌∙◌, sym, replicate}
use Rattle.mp_replies.specs.Change.{PutChannels}
use Rattle.mp_requests.specs.Answering.{state_over}
use Rattle.mp_commands.proofs.ChannelLemmas.{can_put_empty, empty_series}
use Rattle.mp_commands.proofs.OpenLemmas.{opened}
use Rattle.mp_commands.proofs.open_command.prepare_open.Goals as goal

pub returns-clause-prepared : goal.returns-clause-prepared
returns-clause-prepared g c = λ told. record {
  ok = λ stores files stand h.
      let channels = c.in_ok-channels.channels.items in
      opened (state_over c.args.context c.args.stores.now stores) files c.args.opening.slot c.args.opening.channels _
      (sym c.in_default.ensures.cause) refl
      (ap (PutChannels c.args.opening.slot)
      (empty_series channels c.in_ok-channels.ensures.empty
      ∙ ap (λ (n : ℕ). replicate n []) (sym c.in_ok-channels.channels.ok.0 ∙ c.in_ok-channels.ensures.len)));
  stop = λ stores stand. tt;
}

pub returns-clause-ready : goal.returns-clause-ready
returns-clause-ready g c = record {
  can =
      can_put_empty c.args.stores.now.m c.args.opening.slot c.in_ok-channels.channels.items c.in_default.ensures.slot
      (omega (arith, c.in_default.ensures.some, c.in_ok-channels.channels.ok.0, c.in_ok-channels.ensures.len))
      (omega (arith, c.in_default.ensures.few, c.in_ok-channels.channels.ok.0, c.in_ok-channels.ensures.len))
      c.in_ok-channels.ensures.empty (rw c.window_len.ensures.m at c.in_ok-channels.ensures.window);
  kept = λ h. absurd (cc h);
  renewed = λ other put. put;
  advanced = λ other cover. absurd (cc cover);
  adds = tt;
  names = tt;
  ends = refl;
  mode = refl;
}
