use Rattle.std.proofs.Common.{List, refl}
use Rattle.mp_defs.specs.Series.{series_of}
use Rattle.mp_results.specs.Covering.{advanced}
use Rattle.mp_stores.specs.StoreLaws.{part_stands}
use Rattle.mp_requests.specs.Answering.{state_over}
use Rattle.mp_commands.proofs.AdvanceLemmas.{advanced_is, done_for, left_for}
use Rattle.mp_commands.proofs.advance_command.prepare_advance.Goals as goal

pub returns-clause-prepared : goal.returns-clause-prepared
returns-clause-prepared c = λ told. record {
  ok = λ stores files stand h.
      let held = c.args.stores.now in
      let slot = c.args.advance.slot in
      let steps = c.steps_in-done.ensures in
      let done = c.steps_in-done.result.done in
      let left = c.steps_in-done.result.left in
      advanced_is (state_over c.args.context held stores) files slot c.args.advance.count done left
      (series_of steps.part.items) steps.part.covered _ (c.in_default.ensures.cause stores stand)
      (part_stands held stores slot steps.part stand steps.here)
      (done_for steps.part held.m c.args.advance.count done steps.window steps.done_is)
      (left_for steps.part held.m c.args.advance.count left steps.window steps.left_is) refl refl;
  stop = λ stores stand. tt;
}

pub returns-clause-ready : goal.returns-clause-ready
returns-clause-ready c = record {
  can = c.in_default.ensures.lazy;
  kept = λ h. absurd (cc h);
  renewed = λ other put. absurd (cc put);
  advanced = λ other cover. cover;
  adds = tt;
  names = tt;
  ends = refl;
  mode = refl;
}
