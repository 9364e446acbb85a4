use Rattle.std.proofs.Common.{arith}
use Rattle.mp_commands.proofs.advance_command.steps_in.Goals as goal

pub steps_of-requires-clause-shortest : goal.steps_of-requires-clause-shortest
steps_of-requires-clause-shortest c =
    omega (arith, c.window_len-m.ensures.m, c.window_len-m.ensures.shortest, c.in-Some.ensures.stands.window)

pub steps_of-requires-clause-few : goal.steps_of-requires-clause-few
steps_of-requires-clause-few c = c.in-Some.ensures.stands.few

pub returns : goal.returns
returns c = record {
  part = c.in-Some.part.now;
  here = c.in-Some.ensures.some;
  window = c.in-Some.ensures.stands.window;
  done_is = c.steps_of.ensures.done;
  left_is = c.steps_of.ensures.left;
}
