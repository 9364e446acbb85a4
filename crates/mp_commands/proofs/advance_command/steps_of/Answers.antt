use Rattle.std.proofs.Common.{arith, length}
use Rattle.mp_defs.specs.Window.{windows}
use Rattle.mp_commands.proofs.AdvanceLemmas.{covered_more, left_behind}
use Rattle.mp_commands.proofs.advance_command.steps_of.Goals as goal

pub returns-clause-done : goal.returns-clause-done
returns-clause-done c =
    let part = c.args.part.now in
    let w = windows (length part.items) part.m in
    omega (arith, covered_more part.m w c.args.count part.covered, c.min-done.ensures, c.left-left.ensures)

pub returns-clause-left : goal.returns-clause-left
returns-clause-left c =
    let part = c.args.part.now in
    let w = windows (length part.items) part.m in
    omega (
      arith,
      left_behind c.covers_the_next.ensures part.m w c.args.count part.covered
          (omega (arith, c.requires.few, c.requires.shortest)),
      c.min-done.ensures,
      c.left-left.ensures,
    )
