use Rattle.std.proofs.Common.{ap, sym}
use Rattle.mp_lines.specs.Lines.{asked_by, cause_of}
use Rattle.mp_replies.specs.Line.{asked_of}
use Rattle.mp_replies.specs.Step.{fetches_by}
use Rattle.mp_commands.proofs.FileLemmas.{needs_none, unasked}
use Rattle.mp_commands.proofs.PreparingLemmas.{ends_of, limits_by, prepared_faulty, refused_ends}
use Rattle.mp_commands.proofs.preparing.prepare.Goals as goal

pub returns-in-Err-clause-some_files : goal.returns-in-Err-clause-some_files
returns-in-Err-clause-some_files g c =
    prepared_faulty c.args.context (asked_of c.args.context.mode.version c.args.line.now) c.args.stores.now c.refused.result
    _ (cause_of c.in-Err.fault) c.refused.ensures.answer c.cause_of.ensures c.refused.ensures.change c.in-Err.ensures

pub returns-in-Err-clause-ends : goal.returns-in-Err-clause-ends
returns-in-Err-clause-ends g c =
    refused_ends c.args.context.mode.version c.args.line.now c.refused.result.answer _ (cause_of c.in-Err.fault)
    c.refused.ensures.answer c.in-Err.ensures

pub prepare_command-requires-after_bounds : goal.prepare_command-requires-after_bounds
prepare_command-requires-after_bounds g c = λ κs within.
    limits_by c.args.context.mode.version c.args.line.now (asked_by c.in-Ok.command) c.in-Ok.ensures

pub returns-clause-ends : goal.returns-clause-ends
returns-clause-ends g c =
    ends_of c.args.context.mode.version c.prepare_command.result c.args.line.now (asked_by c.in-Ok.command)
    c.prepare_command.new.stores c.in-Ok.ensures c.prepare_command.ensures.ready

pub returns-in-Err-clause-shelf : goal.returns-in-Err-clause-shelf
returns-in-Err-clause-shelf g c =
    unasked c.args.shelf.now
    (needs_none c.args.context (asked_of c.args.context.mode.version c.args.line.now) c.args.stores.now
    (λ state. ap (fetches_by state) (sym c.in-Err.ensures)))
    (λ fault. absurd (cc fault))
