use Rattle.std.proofs.Common.{ap, subst, sym}
use Rattle.std.specs.Prelude.{IfOk}
use Rattle.mp_replies.specs.Line.{Asked}
use Rattle.mp_commands.specs.Preparing.{IsPreparedBySome}
use Rattle.mp_commands.specs.Commands.{changed_in}
use Rattle.mp_replies.specs.Step.{fetches_by}
use Rattle.mp_commands.proofs.FileLemmas.{needs_none, unasked}
use Rattle.mp_commands.proofs.PreparingLemmas.{some_taken}
use Rattle.mp_commands.proofs.preparing.prepare_change.Goals as goal

pub returns-in-Open-clause-some_files : goal.returns-in-Open-clause-some_files
returns-in-Open-clause-some_files g c =
    subst (λ (what : Asked). IfOk c.prepare_open.result (IsPreparedBySome c.args.context what c.args.stores.now))
    (sym (ap changed_in c.in-Open.is))
    (some_taken c.args.context _ c.args.stores.now c.prepare_open.result c.prepare_open.ensures.prepared)

pub returns-in-Keep-clause-some_files : goal.returns-in-Keep-clause-some_files
returns-in-Keep-clause-some_files g c =
    subst (λ (what : Asked). IfOk c.prepare_keep.result (IsPreparedBySome c.args.context what c.args.stores.now))
    (sym (ap changed_in c.in-Keep.is))
    (some_taken c.args.context _ c.args.stores.now c.prepare_keep.result c.prepare_keep.ensures.prepared)

pub returns-in-Append-clause-some_files : goal.returns-in-Append-clause-some_files
returns-in-Append-clause-some_files g c =
    subst (λ (what : Asked). IfOk c.prepare_append.result (IsPreparedBySome c.args.context what c.args.stores.now))
    (sym (ap changed_in c.in-Append.is))
    (some_taken c.args.context _ c.args.stores.now c.prepare_append.result c.prepare_append.ensures.prepared)

pub returns-in-Open-clause-shelf : goal.returns-in-Open-clause-shelf
returns-in-Open-clause-shelf g c =
    unasked c.args.shelf.now
    (needs_none c.args.context (changed_in c.args.request) c.args.stores.now
    (λ state. ap (λ request. fetches_by state (changed_in request)) c.in-Open.is))
    c.prepare_open.ensures.calm

pub returns-in-Keep-clause-shelf : goal.returns-in-Keep-clause-shelf
returns-in-Keep-clause-shelf g c =
    unasked c.args.shelf.now
    (needs_none c.args.context (changed_in c.args.request) c.args.stores.now
    (λ state. ap (λ request. fetches_by state (changed_in request)) c.in-Keep.is))
    c.prepare_keep.ensures.calm

pub returns-in-Append-clause-shelf : goal.returns-in-Append-clause-shelf
returns-in-Append-clause-shelf g c =
    unasked c.args.shelf.now
    (needs_none c.args.context (changed_in c.args.request) c.args.stores.now
    (λ state. ap (λ request. fetches_by state (changed_in request)) c.in-Append.is))
    c.prepare_append.ensures.calm

pub returns-in-Advance-clause-some_files : goal.returns-in-Advance-clause-some_files
returns-in-Advance-clause-some_files g c =
    subst (λ (what : Asked). IfOk c.prepare_advance.result (IsPreparedBySome c.args.context what c.args.stores.now))
    (sym (ap changed_in c.in-Advance.is))
    (some_taken c.args.context _ c.args.stores.now c.prepare_advance.result c.prepare_advance.ensures.prepared)

pub returns-in-Advance-clause-shelf : goal.returns-in-Advance-clause-shelf
returns-in-Advance-clause-shelf g c =
    unasked c.args.shelf.now
    (needs_none c.args.context (changed_in c.args.request) c.args.stores.now
    (λ state. ap (λ request. fetches_by state (changed_in request)) c.in-Advance.is))
    c.prepare_advance.ensures.calm
