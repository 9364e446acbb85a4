use Rattle.std.proofs.Common.{◌≡◌, ◌∙◌, ◌∷◌, true, false, [], ap, sym}
use Rattle.std.specs.Prelude.{None, Some, is_none}
use Rattle.mp_requests.specs.Answering.{state_over}
use Rattle.mp_commands.specs.Commands.{asks_lazy}
use Rattle.mp_commands.specs.Fetching.{reworded}
use Rattle.mp_commands.proofs.FileLemmas.{no_file, on_err, prepared_by, unasked}
use Rattle.mp_commands.proofs.LazyLemmas.{lazy_file_refused, lazy_needs, lazy_refused}
use Rattle.mp_commands.proofs.lazy_command.prepare_lazy.Goals as goal

pub returns-in-Some-clause-prepared : goal.returns-in-Some-clause-prepared
returns-in-Some-clause-prepared g c = record {
  ok = λ stores files stand told.
      let load = c.args.load in
      lazy_refused (state_over c.args.context c.args.stores.now stores) files load.slot load.file.now load.column
      load.header c.in-Some.cause c.refused.result (sym c.in-Some.ensures.cause) c.refused.ensures.answer
      c.refused.ensures.change;
  stop = λ stores stand. tt;
}

pub returns-in-Some-clause-some_files : goal.returns-in-Some-clause-some_files
returns-in-Some-clause-some_files g c = record {
  files = no_file;
  is = λ stores stand.
      let load = c.args.load in
      lazy_refused (state_over c.args.context c.args.stores.now stores) no_file load.slot load.file.now load.column
      load.header c.in-Some.cause c.refused.result (sym c.in-Some.ensures.cause) c.refused.ensures.answer
      c.refused.ensures.change;
}

pub returns-in-Ok-clause-prepared : goal.returns-in-Ok-clause-prepared
returns-in-Ok-clause-prepared g c = record {
  ok = λ stores files stand told.
      c.prepare_column.ensures.ok stores files stand
      (rw c.in-Ok.is at c.in_ok-fetched.ensures.found files (told (ap is_none (sym c.in_default.ensures.cause)))
      ∙ ap Some (sym c.as_slice.ensures.value));
  stop = λ stores stand. on_err c.prepare_column.result (sym c.in_default.ensures.cause);
}

pub returns-in-Ok-clause-some_files : goal.returns-in-Ok-clause-some_files
returns-in-Ok-clause-some_files g c =
    prepared_by c.args.context (asks_lazy c.args.load) c.args.stores.now c.args.load.file.now c.as_slice.result.now
    c.prepare_column.result (λ stores files stand found. c.prepare_column.ensures.ok stores files stand found)

pub returns-in-Err-clause-prepared : goal.returns-in-Err-clause-prepared
returns-in-Err-clause-prepared g c = record {
  ok = λ stores files stand told.
      let load = c.args.load in
      let state = state_over c.args.context c.args.stores.now stores in
      let refused = rw c.in-Err.is at c.in_ok-fetched.ensures.refused in
      let none = sym c.in_default.ensures.cause in
      lazy_file_refused state files load.slot load.file.now load.column load.header c.in-Err.cause
      c.refused-in-Err.result none
      (refused.told files (told (ap is_none none)) state.mode.width state.scale (load.column ∷ []) load.header)
      c.refused-in-Err.ensures.answer c.refused-in-Err.ensures.change;
  stop = λ stores stand. tt;
}

pub returns-in-Err-clause-some_files : goal.returns-in-Err-clause-some_files
returns-in-Err-clause-some_files g c =
    let refused = rw c.in-Err.is at c.in_ok-fetched.ensures.refused in
    record {
      files = refused.files;
      is = λ stores stand.
          let load = c.args.load in
          let state = state_over c.args.context c.args.stores.now stores in
          lazy_file_refused state refused.files load.slot load.file.now load.column load.header c.in-Err.cause
          c.refused-in-Err.result (sym c.in_default.ensures.cause)
          (refused.some state.mode.width state.scale (load.column ∷ []) load.header)
          c.refused-in-Err.ensures.answer c.refused-in-Err.ensures.change;
    }

pub returns-in-Ok-clause-shelf : goal.returns-in-Ok-clause-shelf
returns-in-Ok-clause-shelf g c =
    reworded c.in_ok-fetched.ensures.shelf
    (lazy_needs c.args.context c.args.load c.args.stores.now None (sym c.in_default.ensures.cause))
    (λ fault. absurd (c.prepare_column.ensures.calm fault)) (λ fault. absurd (cc fault))

pub returns-in-Err-clause-shelf : goal.returns-in-Err-clause-shelf
returns-in-Err-clause-shelf g c =
    reworded c.in_ok-fetched.ensures.shelf
    (lazy_needs c.args.context c.args.load c.args.stores.now None (sym c.in_default.ensures.cause))
    (λ fault. absurd (cc fault)) (λ fault. absurd (cc fault))

pub returns-in-Some-clause-shelf : goal.returns-in-Some-clause-shelf
returns-in-Some-clause-shelf g c =
    unasked c.args.shelf.now
    (λ needs.
    let clash : true ≡ false =
    lazy_needs c.args.context c.args.load c.args.stores.now (Some c.in-Some.cause) (sym c.in-Some.ensures.cause) true
    needs in
    absurd (cc clash))
    (λ fault. absurd (cc fault))
