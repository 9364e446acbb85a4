use Rattle.std.proofs.Common.{◌∙◌, ℕ, List, [], ◌∷◌, ap, Err, refl}
use Rattle.mp_feed.specs.WritingLaws.{wrote_one}
use Rattle.mp_requests.specs.Requests.{is_refused}
use Rattle.mp_commands.specs.Fetching.{reworded}
use Rattle.mp_session.proofs.RunLemmas.{have_run_one, told_line, were_run_stopped}
use Rattle.mp_session.proofs.StepLemmas.{refused_kind}
use Rattle.mp_session.proofs.runs.run_line.Goals as goal

pub returns-in-Err-Memory-clause-memory : goal.returns-in-Err-Memory-clause-memory
returns-in-Err-Memory-clause-memory g c = λ left _.
    were_run_stopped (g.H.Shelf.files c.args.shelf.now) c.args.session.now c.run.new.self c.in-Err-Memory.ensures.stop
    c.in-Err-Memory.ensures.counted.stop_lines

pub returns-in-Err-ShelfFault-clause-shelf_fault : goal.returns-in-Err-ShelfFault-clause-shelf_fault
returns-in-Err-ShelfFault-clause-shelf_fault g c = λ left _.
    were_run_stopped (g.H.Shelf.files c.args.shelf.now) c.args.session.now c.run.new.self
    c.in-Err-ShelfFault.ensures.stop c.in-Err-ShelfFault.ensures.counted.stop_lines

pub returns-in-Err-ShelfFault-clause-shelf : goal.returns-in-Err-ShelfFault-clause-shelf
returns-in-Err-ShelfFault-clause-shelf g c =
    reworded c.in-Err-ShelfFault.ensures.shelf (λ file asks. asks) (λ _. ap Err c.in-Err-ShelfFault.field-0-is)
    (λ _. refl)

pub returns-in-Err-Memory-clause-shelf : goal.returns-in-Err-Memory-clause-shelf
returns-in-Err-Memory-clause-shelf g c =
    reworded c.in-Err-Memory.ensures.shelf (λ file asks. asks) (λ fault. absurd (cc fault))
    (λ fault. absurd (cc (c.in-Err-Memory.field-0-is, fault)))

pub returns-in-Err-clause-shelf : goal.returns-in-Err-clause-shelf
returns-in-Err-clause-shelf g c =
    reworded c.in-Ok.ensures.shelf (λ file asks. asks) (λ fault. absurd (cc fault)) (λ fault. absurd (cc fault))

pub returns-clause-shelf : goal.returns-clause-shelf
returns-clause-shelf g c =
    reworded c.in-Ok.ensures.shelf (λ file asks. asks) (λ fault. absurd (cc fault)) (λ fault. absurd (cc fault))

pub returns-clause-run : goal.returns-clause-run
returns-clause-run g c = λ left.
    let line = c.args.line.now in
    let ran = c.in-Ok.ensures in
    record {
      texts = c.as_slice.result.now ∷ [];
      run =
          have_run_one (g.H.Shelf.files c.args.shelf.now) line c.as_slice.result.now c.args.session.now c.run.new.self
          c.is_refused.result
          (λ state files h t. c.as_slice.ensures ∙ (ran.told state files h (told_line state files line t)).text)
          (λ state files h t. (ran.told state files h (told_line state files line t)).after)
          (λ state files h t.
          c.is_refused.ensures
          ∙ (ap is_refused (ran.told state files h (told_line state files line t)).kind
          ∙ refused_kind state line files))
          ran.counted.lines;
      wrote = wrote_one c.in_default.ensures.wrote;
    }

pub returns-clause-ends : goal.returns-clause-ends
returns-clause-ends g c = c.is_ended.ensures ∙ c.in-Ok.ensures.ends

pub returns-in-Err-clause-begun : goal.returns-in-Err-clause-begun
returns-in-Err-clause-begun g c = λ left _. record {
  text = c.as_slice.result.now;
  text_is = λ state files h t.
      ap (λ (r : List ℕ). r ∷ [])
      (c.as_slice.ensures ∙ (c.in-Ok.ensures.told state files h (told_line state files c.args.line.now t)).text);
  front = c.in-Err.ensures.front;
}
