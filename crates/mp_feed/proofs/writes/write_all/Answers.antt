use Rattle.std.proofs.Common.{◌≡◌, ◌≢◌, ℕ, ◌+◌, ◌-◌, ◌<◌, ◌≤◌, List, ◌++◌, length, take, drop, take-add, arith, ap, ◌∙◌}
use Rattle.std.proofs.Common.{sym, append_assoc, length-append}
use Rattle.std.specs.Prelude.{Option, Some}
use Rattle.std.proofs.lemmas.Bool.Decides.{nat_tests}
use Rattle.std.proofs.lemmas.List.{append_cancel_left, length-take-le, length-drop, take_all}
use Rattle.std.proofs.lemmas.Option.{same_Some}
use Rattle.mp_feed.proofs.ReadLemmas.{on_err}
use Rattle.mp_feed.proofs.writes.write_all.Goals as goal

-- what was sent and what is sent now are a longer front
longer_front : (before text : List ℕ) (sent count : ℕ)
    → (before ++ take sent text) ++ take count (drop sent text) ≡ before ++ take (sent + count) text
longer_front before text sent count =
    append_assoc before (take sent text) (take count (drop sent text))
    ∙ ap (λ t. before ++ t) (sym (take-add sent count text))

-- a sink that tells a front of the text alone doesn't tell all of it
part_told : (before text : List ℕ) (sent : ℕ) (told : Option (List ℕ)) → sent < length text
    → told ≡ Some (before ++ take sent text) → told ≢ Some (before ++ text)
part_told before text sent told short front whole =
    let same : take sent text ≡ text =
    append_cancel_left before (take sent text) text
    (same_Some (before ++ take sent text) (before ++ text) (sym front ∙ whole)) in
    omega (arith, ap length same, length-take-le sent text (omega (arith, short)), short)

pub returns-in_err-sent-clause-unfinished : goal.returns-in_err-sent-clause-unfinished
returns-in_err-sent-clause-unfinished g c = λ before e fits.
    let short : c.loop-sent.sent < length c.args.text.now = grind (arith, nat_tests) in
    on_err c.from_residual.result
    (part_told before c.args.text.now c.loop-sent.sent (g.K.Sink.written c.write.new.self) short
    (c.in_err-sent.ensures.failed_written ∙ c.loop-sent.invariant.told before e fits))

pub loop-sent-preserved : goal.loop-sent-preserved
loop-sent-preserved g c =
    let sent = c.loop-sent.sent in
    let count = c.in_ok-sent.field-0 in
    let text = c.args.text.now in
    let unsent : take (length text - sent) (drop sent text) ≡ drop sent text =
    take_all (length text - sent) (drop sent text) (omega (arith, length-drop sent text)) in
    let bound : count ≤ length (drop sent text) = rw unsent at c.in_ok-sent.ensures.within in
    let some : 0 < length (drop sent text) = grind (arith, nat_tests, length-drop sent text) in
    let invariant = c.loop-sent.invariant in
    record {
      within = omega (arith, length-drop sent text, bound);
      told = λ before e fits.
          let front = invariant.told before e fits in
          let room : length (before ++ take sent text) + count ≤ g.K.Sink.room c.loop-sent.out =
          omega (
            arith,
            length-append before (take sent text),
            length-take-le sent text invariant.within,
            length-drop sent text,
            bound,
            invariant.room,
          ) in
          c.in_ok-sent.ensures.written (before ++ take sent text) front room
          ∙ ap Some (ap (λ t. (before ++ take sent text) ++ take count t) unsent ∙ longer_front before text sent count);
      unflushed = λ _. c.in_ok-sent.ensures.flushed (rw unsent some);
      room = c.write.ensures.room ∙ invariant.room;
      faults = omega (arith, invariant.faults, c.write.ensures.faults);
    }
