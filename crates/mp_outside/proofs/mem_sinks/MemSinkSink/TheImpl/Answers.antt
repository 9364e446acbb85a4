use Rattle.std.proofs.Common.{◌≤◌, ◌+◌, ◌∙◌, ap, length, take, arith}
use Rattle.std.proofs.lemmas.List.{length-take}
use Rattle.std.proofs.lemmas.Result.{IfOk-weaker, on_err_weaker}
use Rattle.mp_outside.proofs.Outcomes.{IfOk-both, either}
use Rattle.mp_outside.proofs.PlannedLemmas.{faults-after_call, calm-after_call, cause-after_call}
use Rattle.mp_outside.proofs.SinkLemmas.{written-after_writing, flushed-after_writing, room-after_writing}
use Rattle.mp_outside.proofs.SinkLemmas.{after_writing-none}
use Rattle.mp_outside.proofs.mem_sinks.MemSinkSink.TheImpl.Goals as goal

pub write-tells : goal.write-tells
write-tells c = record {
  within = IfOk-weaker c.result _ _ (λ n is. omega arith) c.ensures.count;
  some = λ nonempty. IfOk-weaker c.result _ _ (λ n is. omega (arith, c.ensures.step)) c.ensures.count;
  written = IfOk-weaker c.result _ _ (λ n after before told room.
      let fits : length before + length (take n c.args.bytes.now) ≤ c.args.self.now.sink.room =
      omega (arith, length-take n c.args.bytes.now) in
      ap (λ sink. sink.written) after
      ∙ written-after_writing (take n c.args.bytes.now) before c.args.self.now.sink told fits) c.ensures.after;
  none_written = λ none.
      either c.result _ (λ n after. ap (λ sink. sink.written) (after ∙ after_writing-none n _ _ none))
      (λ same. ap (λ sink. sink.written) same) c.ensures.after c.ensures.failed;
  failed_written = on_err_weaker c.result (λ same. ap (λ sink. sink.written) same) c.ensures.failed;
  flushed = λ nonempty. IfOk-both c.result _ _ _ (λ n is after.
      ap (λ sink. sink.flushed) after
      ∙ flushed-after_writing (take n c.args.bytes.now) _
      (omega (arith, c.ensures.step, length-take n c.args.bytes.now))) c.ensures.count c.ensures.after;
  none_flushed = λ none.
      either c.result _ (λ n after. ap (λ sink. sink.flushed) (after ∙ after_writing-none n _ _ none))
      (λ same. ap (λ sink. sink.flushed) same) c.ensures.after c.ensures.failed;
  failed_flushed = on_err_weaker c.result (λ same. ap (λ sink. sink.flushed) same) c.ensures.failed;
  room =
      either c.result _ (λ n after. ap (λ sink. sink.room) after ∙ room-after_writing (take n c.args.bytes.now) _)
      (λ same. ap (λ sink. sink.room) same) c.ensures.after c.ensures.failed;
  faults = faults-after_call _ _ c.ensures.plan;
  calm = calm-after_call c.result _ _ c.ensures.plan c.ensures.fails;
  cause = cause-after_call c.result _ _ c.ensures.plan c.ensures.fails;
}
