use Rattle.std.proofs.Common.{◌≡◌, ◌∙◌, refl, sym, ap, length, take, drop, Some, arith}
use Rattle.std.proofs.lemmas.List.{nil_from_length}
use Rattle.std.proofs.lemmas.Option.{same_Some}
use Rattle.std.proofs.lemmas.Result.{IfOk-weaker, on_err_weaker}
use Rattle.mp_outside.proofs.Outcomes.{IfOk-both}
use Rattle.mp_outside.proofs.PlannedLemmas.{faults-after_call, calm-after_call, cause-after_call}
use Rattle.mp_outside.proofs.mem_sources.MemSourceSource.TheImpl.Goals as goal

pub read-tells : goal.read-tells
read-tells c = record {
  within = IfOk-weaker c.result _ _ (λ n is. omega arith) c.ensures.count;
  given = IfOk-weaker c.result _ _ (λ n after. rw after (omega arith)) c.ensures.after;
  first = IfOk-weaker c.result _ _ (λ n first bytes e. first ∙ ap (take n) (same_Some _ _ e)) c.ensures.first;
  rest =
      IfOk-weaker c.result _ _
      (λ n after bytes e. ap Some (ap (λ source. source.left) after ∙ ap (drop n) (same_Some _ _ e)))
      c.ensures.after;
  end = IfOk-both c.result _ _ _ (λ n is step none room bytes e.
      let all : length c.args.self.now.source.left ≡ 0 = omega arith in
      sym (same_Some _ _ e) ∙ nil_from_length _ all) c.ensures.count c.ensures.step;
  failed_given = on_err_weaker c.result (λ same. rw same refl) c.ensures.failed;
  failed_left = on_err_weaker c.result (λ same. rw same refl) c.ensures.failed;
  faults = faults-after_call _ _ c.ensures.plan;
  calm = calm-after_call c.result _ _ c.ensures.plan c.ensures.fails;
  cause = cause-after_call c.result _ _ c.ensures.plan c.ensures.fails;
}
