use Rattle.std.proofs.Common.{Option, Some, ℤ, ap, sym, ◌∙◌, arith}
use Rattle.csv.specs.Records.{fields_of}
use Rattle.mp_text.specs.Gathering.{added, series_in}
use Rattle.mp_text.specs.SampleText.{reading}
use Rattle.mp_text.proofs.TableLemmas.{err_part, fault_at, fine_more, ok_part, series_more}
use Rattle.mp_text.proofs.tables.gather.Goals as goal

pub returns-in_err-sample-clause-fault : goal.returns-in_err-sample-clause-fault
returns-in_err-sample-clause-fault c =
    err_part c.from_residual.result _ _ c.from_residual.ensures.1 (λ fault passed_on known.
    fault_at (reading c.args.width c.args.scale) c.args.number (fields_of c.args.row.now) c.args.columns.now c.loop-k.k
    fault (omega arith)
    c.loop-k.invariant.fine
    (c.in_err-sample.ensures.fault ∙ ap Some (sym passed_on)))

pub loop-k-preserved : goal.loop-k-preserved
loop-k-preserved c = record {
  len = c.push_to.ensures.len ∙ c.loop-k.invariant.len;
  fine =
      fine_more (reading c.args.width c.args.scale) c.args.number (fields_of c.args.row.now) c.args.columns.now
      c.loop-k.k (omega arith)
      c.loop-k.invariant.fine c.in_ok-sample.ensures.fine;
  series = λ rows start.
      let pushed = ok_part c.push_to.result _ (sym c.is_err.ensures.value ∙ c.if-is_err.false) c.push_to.ensures.ok in
      pushed
      ∙ ap (λ (sample : Option ℤ). added (series_in c.loop-k.series) c.loop-k.k sample) c.in_ok-sample.ensures.sample
      ∙ series_more (reading c.args.width c.args.scale) rows (fields_of c.args.row.now) c.args.columns.now c.loop-k.k
      (series_in c.loop-k.series) (omega arith) (c.loop-k.invariant.series rows start);
}
