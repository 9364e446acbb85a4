use Rattle.std.proofs.Common.{◌≡◌, ◌+◌, ◌-◌, ◌∙◌, arith, false}
use Rattle.std.proofs.lemmas.List.{length-set}
use Rattle.mp_defs.specs.Series.{series_of}
use Rattle.mp_defs.specs.Window.{is_free}
use Rattle.mp_scans.proofs.FillLemmas.{set_next}
use Rattle.mp_scans.proofs.MarkLemmas.{mark_is, clear_at}
use Rattle.mp_scans.proofs.marks.mark_each.Goals as goal

pub loop-k-preserved : goal.loop-k-preserved
loop-k-preserved c =
    let a = series_of c.args.samples.now in
    let k = c.loop-k.k in
    let end = c.args.start + c.args.m - 1 in
    record {
      clear = clear_at a c.args.start _ (end + k + 1) (end + (k + 1)) (omega arith) c.clear_after-clear.ensures;
      places = length-set _ _ _ ∙ c.loop-k.invariant.places;
      done = set_next (λ q b. b ≡ is_free c.args.m a (c.args.start + q)) false c.loop-k.marks k _ (omega arith)
          c.loop-k.invariant.done
          (c.is_clear_at.ensures
          ∙ mark_is c.args.m a c.args.start c.clear_after-clear.result (c.args.start + k) (end + k + 1)
          c.clear_after-clear.ensures (omega (arith, c.requires.some)) (omega arith));
    }
