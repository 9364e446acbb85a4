use Rattle.std.proofs.Common.{◌∙◌, ap, arith, length}
use Rattle.std.proofs.lemmas.List.{length-map}
use Rattle.std.proofs.lemmas.List.FromFn.{length-map-range_with_len}
use Rattle.mp_results.specs.Arcs.{arc_count, index_of, indices_of}
use Rattle.mp_made.proofs.summaries.curve.Goals as goal

pub corrected-requires-clause-places : goal.corrected-requires-clause-places
corrected-requires-clause-places c =
    let indices = indices_of c.args.column.now in
    omega (
      arith,
      c.requires.few,
      ap length (c.as_slice.ensures ∙ c.in_ok-arcs.ensures),
      length-map-range_with_len (arc_count indices) 0 (length indices),
      length-map c.args.column.now index_of,
    )
