use Rattle.std.proofs.Common.{◌≡◌, ◌<◌, ◌∙◌, length, ap, arith, get_or}
use Rattle.std.specs.Prelude.{None}
use Rattle.std.proofs.lemmas.List.{get_or_default}
use Rattle.mp_nums.specs.Near.{nearer_of}
use Rattle.mp_tiles.proofs.ColumnLemmas.{merged_next, all_merged}
use Rattle.mp_tiles.specs.Sides.{Stored}
use Rattle.mp_tiles.proofs.columns.Column.merge_each.Goals as goal

there : (c : goal.After-take) → c.copy.result ≡ get_or c.args.other.now.slots c.loop-k.k None
there c =
    let k = c.loop-k.k in
    let within : k < length c.as_slice.result.now =
    omega (arith, c.as_slice.ensures.len, ap (λ (s : Stored). length s.slots) c.other.view_is, c.requires) in
    c.copy.ensures ∙ c.index-as_slice-k.is
    ∙ get_or_default c.as_slice.result.now k c.index-as_slice-k.result None within
    ∙ ap (λ slots. get_or slots k None) (c.as_slice.ensures.value ∙ ap (λ (s : Stored). s.slots) c.other.view_is)

pub loop-k-preserved : goal.loop-k-preserved
loop-k-preserved c = record {
  merged = rw c.take.ensures.slots
      (merged_next c.loop-k.k c.args.self.now.slots c.args.other.now.slots c.loop-k.self.slots _ (omega arith)
      c.loop-k.invariant.merged (ap (nearer_of (get_or c.loop-k.self.slots c.loop-k.k None)) (there c)));
  room = c.take.ensures.room ∙ c.loop-k.invariant.room;
}

pub returns : goal.returns
returns c = record {
  column = all_merged c.loop-k.k c.args.self.now.slots c.args.other.now.slots c.loop-k.self.slots c.requires
      (omega arith) c.loop-k.invariant.merged;
  places = c.loop-k.invariant.merged.places;
  room = c.loop-k.invariant.room;
}
