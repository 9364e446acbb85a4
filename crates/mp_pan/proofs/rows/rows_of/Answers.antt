use Rattle.std.proofs.Common.{◌≡◌, ℕ, ◌+◌, List, [], ◌∷◌, ◌++◌, map, arith, ap, refl, sym, ◌∙◌}
use Rattle.std.specs.List.{range_with_len}
use Rattle.std.proofs.lemmas.List.FromFn.{map-range_with_len_more}
use Rattle.mp_nums.specs.declared.finds.PanRow.{PanRow}
use Rattle.mp_defs.specs.Series.{Series, series_of}
use Rattle.mp_results.specs.Pan.{pan_row}
use Rattle.mp_pan.proofs.rows.rows_of.Goals as goal

-- one row more
one_row : (lo place : ℕ) (a : Series) (before after : List PanRow) (row : PanRow)
    → after ≡ before ++ row ∷ [] → before ≡ map (pan_row a) (range_with_len lo place) → row ≡ pan_row a (lo + place)
    → after ≡ map (pan_row a) (range_with_len lo (place + 1))
one_row lo place a before after row e f g =
    e ∙ ap (λ rows. rows ++ row ∷ []) f ∙ ap (λ one. map (pan_row a) (range_with_len lo place) ++ one ∷ []) g
    ∙ sym (map-range_with_len_more (pan_row a) lo place (lo + place) refl)

pub loop-place-preserved : goal.loop-place-preserved
loop-place-preserved c =
    let range = c.args.range.now in
    record {
      items = one_row range.lo c.loop-place.place (series_of range.samples.now) c.loop-place.rows.items
          c.push_reserved.new.self.items c.row_of.result c.push_reserved.ensures.items c.loop-place.invariant.items
          c.row_of.ensures;
      count = omega (arith, c.push_reserved.ensures.len, c.loop-place.invariant.count);
      room = omega (arith, c.push_reserved.ensures.capacity, c.loop-place.invariant.room);
    }
