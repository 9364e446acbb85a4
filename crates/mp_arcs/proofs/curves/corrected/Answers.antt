use Rattle.std.proofs.Common.{◌≡◌, ◌∙◌, ◌*◌, ◌++◌, [], ◌∷◌, ℕ, ap, sym, length, map, zero-add, get_or}
use Rattle.std.specs.List.{range_with_len}
use Rattle.std.proofs.lemmas.List.{map_push}
use Rattle.std.proofs.lemmas.List.FromFn.{map-range_with_len_more}
use Rattle.mp_results.specs.Curve.{parts_of, value_at}
use Rattle.mp_arcs.proofs.curves.corrected.Goals as goal

pub loop-place-preserved : goal.loop-place-preserved
loop-place-preserved c =
    let arcs = c.args.arcs.now in
    let f = λ (t : ℕ). value_at (get_or arcs t 0) (length arcs) (c.args.factor * c.args.m) t in
    let place = c.loop-place.place in
    let value : parts_of c.value_at.result ≡ f place = rw (c.from.ensures, c.from-2.ensures) at c.value_at.ensures in
    rw c.in_ok-push.ensures.items (map_push parts_of c.loop-place.curve.items c.value_at.result
    ∙ ap (λ xs. xs ++ parts_of c.value_at.result ∷ []) c.loop-place.invariant
    ∙ ap (λ x. map f (range_with_len 0 place) ++ x ∷ []) value
    ∙ sym (map-range_with_len_more f 0 place place (zero-add place)))
