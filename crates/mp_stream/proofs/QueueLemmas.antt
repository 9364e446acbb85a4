-- What is seen of a queue after a write through its items.
use Rattle.std.proofs.Common.{◌≡◌, ℕ, ◌+◌, ◌-◌, ◌≤◌, List, ◌++◌, length, take, drop, ap, sym, subst, ◌∙◌, arith}
use Rattle.std.proofs.Common.{vec_len, vec_capacity}
use Rattle.std.proofs.Math.Seq.{drop-append_seam}
use Rattle.std.proofs.lemmas.List.{drop-take, take_rest, take-append-le, length-append, length-drop, length-take-le}
use Rattle.std.specs.Global.{Vec}
use Rattle.std.specs.Vec.{with_items_from}
use Rattle.mp_nums.specs.Listed.{Listed}
use Rattle.mp_nums.specs.Lending.{refilled}

-- a write from a place on
lent_rest : {X : Type 0} (start : ℕ) (items written tail : List X) → start ≤ length items
    → drop start (take (length items)
    ((take start items ++ (written ++ drop (length written) (drop start items))) ++ tail))
    ≡ refilled (drop start items) written
lent_rest start items written tail le =
    let front = take start items in
    let rest = drop start items in
    let body = written ++ drop (length written) rest in
    let before : length front ≡ start = length-take-le start items le in
    let more : length body ≡ length written + length (drop (length written) rest) =
    length-append written (drop (length written) rest) in
    let enough : length items ≤ length (front ++ body) =
    omega (
      arith,
      before,
      more,
      length-append front body,
      length-drop start items,
      length-drop (length written) rest,
      le,
    ) in
    let parts : length items ≡ start + length rest = omega (arith, length-drop start items, le) in
    ap (drop start) (take-append-le (length items) (front ++ body) tail enough)
    ∙ ap (λ n. drop start (take n (front ++ body))) parts
    ∙ drop-take start (length rest) (front ++ body)
    ∙ ap (λ n. take (length rest) (drop n (front ++ body))) (sym before)
    ∙ ap (take (length rest)) (drop-append_seam front body)

-- what is seen of the places of a vector from one on
abbrev seen_from : {X : Type 0} → ℕ → Vec X → List X → Listed X
seen_from start stored items = record {
  items = drop start items;
  spare = vec_capacity stored - (vec_len stored - start);
}

-- what is seen after a write through the items
abbrev seen_after : {X : Type 0} → Listed X → List X → Listed X
seen_after seen items = record { items = refilled seen.items items; spare = seen.spare }

pub lent_queue : {X : Type 0} (stored : Vec X) (start : ℕ) (items : List X) (seen : Listed X) → start ≤ vec_len stored
    → seen_from start stored stored.items ≡ seen
    → seen_from start stored (with_items_from stored start items).items ≡ seen_after seen items
lent_queue {X} stored start items seen le e =
    let P : Listed X → Type 0 = λ s. seen_from start stored (with_items_from stored start items).items
    ≡ seen_after s items in
    let long : vec_len stored ≡ length stored.items = stored.ok.0 in
    let written = take start stored.items ++ (items ++ drop (length items) (drop start stored.items)) in
    subst P e
    (ap (λ n. seen_from start stored (take n (written ++ drop (length written) stored.items))) long
    ∙ ap (λ (list : List X). record { items = list; spare = vec_capacity stored - (vec_len stored - start) })
    (lent_rest start stored.items items (drop (length written) stored.items) (omega (arith, le, long))))

-- all places from one on
pub rest_lent : {X : Type 0} (stored : Vec X) (start : ℕ)
    → take (vec_len stored - start) (drop start stored.items) ≡ drop start stored.items
rest_lent stored start =
    ap (λ n. take (n - start) (drop start stored.items)) stored.ok.0 ∙ take_rest stored.items start
