-- What a closed desk gave.
use Rattle.std.proofs.Common.{◌≡◌, ℕ, ◌+◌, ◌<◌, ◌≤◌, List, [], ◌∷◌, ◌++◌, Bool, true, false, refl, sym, ap, ◌∙◌}
use Rattle.std.proofs.Common.{append-nil, arith}
use Rattle.std.specs.Prelude.{nat_le, nat_lt, ◌&&◌, if◌then◌else◌}
use Rattle.std.specs.List.{range_with_len}
use Rattle.std.proofs.lemmas.Bool.Decides.{nat_tests}
use Rattle.std.proofs.lemmas.List.Elements.{filter-append}
use Rattle.std.proofs.lemmas.List.Sums.{sum_by-cons, sum_by_push}
use Rattle.mp_partial.specs.Together.{HaveSamePieces}
use Rattle.mp_partial.specs.TogetherLaws.{pieces_of_lists}
use Rattle.mp_workers.specs.Desks.{HasEachBelow, once_below, past, pieces_among}
use Rattle.mp_workers.specs.Teams.{HasPast}
use Rattle.mp_workers.specs.DeskLaws.{DeskGivesEachPiece}
use Rattle.mp_workers.proofs.Teaming.{all_are_pieces, is_counted, one_for, past_next}

abbrev one_past : ℕ → ℕ → ℕ
one_past pieces number = if nat_le pieces number then 1 else 0

-- a list that has a number past the pieces has one that stands there
some_past : (pieces : ℕ) (numbers : List ℕ) → 0 < past pieces numbers → HasPast pieces numbers
some_past pieces [] some = absurd (omega (arith, some))
some_past pieces (x ∷ xs) some = go (nat_le pieces x) refl (λ rest. some_past pieces xs rest)
  where
    sum : past pieces (x ∷ xs) ≡ one_past pieces x + past pieces xs
    sum = sum_by-cons (one_past pieces) x xs

    go : (b : Bool) → nat_le pieces x ≡ b → (0 < past pieces xs → HasPast pieces xs) → HasPast pieces (x ∷ xs)
    go true e rest =
        let le : pieces ≤ x = grind (arith, nat_tests) in
        let here : one_for x x ≡ 1 = grind (arith, nat_tests) in
        (x, le, omega (arith, here, sum_by-cons (one_for x) x xs))
    go false e rest =
        let none : one_past pieces x ≡ 0 = ap (λ b. if b then 1 else 0) e in
        let later = rest (omega (arith, some, sum, none)) in
        (later.0, later.1, omega (arith, later.2, sum_by-cons (one_for later.0) x xs))

-- once a number past the pieces was drawn, each piece was
pub each_drawn : (pieces next : ℕ) (drawn : List ℕ) → HasEachBelow next drawn → HasPast pieces drawn
    → HaveSamePieces (pieces_among pieces drawn) (range_with_len 0 pieces)
each_drawn pieces next drawn has last k =
    let below : last.0 < next = past_next next last.0 (omega (arith, last.2, has last.0)) in
    pieces_of_lists.passed (λ number. nat_lt number pieces) drawn k
    ∙ ap (λ b. nat_lt k pieces && b) (is_counted drawn k ∙ ap (nat_lt 0) (has k))
    ∙ within (omega (arith, below, last.1)) (nat_lt k pieces) refl
    ∙ sym (pieces_of_lists.below pieces k)
  where
    within : pieces < next → (b : Bool) → nat_lt k pieces ≡ b → (b && nat_lt 0 (once_below next k)) ≡ b
    within past true e = let lt : k < next = grind (arith, nat_tests) in grind (arith, nat_tests)
    within past false e = refl

pub desk_gives_each_piece : DeskGivesEachPiece
desk_gives_each_piece = record {
  by_work = λ pieces old numbers last new drew.
      let no_piece : nat_lt last pieces ≡ false = past_test pieces last drew.no_piece in
      ap (pieces_among pieces) drew.drawn
      ∙ filter-append (λ number. nat_lt number pieces) (old ++ numbers) (last ∷ [])
      ∙ ap (λ b. pieces_among pieces (old ++ numbers) ++ (if b then last ∷ [] else [])) no_piece
      ∙ append-nil (pieces_among pieces (old ++ numbers))
      ∙ filter-append (λ number. nat_lt number pieces) old numbers
      ∙ ap (λ ks. pieces_among pieces old ++ ks) (all_are_pieces pieces numbers drew.are_pieces);
  past_by_work = λ pieces old numbers last new drew.
      let here : one_past pieces last ≡ 1 = past_counts pieces last drew.no_piece in
      omega (arith, here, ap (past pieces) drew.drawn, sum_by_push (one_past pieces) (old ++ numbers) last);
  joined = λ pieces xs ys. filter-append (λ number. nat_lt number pieces) xs ys;
  closed = λ pieces next drawn has some. each_drawn pieces next drawn has (some_past pieces drawn some);
}
  where
    past_test : (pieces last : ℕ) → pieces ≤ last → nat_lt last pieces ≡ false
    past_test pieces last le = grind (arith, nat_tests)

    past_counts : (pieces last : ℕ) → pieces ≤ last → one_past pieces last ≡ 1
    past_counts pieces last le = grind (arith, nat_tests)
