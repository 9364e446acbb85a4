-- What holds of workers know, once they are put together.
use Rattle.std.proofs.Common.{◌≡◌, ℕ, ◌+◌, ◌<◌, ◌≤◌, List, [], ◌∷◌, ◌++◌, Bool, true, false, refl, sym, ap, subst, ◌∙◌, arith}
use Rattle.std.specs.Prelude.{All, nat_lt, ◌==◌, ◌||◌}
use Rattle.std.proofs.lemmas.Bool.Decides.{nat_tests}
use Rattle.std.proofs.lemmas.List.Sums.{sum_by-append, sum_by-cons}
use Rattle.std.proofs.lemmas.List.Elements.{All-append, All-head, All-tail, All-weaker, filter-append}
use Rattle.mp_partial.specs.Together.{has_piece}
use Rattle.mp_partial.specs.TogetherLaws.{pieces_of_lists}
use Rattle.mp_workers.specs.Desks.{DeskId, HasEachBelow, PassState, pieces_among, times}
use Rattle.mp_workers.specs.Teams.{HasPast}
use Rattle.mp_workers.specs.Telling.{AreTold}
use Rattle.mp_workers.proofs.Closing.{each_drawn}
use Rattle.mp_workers.proofs.Teaming.{one_for}

-- what holds of all pieces of a list holds of each of them
each_of : (P : ℕ → Type 0) (pieces : List ℕ) (k : ℕ) → All P pieces → has_piece pieces k ≡ true → P k
each_of P [] k all there = absurd (cc (there))
each_of P (p ∷ rest) k all there =
    by (p == k) refl there (λ is. each_of P rest k (All-tail P p rest all) is)
  where
    by : (b : Bool) → (p == k) ≡ b → (b || has_piece rest k) ≡ true → (has_piece rest k ≡ true → P k) → P k
    by true same is later =
        let here : p ≡ k = grind (arith, nat_tests) in
        subst P here (All-head P p rest all)
    by false other is later = later is

-- a number stands behind those that were drawn before
pub past_drawn : (pieces last : ℕ) (numbers : List ℕ) → pieces ≤ last → HasPast pieces (numbers ++ last ∷ [])
past_drawn pieces last numbers le =
    (last, le, omega (arith, sum_by-append (one_for last) numbers (last ∷ []), itself last))
  where
    itself : (last : ℕ) → times last (last ∷ []) ≡ 1
    itself last =
        let here : one_for last last ≡ 1 = grind (arith, nat_tests) in
        omega (arith, here, sum_by-cons (one_for last) last [])

-- a number past the pieces, which the second pass drew
pub past_second : (pieces : ℕ) (xs ys all : List ℕ) → all ≡ xs ++ ys → HasPast pieces ys → HasPast pieces all
past_second pieces xs ys all e h =
    (h.0, h.1, omega (arith, h.2, sum_by-append (one_for h.0) xs ys, ap (times h.0) e))

-- the pieces that two passes drew
pub both_told : (pieces : ℕ) {H : Type 0} (is_told : H → ℕ → Type 0) (drawn other all : List ℕ) (hold known new : H)
    → all ≡ drawn ++ other → All (is_told hold) (pieces_among pieces drawn)
    → All (is_told known) (pieces_among pieces other) → ((piece : ℕ) → is_told hold piece → is_told new piece)
    → ((piece : ℕ) → is_told known piece → is_told new piece) → All (is_told new) (pieces_among pieces all)
both_told pieces is_told drawn other all hold known new e first second stays joins =
    subst (λ ns. All (is_told new) (pieces_among pieces ns)) (sym e)
    (subst (All (is_told new)) (sym (filter-append (λ number. nat_lt number pieces) drawn other))
    (All-append (is_told new) (pieces_among pieces drawn) (pieces_among pieces other)
    (All-weaker (is_told hold) (is_told new) (λ k is. stays k is) (pieces_among pieces drawn) first)
    (All-weaker (is_told known) (is_told new) (λ k is. joins k is) (pieces_among pieces other) second)))

-- each number was drawn once, so each piece was told
pub all_told : (desk : DeskId) {H : Type 0} (is_hold : ℕ → H → Type 0) (is_told : H → ℕ → Type 0) (pass : PassState)
    (hold : H) (next piece : ℕ) → AreTold desk is_hold is_told pass hold → HasEachBelow next pass.drawn
    → piece < desk.pieces → is_told hold piece
all_told desk is_hold is_told pass hold next piece h each lt =
    let is : nat_lt piece desk.pieces ≡ true = grind (arith, nat_tests) in
    each_of (is_told hold) (pieces_among desk.pieces pass.drawn) piece h.told
    (each_drawn desk.pieces next pass.drawn each h.past_pieces piece ∙ pieces_of_lists.below desk.pieces piece ∙ is)
