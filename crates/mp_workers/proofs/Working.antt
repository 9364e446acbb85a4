-- What a worker draws and takes in.
use Rattle.std.proofs.Common.{◌≡◌, ℕ, ◌<◌, List, [], ◌∷◌, ◌++◌, Bool, true, false, refl, sym, ap, subst, ◌∙◌}
use Rattle.std.proofs.Common.{append_assoc, append-nil, arith}
use Rattle.std.specs.Prelude.{nat_le, ◌==◌, ◌||◌, if◌then◌else◌, All}
use Rattle.std.proofs.lemmas.Bool.Decides.{nat_tests}
use Rattle.std.proofs.lemmas.List.Elements.{All-head, All-tail, All-cons, All-nil}
use Rattle.std.proofs.lemmas.List.Sums.{sum_by-cons, sum_by-append}
use Rattle.mp_partial.specs.Values.{Value, merged_over}
use Rattle.mp_partial.specs.MergeLaws.{IsMerging}
use Rattle.mp_partial.specs.Together.{has_piece, HaveValues}
use Rattle.mp_partial.specs.TogetherLaws.{merges_by_pieces}
use Rattle.mp_workers.specs.Desks.{past}

-- ---- the numbers

last_of : (P : ℕ → Type 0) (numbers : List ℕ) (number : ℕ) → All P (numbers ++ number ∷ []) → P number
last_of P [] number all = All-head P number [] all
last_of P (x ∷ xs) number all = last_of P xs number (All-tail P x (xs ++ number ∷ []) all)

-- a number that is greater than all that were drawn is greater than the last one
pub last_below : (old numbers drawn : List ℕ) (last next : ℕ) → drawn ≡ old ++ numbers ++ last ∷ []
    → All (λ number. number < next) drawn → last < next
last_below old numbers drawn last next is all =
    last_of (λ number. number < next) (old ++ numbers) last
    (subst (All (λ number. number < next)) is all)

-- 1 for a number that is no piece, and else 0
abbrev one_past : ℕ → ℕ → ℕ
one_past pieces number = if nat_le pieces number then 1 else 0

none_past : (pieces : ℕ) (numbers : List ℕ) → All (λ number. number < pieces) numbers → past pieces numbers ≡ 0
none_past pieces [] all = refl
none_past pieces (x ∷ xs) all =
    let first : x < pieces = All-head (λ number. number < pieces) x xs all in
    let none : one_past pieces x ≡ 0 = grind (arith, nat_tests) in
    let rest = none_past pieces xs (All-tail (λ number. number < pieces) x xs all) in
    omega (arith, none, rest, sum_by-cons (one_past pieces) x xs)

-- pieces leave room for one more number
pub room_stays : (pieces weight : ℕ) (old numbers drawn : List ℕ) (last : ℕ) → past pieces old < weight
    → All (λ number. number < pieces) numbers → last < pieces → drawn ≡ old ++ numbers ++ last ∷ []
    → past pieces drawn < weight
room_stays pieces weight old numbers drawn last room all lt is =
    let none = none_past pieces numbers all in
    let no_last = none_past pieces (last ∷ []) (All-cons (λ number. number < pieces) last [] lt
    (All-nil (λ number. number < pieces))) in
    let sum : past pieces (old ++ numbers ++ last ∷ []) ≡ past pieces old = omega (
      arith,
      none,
      no_last,
      sum_by-append (one_past pieces) (old ++ numbers) (last ∷ []),
      sum_by-append (one_past pieces) old numbers,
    ) in
    omega (arith, ap (past pieces) is, sum, room)

-- one more was drawn
pub one_more_drawn : (old numbers before after : List ℕ) (last next : ℕ) → before ≡ old ++ numbers ++ last ∷ []
    → after ≡ before ++ next ∷ [] → after ≡ old ++ (numbers ++ last ∷ []) ++ next ∷ []
one_more_drawn old numbers before after last next is more =
    more ∙ ap (λ xs. xs ++ next ∷ []) (is ∙ append_assoc old numbers (last ∷ []))

-- a first number was drawn
pub one_drawn : (old drawn : List ℕ) (number : ℕ) → drawn ≡ old ++ number ∷ [] → drawn ≡ old ++ [] ++ number ∷ []
one_drawn old drawn number is = is ∙ ap (λ xs. xs ++ number ∷ []) (sym (append-nil old))

-- ---- the values

-- a number of the list is the first one, or one of the others
first_or_rest : (IsValue : ℕ → Value → Type 0) (size : ℕ) (value : ℕ → Value) (x : ℕ) (xs : List ℕ)
    → IsValue size (value x) → HaveValues IsValue size value xs
    → (k : ℕ) (b : Bool) → (x == k) ≡ b → (b || has_piece xs k) ≡ true → IsValue size (value k)
first_or_rest IsValue size value x xs first rest k true e there =
    let same : x ≡ k = grind (arith, nat_tests) in
    subst (λ j. IsValue size (value j)) same first
first_or_rest IsValue size value x xs first rest k false e there = rest k there

-- pieces have values, where all pieces have
pub pieces_have : (IsValue : ℕ → Value → Type 0) (size : ℕ) (value : ℕ → Value) (pieces : ℕ) (numbers : List ℕ)
    → ((k : ℕ) → k < pieces → IsValue size (value k)) → All (λ number. number < pieces) numbers
    → HaveValues IsValue size value numbers
pieces_have IsValue size value pieces [] values all k there = absurd (cc)
pieces_have IsValue size value pieces (x ∷ xs) values all k there =
    first_or_rest IsValue size value x xs (values x (All-head (λ number. number < pieces) x xs all))
    (pieces_have IsValue size value pieces xs values (All-tail (λ number. number < pieces) x xs all))
    k (x == k) refl there

-- nothing was taken in yet
pub nothing_taken : (IsValue : ℕ → Value → Type 0) (unit : ℕ → Value) (merged : Value → Value → Value)
    → IsMerging IsValue unit merged → (size : ℕ) (value : ℕ → Value) (old : Value) → IsValue size old
    → old ≡ merged old (merged_over merged (unit size) value [])
nothing_taken IsValue unit merged laws size value old is = sym (laws.unit_last size old is)

-- one more piece was taken in
pub one_more_taken : (IsValue : ℕ → Value → Type 0) (unit : ℕ → Value) (merged : Value → Value → Value)
    → IsMerging IsValue unit merged → (size : ℕ) (value : ℕ → Value) (pieces : ℕ) (numbers : List ℕ) (piece : ℕ)
    → ((k : ℕ) → k < pieces → IsValue size (value k)) → All (λ number. number < pieces) numbers → piece < pieces
    → (old before after : Value) → IsValue size old
    → before ≡ merged old (merged_over merged (unit size) value numbers) → after ≡ merged before (value piece)
    → after ≡ merged old (merged_over merged (unit size) value (numbers ++ piece ∷ []))
one_more_taken IsValue unit merged laws size value pieces numbers piece values all lt old before after is e f =
    let together = merges_by_pieces IsValue unit merged laws in
    let over = merged_over merged (unit size) value in
    let have = pieces_have IsValue size value pieces numbers values all in
    let one_has = pieces_have IsValue size value pieces (piece ∷ []) values
    (All-cons (λ number. number < pieces) piece [] lt (All-nil (λ number. number < pieces))) in
    let one : over (piece ∷ []) ≡ value piece = laws.unit_last size (value piece) (values piece lt) in
    f ∙ ap (λ v. merged v (value piece)) e
    ∙ laws.associative size old (over numbers) (value piece) is (together.is_value size value numbers have)
    (values piece lt)
    ∙ ap (λ v. merged old (merged (over numbers) v)) (sym one)
    ∙ ap (merged old) (sym (together.joined size value numbers (piece ∷ []) have one_has))
