-- What the workers of a team draw and find.
use Rattle.std.proofs.Common.{◌≡◌, ℕ, ◌+◌, ◌-◌, ◌<◌, ◌≤◌, List, [], ◌∷◌, ◌++◌, Bool, true, false, refl, sym, ap, subst}
use Rattle.std.proofs.Common.{◌∙◌}
use Rattle.std.proofs.Common.{append-nil, length, get_or, take, drop, arith, zero, suc}
use Rattle.std.specs.Prelude.{nat_lt, ◌==◌, ◌&&◌, ◌||◌, if◌then◌else◌, All, Option, Some, option_to_list, slice_get}
use Rattle.std.specs.Prelude.{slice_set}
use Rattle.std.specs.Prelude.{sum_by}
use Rattle.std.specs.List.{range_with_len, swap_remove}
use Rattle.std.proofs.lemmas.Bool.Decides.{nat_tests}
use Rattle.std.proofs.lemmas.List.Concat.{flat_map-append}
use Rattle.std.proofs.lemmas.List.Elements.{filter-append, filter_passes}
use Rattle.std.proofs.lemmas.List.Elements.{All-head, All-tail, All-cons, All-nil, All-append, All-set, All-take}
use Rattle.std.proofs.lemmas.List.Elements.{All-weaker}
use Rattle.std.proofs.lemmas.List.Sums.{sum_by-cons, sum_by_push}
use Rattle.std.proofs.lemmas.List.{length-append}
use Rattle.mp_partial.specs.Values.{Value, merged_over, merged_below}
use Rattle.mp_partial.specs.MergeLaws.{IsMerging}
use Rattle.mp_partial.specs.Together.{has_piece, HaveSamePieces}
use Rattle.mp_partial.specs.TogetherLaws.{merges_by_pieces, pieces_of_lists}
use Rattle.mp_workers.specs.Desks.{DeskId, once_below, past, pieces_among, times}
use Rattle.mp_workers.specs.Teams.{WorkerState, IsDone, IsReady, AreReady, HaveRun, found_first, pieces_of}
use Rattle.mp_workers.specs.Teams.{with_first_of, with_pieces}
use Rattle.mp_workers.proofs.Working.{pieces_have}

-- ---- lists of parts and of workers

-- the last of a list left it
pub last_left : {X : Type 0} (old new : List X) (left : Option X) (x : X) → old ≡ new ++ option_to_list left
    → left ≡ Some x → old ≡ new ++ x ∷ []
last_left old new left x e is = e ∙ ap (λ o. new ++ option_to_list o) is

pub one_less : {X : Type 0} (old new : List X) (x : X) → old ≡ new ++ x ∷ [] → length old ≡ length new + 1
one_less old new x e = ap length e ∙ length-append new (x ∷ [])

pub sum_less : {X : Type 0} (f : X → ℕ) (old new : List X) (x : X) → old ≡ new ++ x ∷ []
    → sum_by f old ≡ sum_by f new + f x
sum_less f old new x e = ap (sum_by f) e ∙ sum_by_push f new x

pub all_but_one : {X : Type 0} (P : X → Type 0) (xs : List X) (i : ℕ) (d : X) → 0 < length xs → All P xs
    → All P (swap_remove xs i d)
all_but_one P xs i d some all =
    let last = get_or xs (length xs - 1) d in
    All-take P (length xs - 1) (slice_set xs i last)
    (All-set P xs i last (all (length xs - 1) d (omega (arith, some))) all)

-- ---- one worker

pub all_are_pieces : (pieces : ℕ) (numbers : List ℕ) → All (λ number. number < pieces) numbers
    → pieces_among pieces numbers ≡ numbers
all_are_pieces pieces [] all = refl
all_are_pieces pieces (x ∷ xs) all =
    let lt : x < pieces = All-head (λ number. number < pieces) x xs all in
    let is : nat_lt x pieces ≡ true = grind (arith, nat_tests) in
    ap (λ b. if b then x ∷ pieces_among pieces xs else pieces_among pieces xs) is
    ∙ ap (λ ys. x ∷ ys) (all_are_pieces pieces xs (All-tail (λ number. number < pieces) x xs all))

-- the numbers behind the pieces that were drawn are none
pub new_pieces : (pieces : ℕ) (old numbers new : List ℕ) (last : ℕ) → old ≡ [] → new ≡ old ++ numbers ++ last ∷ []
    → All (λ number. number < pieces) numbers → pieces ≤ last → pieces_among pieces new ≡ numbers
new_pieces pieces old numbers new last none is all past =
    let no_piece : nat_lt last pieces ≡ false = grind (arith, nat_tests) in
    ap (pieces_among pieces) (is ∙ ap (λ xs. xs ++ numbers ++ last ∷ []) none)
    ∙ filter-append (λ number. nat_lt number pieces) numbers (last ∷ [])
    ∙ ap (λ b. pieces_among pieces numbers ++ (if b then last ∷ [] else [])) no_piece
    ∙ append-nil (pieces_among pieces numbers) ∙ all_are_pieces pieces numbers all

-- ---- some workers

-- one worker that is done is a team that has run
pub one_has_run : (desk : DeskId) (size : ℕ) (together : Value → List ℕ → Value) (workers : List WorkerState)
    (d worker : WorkerState) → length workers ≡ 1 → IsDone desk size worker
    → worker.found ≡ together (get_or workers 0 d).found (pieces_among desk.pieces worker.pass.drawn)
    → HaveRun desk size (together (found_first workers)) (slice_set workers 0 worker)
one_has_run desk size together [] d worker one done found = absurd (omega (arith, one))
one_has_run desk size together (x ∷ []) d worker one done found = (
  All-cons (IsDone desk size) worker [] done (All-nil (IsDone desk size)),
  worker,
  refl,
  found ∙ ap (together x.found) (sym (append-nil (pieces_among desk.pieces worker.pass.drawn))),
)
one_has_run desk size together (x ∷ y ∷ rest) d worker one done found = absurd (omega (arith, one))

-- what the workers drew are pieces
pub are_below : (pieces : ℕ) (workers : List WorkerState) → All (λ k. k < pieces) (pieces_of pieces workers)
are_below pieces [] = All-nil (λ k. k < pieces)
are_below pieces (x ∷ xs) =
    All-append (λ k. k < pieces) (pieces_among pieces x.pass.drawn) (pieces_of pieces xs)
    (All-weaker (λ k. nat_lt k pieces ≡ true) (λ k. k < pieces) (below pieces) (pieces_among pieces x.pass.drawn)
    (filter_passes (λ k. nat_lt k pieces) x.pass.drawn))
    (are_below pieces xs)
  where
    below : (pieces k : ℕ) → nat_lt k pieces ≡ true → k < pieces
    below pieces k is = grind (arith, nat_tests)

pub first_is_done : (desk : DeskId) (size : ℕ) (workers : List WorkerState) (first : WorkerState)
    → slice_get workers 0 ≡ Some first → All (IsDone desk size) workers → IsDone desk size first
first_is_done desk size [] first is all = absurd (cc)
first_is_done desk size (w ∷ ws) first is all =
    let same : w ≡ first = cc in
    subst (IsDone desk size) same (All-head (IsDone desk size) w ws all)

-- what the first worker has found changes none of what was drawn
pub same_drawn : (pieces : ℕ) (workers : List WorkerState) (first new : WorkerState) → slice_get workers 0 ≡ Some first
    → new.pass ≡ first.pass → pieces_of pieces (slice_set workers 0 new) ≡ pieces_of pieces workers
same_drawn pieces [] first new is same = refl
same_drawn pieces (w ∷ ws) first new is same =
    let old : w ≡ first = cc in
    ap (λ pass. pieces_among pieces pass.drawn ++ pieces_of pieces ws) (same ∙ ap (λ v. v.pass) (sym old))

pub first_set : (workers : List WorkerState) (first new : WorkerState) → slice_get workers 0 ≡ Some first
    → slice_get (slice_set workers 0 new) 0 ≡ Some new
first_set [] first new is = absurd (cc)
first_set (w ∷ ws) first new is = refl

pub first_of_both : (low high : List WorkerState) (first : WorkerState) → slice_get low 0 ≡ Some first
    → slice_get (low ++ high) 0 ≡ Some first
first_of_both [] high first is = absurd (cc)
first_of_both (w ∷ ws) high first is = is

-- where all workers begin with one value, the first of them does
pub first_found : (desk : DeskId) (size : ℕ) (start : Value) (workers : List WorkerState)
    → All (IsReady desk size start) workers → 0 < length workers → found_first workers ≡ start
first_found desk size start [] all some = absurd (omega (arith, some))
first_found desk size start (w ∷ ws) all some = (All-head (IsReady desk size start) w ws all).found

-- workers that begin with what a team begins with are a team themselves
pub part_ready : (IsValue : ℕ → Value → Type 0) (desk : DeskId) (size : ℕ) (start : Value) (workers : List WorkerState)
    → IsValue size start → All (IsReady desk size start) workers → 0 < length workers
    → AreReady IsValue desk size workers
part_ready IsValue desk size start workers is all some =
    let same = sym (first_found desk size start workers all some) in
    record {
      is_value = subst (IsValue size) same is;
      each = subst (λ v. All (IsReady desk size v) workers) same all;
    }

-- what was found before both halves counts once
both_started : (IsValue : ℕ → Value → Type 0) (unit : ℕ → Value) (merged : Value → Value → Value)
    → IsMerging IsValue unit merged → (size : ℕ) (start a b : Value) → IsValue size start → IsValue size a
    → IsValue size b → merged (merged start a) (merged start b) ≡ merged start (merged a b)
both_started IsValue unit merged laws size start a b is is_a is_b =
    let both = laws.merged_is_value size a b is_a is_b in
    laws.associative size start a (merged start b) is is_a (laws.merged_is_value size start b is is_b)
    ∙ ap (merged start) (sym (laws.associative size a start b is_a is is_b)
    ∙ ap (λ v. merged v b) (laws.commutative size a start is_a is) ∙ laws.associative size start a b is is_a is_b)
    ∙ sym (laws.associative size start start (merged a b) is is both)
    ∙ ap (λ v. merged v (merged a b)) (laws.idempotent size start is)

-- two teams that have run are one, once the first worker of one has what both found
pub both_have_run : (IsValue : ℕ → Value → Type 0) (unit : ℕ → Value) (merged : Value → Value → Value)
    → IsMerging IsValue unit merged → (desk : DeskId) (size : ℕ) (value : ℕ → Value)
    → ((k : ℕ) → k < desk.pieces → IsValue size (value k)) → (start : Value) → IsValue size start
    → (low high low' : List WorkerState)
    → HaveRun desk size (with_pieces merged (unit size) value start) low
    → HaveRun desk size (with_pieces merged (unit size) value start) high
    → ((first other : WorkerState) → slice_get low 0 ≡ Some first → slice_get high 0 ≡ Some other
    → low' ≡ slice_set low 0 (with_first_of merged first other))
    → HaveRun desk size (with_pieces merged (unit size) value start) (low' ++ high)
both_have_run IsValue unit merged laws desk size value values start is low high low' low_run high_run sets =
    let over = merged_over merged (unit size) value in
    let together = with_pieces merged (unit size) value start in
    let by_pieces = merges_by_pieces IsValue unit merged laws in
    let low_first = low_run.1 in
    let high_first = high_run.1 in
    let first = with_first_of merged low_first high_first in
    let done = first_is_done desk size low low_first low_run.2 low_run.0 in
    let have = λ (workers : List WorkerState). pieces_have IsValue size value desk.pieces
    (pieces_of desk.pieces workers) values (are_below desk.pieces workers) in
    subst (λ team. HaveRun desk size together (team ++ high)) (sym (sets low_first high_first low_run.2 high_run.2)) (
      All-append (IsDone desk size) (slice_set low 0 first) high
          (All-set (IsDone desk size) low 0 first
          (record {
            of_team = record {
              of_desk = done.of_team.of_desk;
              weight = done.of_team.weight;
              size_is = done.of_team.size_is;
            };
            past_pieces = done.past_pieces;
          })
          low_run.0)
          high_run.0,
      first,
      first_of_both (slice_set low 0 first) high first (first_set low low_first first low_run.2),
      ap (λ v. merged v high_first.found) low_run.3
          ∙ ap (merged (together (pieces_of desk.pieces low))) high_run.3
          ∙ both_started IsValue unit merged laws size start (over (pieces_of desk.pieces low))
          (over (pieces_of desk.pieces high)) is
          (by_pieces.is_value size value (pieces_of desk.pieces low) (have low))
          (by_pieces.is_value size value (pieces_of desk.pieces high) (have high))
          ∙ ap (merged start) (sym (by_pieces.joined size value (pieces_of desk.pieces low)
          (pieces_of desk.pieces high) (have low) (have high)))
          ∙ ap (λ ks. together (ks ++ pieces_of desk.pieces high))
          (sym (same_drawn desk.pieces low low_first first low_run.2 refl))
          ∙ ap together (sym (flat_map-append (λ worker. pieces_among desk.pieces worker.pass.drawn)
          (slice_set low 0 first) high)),
    )

-- ---- all workers

-- 1 for a number itself, and else 0
abbrev pub one_for : ℕ → ℕ → ℕ
one_for x number = if number == x then 1 else 0

-- a number is in a list where it stands there at all
pub is_counted : (numbers : List ℕ) (k : ℕ) → has_piece numbers k ≡ nat_lt 0 (times k numbers)
is_counted [] k = refl
is_counted (x ∷ xs) k = first_counts x k xs (is_counted xs k) (x == k) refl
  where
    first_counts : (x k : ℕ) (xs : List ℕ) → has_piece xs k ≡ nat_lt 0 (times k xs) → (b : Bool) → (x == k) ≡ b
        → (b || has_piece xs k) ≡ nat_lt 0 (times k (x ∷ xs))
    first_counts x k xs rest true e =
        let here : one_for k x ≡ 1 = ap (λ b. if b then 1 else 0) e in
        let sum = sum_by-cons (one_for k) x xs in
        let some : 0 < times k (x ∷ xs) = omega (arith, here, sum) in
        grind (arith, nat_tests)
    first_counts x k xs rest false e =
        let here : one_for k x ≡ 0 = ap (λ b. if b then 1 else 0) e in
        let sum = sum_by-cons (one_for k) x xs in
        let same : times k (x ∷ xs) ≡ times k xs = omega (arith, here, sum) in
        rest ∙ ap (nat_lt 0) (sym same)

-- a number is among the pieces of some workers where it is a piece that one of them drew
among_workers : (pieces : ℕ) (workers : List WorkerState) (k : ℕ) → has_piece (pieces_of pieces workers) k
    ≡ (nat_lt k pieces && nat_lt 0 (sum_by (λ worker. times k worker.pass.drawn) workers))
among_workers pieces [] k = none (nat_lt k pieces)
  where
    none : (b : Bool) → false ≡ (b && false)
    none true = refl
    none false = refl
among_workers pieces (x ∷ xs) k =
    pieces_of_lists.joined (pieces_among pieces x.pass.drawn) (pieces_of pieces xs) k
    ∙ ap (λ b. b || has_piece (pieces_of pieces xs) k)
    (pieces_of_lists.passed (λ number. nat_lt number pieces) x.pass.drawn k
    ∙ ap (λ b. nat_lt k pieces && b) (is_counted x.pass.drawn k))
    ∙ ap (λ b. (nat_lt k pieces && nat_lt 0 (times k x.pass.drawn)) || b) (among_workers pieces xs k)
    ∙ either (nat_lt k pieces) (times k x.pass.drawn) (sum_by (λ worker. times k worker.pass.drawn) xs)
    ∙ ap (λ n. nat_lt k pieces && nat_lt 0 n) (sym (sum_by-cons (λ worker. times k worker.pass.drawn) x xs))
  where
    either : (b : Bool) (m n : ℕ) → ((b && nat_lt 0 m) || (b && nat_lt 0 n)) ≡ (b && nat_lt 0 (m + n))
    either true m n = grind (arith, nat_tests)
    either false m n = refl

-- once one of them has drawn a number past the pieces, the workers of a closed desk have drawn each piece
pub all_drawn : (pieces next : ℕ) (workers : List WorkerState)
    → ((x : ℕ) → sum_by (λ worker. times x worker.pass.drawn) workers ≡ once_below next x) → pieces < next
    → HaveSamePieces (pieces_of pieces workers) (range_with_len 0 pieces)
all_drawn pieces next workers once past k =
    among_workers pieces workers k
    ∙ ap (λ n. nat_lt k pieces && nat_lt 0 n) (once k)
    ∙ within (nat_lt k pieces) refl
    ∙ sym (pieces_of_lists.below pieces k)
  where
    within : (b : Bool) → nat_lt k pieces ≡ b → (b && nat_lt 0 (once_below next k)) ≡ b
    within true e = let lt : k < next = grind (arith, nat_tests) in grind (arith, nat_tests)
    within false e = refl

pub past_next : (next last : ℕ) → 1 ≤ once_below next last → last < next
past_next next last le = grind (arith, nat_tests)

-- the first of some workers has drawn no more of a number than all of them
pub first_within : (workers : List WorkerState) (first : WorkerState) (x : ℕ) → slice_get workers 0 ≡ Some first
    → times x first.pass.drawn ≤ sum_by (λ worker. times x worker.pass.drawn) workers
first_within [] first x is = absurd (cc)
first_within (w ∷ ws) first x is =
    let same : w ≡ first = cc in
    subst (λ v. times x v.pass.drawn ≤ sum_by (λ worker. times x worker.pass.drawn) (w ∷ ws)) same
    (omega (arith, sum_by-cons (λ worker. times x worker.pass.drawn) w ws))

-- where the workers of a closed desk have run, the first of them has what was found before with what all pieces have
pub all_found : (IsValue : ℕ → Value → Type 0) (unit : ℕ → Value) (merged : Value → Value → Value)
    → IsMerging IsValue unit merged → (desk : DeskId) (size : ℕ) (value : ℕ → Value)
    → ((k : ℕ) → k < desk.pieces → IsValue size (value k)) → (start : Value) → (workers : List WorkerState)
    → (run : HaveRun desk size (with_pieces merged (unit size) value start) workers) → (next : ℕ)
    → ((x : ℕ) → sum_by (λ worker. times x worker.pass.drawn) workers ≡ once_below next x)
    → run.1.found ≡ merged start (merged_below merged (unit size) value desk.pieces)
all_found IsValue unit merged laws desk size value values start workers run next once =
    let last = (first_is_done desk size workers run.1 run.2 run.0).past_pieces in
    let there : 1 ≤ once_below next last.0 =
    omega (arith, last.2, first_within workers run.1 last.0 run.2, once last.0) in
    let past : desk.pieces < next = omega (arith, last.1, past_next next last.0 there) in
    run.3
    ∙ ap (merged start) ((merges_by_pieces IsValue unit merged laws).same size value (pieces_of desk.pieces workers)
    (range_with_len 0 desk.pieces)
    (pieces_have IsValue size value desk.pieces (pieces_of desk.pieces workers) values (are_below desk.pieces workers))
    (all_drawn desk.pieces next workers once past))

-- so many workers of a team have as much weight
pub weights_are_count : (desk : DeskId) (size : ℕ) (workers : List WorkerState) → All (IsDone desk size) workers
    → sum_by (λ worker. worker.pass.weight) workers ≡ length workers
weights_are_count desk size [] all = refl
weights_are_count desk size (w ∷ ws) all =
    let one = (All-head (IsDone desk size) w ws all).of_team.weight in
    let rest = weights_are_count desk size ws (All-tail (IsDone desk size) w ws all) in
    omega (arith, one, rest, sum_by-cons (λ worker. worker.pass.weight) w ws)

-- what all pieces have together is a value of the size
pub all_is_value : (IsValue : ℕ → Value → Type 0) (unit : ℕ → Value) (merged : Value → Value → Value)
    → IsMerging IsValue unit merged → (size : ℕ) (value : ℕ → Value) (pieces : ℕ)
    → ((k : ℕ) → k < pieces → IsValue size (value k)) → IsValue size (merged_below merged (unit size) value pieces)
all_is_value IsValue unit merged laws size value pieces values =
    (merges_by_pieces IsValue unit merged laws).is_value size value (range_with_len 0 pieces)
    (λ k there. values k (below k (sym (pieces_of_lists.below pieces k) ∙ there)))
  where
    below : (k : ℕ) → nat_lt k pieces ≡ true → k < pieces
    below k e = grind (arith, nat_tests)

taken : {X : Type 0} (workers rest : List X) (count : ℕ) → length workers ≡ count
    → take count (workers ++ rest) ≡ workers
taken [] rest zero is = refl
taken [] rest (suc count) is = absurd (omega (arith, is))
taken (w ∷ ws) rest zero is = absurd (omega (arith, is))
taken (w ∷ ws) rest (suc count) is = ap (λ xs. w ∷ xs) (taken ws rest count (omega (arith, is)))

-- what was lent and written back
pub written_back : {X : Type 0} (workers old : List X) (count : ℕ) → length workers ≡ count
    → take count (workers ++ drop (length workers) old) ≡ workers
written_back workers old count is = taken workers (drop (length workers) old) count is
