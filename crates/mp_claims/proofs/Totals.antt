-- What a core stands for before and after an event.
use Rattle.std.proofs.Common.{◌≡◌, ◌≢◌, ℕ, zero, suc, ◌+◌, ◌<◌, ◌≤◌, List, [], ◌∷◌, ◌++◌, length, get_or, set, map}
use Rattle.std.proofs.Common.{replicate, refl, sym, ap, subst, ◌∙◌, inl, inr, arith}
use Rattle.std.proofs.Common.{Bool, true, false, ◌⊎◌}
use Rattle.std.specs.Prelude.{Some, slice_get, filter, nat_lt, ◌==◌, ◌&&◌, ◌||◌, if◌then◌else◌}
use Rattle.std.specs.List.{range_with_len}
use Rattle.std.proofs.lemmas.Bool.{cases_eq}
use Rattle.std.proofs.lemmas.Bool.Decides.{nat_tests}
use Rattle.std.proofs.lemmas.List.{length-set, length-map, get_or-set_same, get_or-set_other, get_or_default}
use Rattle.std.proofs.lemmas.List.{get_or-replicate, length-replicate}
use Rattle.std.proofs.lemmas.Option.{slice_get_within, get_or_from_slice_get}
use Rattle.mp_partial.specs.Values.{Value, merged_over}
use Rattle.mp_partial.specs.MergeLaws.{IsMerging}
use Rattle.mp_partial.specs.Together.{has_piece, HaveSamePieces, HaveValues}
use Rattle.mp_partial.specs.TogetherLaws.{merges_by_pieces, pieces_of_lists}
use Rattle.mp_claims.specs.declared.states.WorkerState.TheVariants.{Free, Holds, Spent}
use Rattle.mp_claims.specs.declared.states.PieceState.{PieceState}
use Rattle.mp_claims.specs.declared.states.PieceState.TheVariants.{Unclaimed, Held, Finished, Delivered}
use Rattle.mp_claims.specs.Cores.{CoreState, EachOnce, IsComplete, start, claimed_by, finished_by, delivered_by}
use Rattle.mp_claims.specs.Cores.{handed_over}
use Rattle.mp_claims.specs.Cores.{is_finished_by, is_delivered, pieces_where, finished_pieces, delivered_pieces}
use Rattle.mp_claims.specs.Standing.{Cored, StandsFor}

-- ---- which pieces pass a test

abbrev at : List PieceState → ℕ → PieceState
at pieces k = get_or pieces k Unclaimed

pub has_where : (test : PieceState → Bool) (pieces : List PieceState) (k : ℕ)
    → has_piece (pieces_where test pieces) k ≡ (test (at pieces k) && nat_lt k (length pieces))
has_where test pieces k =
    pieces_of_lists.passed (λ j. test (at pieces j)) (range_with_len 0 (length pieces)) k
    ∙ ap (λ b. test (at pieces k) && b) (pieces_of_lists.below (length pieces) k)

-- pieces that pass a test have values, where all pieces have
where_has_values : (IsValue : ℕ → Value → Type 0) (size : ℕ) (value : ℕ → Value) (test : PieceState → Bool)
    (pieces : List PieceState) → ((k : ℕ) → k < length pieces → IsValue size (value k))
    → HaveValues IsValue size value (pieces_where test pieces)
where_has_values IsValue size value test pieces h k there =
    h k (within (test (at pieces k)) k (length pieces) (sym (has_where test pieces k) ∙ there))
  where
    within : (b : Bool) (k n : ℕ) → (b && nat_lt k n) ≡ true → k < n
    within true k n e = grind (arith, nat_tests)
    within false k n e = cc

-- the same numbers pass tests that agree on the pieces
where_same : (test other : PieceState → Bool) (pieces others : List PieceState) → length others ≡ length pieces
    → ((k : ℕ) → k < length pieces → other (at others k) ≡ test (at pieces k))
    → pieces_where other others ≡ pieces_where test pieces
where_same test other pieces others long same =
    ap (λ n. filter (λ k. other (at others k)) (range_with_len 0 n)) long ∙ go 0 (length pieces) (omega arith)
  where
    go : (first count : ℕ) → first + count ≤ length pieces
        → filter (λ k. other (at others k)) (range_with_len first count) ≡ filter (λ k. test (at pieces k))
        (range_with_len first count)
    go first zero le = refl
    go first (suc count) le =
        let rest = go (first + 1) count (omega arith) in
        ap (λ b. if b then first ∷ filter (λ k. other (at others k)) (range_with_len (first + 1) count) else filter
        (λ k. other (at others k)) (range_with_len (first + 1) count)) (same first (omega arith))
        ∙ ap (λ ks. if test (at pieces first) then first ∷ ks else ks) rest

-- a piece that changes without passing the test before or after leaves the others as they are
where_set : (test : PieceState → Bool) (pieces : List PieceState) (i : ℕ) (new : PieceState)
    → test new ≡ test (at pieces i) → pieces_where test (set pieces i new) ≡ pieces_where test pieces
where_set test pieces i new same =
    where_same test test pieces (set pieces i new) (length-set pieces i new)
    (λ k lt. elim (cases_eq k i) [
      | inl e ↦ ap (λ j. test (at (set pieces i new) j)) e
          ∙ ap test (get_or-set_same pieces i new Unclaimed (let f = e in omega arith)) ∙ same
          ∙ ap (λ j. test (at pieces j)) (sym e)
      | inr ne ↦ ap test (get_or-set_other pieces i k new Unclaimed ne)
    ])

-- ---- a claim

claim_same : (test : PieceState → Bool) → test Unclaimed ≡ false → ((w : ℕ) → test (Held w) ≡ false)
    → (w : ℕ) (state : CoreState) → EachOnce state
    → pieces_where test (claimed_by w state).pieces ≡ pieces_where test state.pieces
claim_same test unclaimed held w state once = go (nat_lt state.next (length state.pieces)) refl
  where
    go : (b : Bool) → nat_lt state.next (length state.pieces) ≡ b
        → pieces_where test (if b then record {
          next = state.next + 1;
          workers = set state.workers w
              (Holds state.next);
          pieces = set state.pieces state.next (Held w);
        }
        else record state { next = state.next + 1; workers = set state.workers w Spent }).pieces
        ≡ pieces_where test state.pieces
    go true e =
        let some : state.next < length state.pieces = grind (arith, nat_tests) in
        let open_ : slice_get state.pieces state.next ≡ Some Unclaimed = (once.unclaimed state.next some).1
        (omega arith) in
        where_set test state.pieces state.next (Held w)
        (held w ∙ sym unclaimed
        ∙ ap test (sym (get_or_from_slice_get state.pieces state.next Unclaimed Unclaimed open_)))
    go false e = refl

claim_workers : (w : ℕ) (state : CoreState) → length (claimed_by w state).workers ≡ length state.workers
claim_workers w state = go (nat_lt state.next (length state.pieces))
  where
    go : (b : Bool) → length
        (if b then record {
          next = state.next + 1;
          workers = set state.workers w (Holds state.next);
          pieces = set
              state.pieces state.next (Held w);
        }
        else record state { next = state.next + 1; workers = set state.workers w Spent }).workers ≡ length state.workers
    go true = length-set state.workers w (Holds state.next)
    go false = length-set state.workers w Spent

pub claim_stands : (merged : Value → Value → Value) (unit : Value) (value : ℕ → Value) (w : ℕ) (old new : Cored)
    → EachOnce old.state → new.state ≡ claimed_by w old.state → new.total ≡ old.total → new.partials ≡ old.partials
    → StandsFor merged unit value old → StandsFor merged unit value new
claim_stands merged unit value w old new once state_is total_is partials_is stands =
    let same : (v : ℕ) → finished_pieces v new.state ≡ finished_pieces v old.state =
    λ v. ap (finished_pieces v) state_is ∙ claim_same (is_finished_by v) refl (λ u. refl) w old.state once in
    let workers : length new.state.workers ≡ length old.state.workers =
    ap (λ (state : CoreState). length state.workers) state_is ∙ claim_workers w old.state in
    record {
      total = total_is ∙ stands.total ∙ ap (merged_over merged unit value)
          (sym (ap delivered_pieces state_is ∙ claim_same is_delivered refl (λ u. refl) w old.state once));
      each_worker = ap length partials_is ∙ stands.each_worker ∙ sym workers;
      partials = λ v lt. ap (λ ps. get_or ps v unit) partials_is ∙ stands.partials v (omega (arith, workers))
          ∙ ap (merged_over merged unit value) (sym (same v));
    }

-- ---- a finished piece

both_true : (a b : Bool) → a ≡ true → b ≡ true → (a && b) ≡ true
both_true a b e f = ap (λ c. c && b) e ∙ f

-- the worker's pieces are those that it had, and the one that it held
finish_adds : (w k : ℕ) (pieces : List PieceState) → k < length pieces
    → HaveSamePieces (k ∷ pieces_where (is_finished_by w) pieces)
    (pieces_where (is_finished_by w) (set pieces k (Finished w)))
finish_adds w k pieces lt j = elim (cases_eq j k) [
  | inl e ↦ ap (λ b. b || has_piece before j) (same_true (sym e)) ∙ sym (has_where (is_finished_by w) after j ∙ there e)
  | inr ne ↦ ap (λ b. b || has_piece before j) (other_false (λ e. ne (sym e))) ∙ has_where (is_finished_by w) pieces j
      ∙ sym (has_where (is_finished_by w) after j ∙ elsewhere ne)
]
  where
    before : List ℕ
    before = pieces_where (is_finished_by w) pieces

    after : List PieceState
    after = set pieces k (Finished w)

    same_true : {a b : ℕ} → a ≡ b → (a == b) ≡ true
    same_true e = grind (arith, nat_tests)

    other_false : {a b : ℕ} → a ≢ b → (a == b) ≡ false
    other_false ne = grind (arith, nat_tests)

    there : j ≡ k → (is_finished_by w (at (set pieces k (Finished w)) j) && nat_lt j
        (length (set pieces k (Finished w)))) ≡ true
    there e = both_true (is_finished_by w (at (set pieces k (Finished w)) j))
        (nat_lt j (length (set pieces k (Finished w))))
        (ap (λ i. is_finished_by w (at (set pieces k (Finished w)) i)) e
        ∙ ap (is_finished_by w) (get_or-set_same pieces k (Finished w) Unclaimed lt) ∙ same_true {a = w} refl)
        (ap (nat_lt j) (length-set pieces k (Finished w)) ∙ grind (arith, nat_tests))

    elsewhere : j ≢ k → (is_finished_by w (at (set pieces k (Finished w)) j) && nat_lt j
        (length (set pieces k (Finished w))))
        ≡ (is_finished_by w (at pieces j) && nat_lt j (length pieces))
    elsewhere ne = ap (λ piece. is_finished_by w piece && nat_lt j (length (set pieces k (Finished w))))
        (get_or-set_other pieces k j (Finished w) Unclaimed ne)
        ∙ ap (λ n. is_finished_by w (at pieces j) && nat_lt j n) (length-set pieces k (Finished w))

-- the value of the piece that was held, merged into those of the worker's pieces
finish_merges : (IsValue : ℕ → Value → Type 0) (unit : ℕ → Value) (merged : Value → Value → Value)
    → IsMerging IsValue unit merged → (size : ℕ) (value : ℕ → Value) (w k : ℕ) (pieces : List PieceState)
    → ((j : ℕ) → j < length pieces → IsValue size (value j)) → k < length pieces
    → merged (merged_over merged (unit size) value (pieces_where (is_finished_by w) pieces)) (value k)
    ≡ merged_over merged (unit size) value (pieces_where (is_finished_by w) (set pieces k (Finished w)))
finish_merges IsValue unit merged laws size value w k pieces values lt =
    let together = merges_by_pieces IsValue unit merged laws in
    let before = pieces_where (is_finished_by w) pieces in
    let have = where_has_values IsValue size value (is_finished_by w) pieces values in
    laws.commutative size (merged_over merged (unit size) value before) (value k)
    (together.is_value size value before have) (values k lt)
    ∙ together.same size value (k ∷ before) (pieces_where (is_finished_by w) (set pieces k (Finished w)))
    (λ j there. elim (first_or_later k j before there) [
      | inl e ↦ subst (λ i. IsValue size (value i)) e (values k lt)
      | inr later ↦ have j later
    ])
    (finish_adds w k pieces lt)
  where
    first_or_later : (x j : ℕ) (xs : List ℕ) → has_piece (x ∷ xs) j ≡ true → (x ≡ j) ⊎ (has_piece xs j ≡ true)
    first_or_later x j xs there = go (x == j) refl there
      where
        go : (b : Bool) → (x == j) ≡ b → (b || has_piece xs j) ≡ true → (x ≡ j) ⊎ (has_piece xs j ≡ true)
        go true e h = inl (grind (arith, nat_tests))
        go false e h = inr h

-- no other worker's pieces change, nor do those that are delivered
finish_same : (test : PieceState → Bool) (w k : ℕ) (pieces : List PieceState) → slice_get pieces k ≡ Some (Held w)
    → test (Held w) ≡ false → test (Finished w) ≡ false
    → pieces_where test (set pieces k (Finished w)) ≡ pieces_where test pieces
finish_same test w k pieces held before after =
    where_set test pieces k (Finished w)
    (after ∙ sym before ∙ ap test (sym (get_or_from_slice_get pieces k (Held w) Unclaimed held)))

pub finish_stands : (IsValue : ℕ → Value → Type 0) (unit : ℕ → Value) (merged : Value → Value → Value)
    → IsMerging IsValue unit merged → (size : ℕ) (value : ℕ → Value) (w k : ℕ) (old new : Cored)
    → EachOnce old.state → ((j : ℕ) → j < length old.state.pieces → IsValue size (value j))
    → slice_get old.state.workers w ≡ Some (Holds k) → new.state ≡ finished_by w (Some k) old.state
    → new.total ≡ old.total → new.partials ≡ set old.partials w (merged (get_or old.partials w []) (value k))
    → StandsFor merged (unit size) value old → StandsFor merged (unit size) value new
finish_stands IsValue unit merged laws size value w k old new once values holds state_is total_is partials_is stands =
    let held : slice_get old.state.pieces k ≡ Some (Held w) = (once.held k w).1 holds in
    let within : k < length old.state.pieces = slice_get_within old.state.pieces k (Held w) held in
    let there : w < length old.state.workers = slice_get_within old.state.workers w (Holds k) holds in
    let workers : length new.state.workers ≡ length old.state.workers =
    ap (λ (state : CoreState). length state.workers) state_is ∙ length-set old.state.workers w Free in
    record {
      total = total_is ∙ stands.total ∙ ap (merged_over merged (unit size) value)
          (sym (ap delivered_pieces state_is ∙ finish_same is_delivered w k old.state.pieces held refl refl));
      each_worker = ap length partials_is ∙ length-set old.partials w (merged (get_or old.partials w []) (value k))
          ∙ stands.each_worker ∙ sym workers;
      partials = λ v lt. ap (λ ps. get_or ps v (unit size)) partials_is ∙ elim (cases_eq v w) [
        | inl e ↦ ap (λ u. get_or (set old.partials w (merged (get_or old.partials w []) (value k))) u (unit size)) e
            ∙ get_or-set_same old.partials w (merged (get_or old.partials w []) (value k)) (unit size)
            (omega (arith, stands.each_worker))
            ∙ ap (λ partial. merged partial (value k))
            (get_or_default old.partials w [] (unit size) (omega (arith, stands.each_worker))
            ∙ stands.partials w there)
            ∙ finish_merges IsValue unit merged laws size value w k old.state.pieces values within
            ∙ ap (merged_over merged (unit size) value)
            (sym (ap (λ u. finished_pieces u new.state) e ∙ ap (finished_pieces w) state_is))
        | inr ne ↦ get_or-set_other old.partials w v (merged (get_or old.partials w []) (value k)) (unit size) ne
            ∙ stands.partials v (omega (arith, workers))
            ∙ ap (merged_over merged (unit size) value) (sym (ap (finished_pieces v) state_is
            ∙ finish_same (is_finished_by v) w k old.state.pieces held refl (grind (arith, nat_tests))))
      ];
    }

-- ---- a delivery

delivered_or : (w : ℕ) (piece : PieceState)
    → is_delivered (handed_over w piece) ≡ (is_delivered piece || is_finished_by w piece)
delivered_or w Unclaimed = refl
delivered_or w (Held v) = refl
delivered_or w (Finished v) = go (v == w)
  where
    go : (b : Bool) → is_delivered (if b then Delivered else Finished v) ≡ b
    go true = refl
    go false = refl
delivered_or w Delivered = refl

finished_by_none : (w : ℕ) (piece : PieceState) → is_finished_by w (handed_over w piece) ≡ false
finished_by_none w Unclaimed = refl
finished_by_none w (Held v) = refl
finished_by_none w (Finished v) = go (v == w) refl
  where
    go : (b : Bool) → (v == w) ≡ b → is_finished_by w (if b then Delivered else Finished v) ≡ false
    go true e = refl
    go false e = e
finished_by_none w Delivered = refl

finished_by_other : (v w : ℕ) (piece : PieceState) → v ≢ w → is_finished_by v (handed_over w piece)
    ≡ is_finished_by v piece
finished_by_other v w Unclaimed ne = refl
finished_by_other v w (Held u) ne = refl
finished_by_other v w (Finished u) ne = go (u == w) refl
  where
    go : (b : Bool) → (u == w) ≡ b → is_finished_by v (if b then Delivered else Finished u) ≡ (u == v)
    go true e = grind (arith, nat_tests)
    go false e = refl
finished_by_other v w Delivered ne = refl

handed_at : (w : ℕ) (pieces : List PieceState) (k : ℕ) → at (map (handed_over w) pieces) k ≡ handed_over w (at pieces k)
handed_at w [] k = refl
handed_at w (piece ∷ pieces) zero = refl
handed_at w (piece ∷ pieces) (suc k) = handed_at w pieces k

-- the delivered pieces are those that were, and those that the worker had finished
deliver_adds : (w : ℕ) (pieces : List PieceState)
    → HaveSamePieces (pieces_where is_delivered pieces ++ pieces_where (is_finished_by w) pieces)
    (pieces_where is_delivered (map (handed_over w) pieces))
deliver_adds w pieces j =
    pieces_of_lists.joined (pieces_where is_delivered pieces) (pieces_where (is_finished_by w) pieces) j
    ∙ ap (λ b. b || has_piece (pieces_where (is_finished_by w) pieces) j) (has_where is_delivered pieces j)
    ∙ ap (λ b. (is_delivered (at pieces j) && nat_lt j (length pieces)) || b) (has_where (is_finished_by w) pieces j)
    ∙ distribute (is_delivered (at pieces j)) (is_finished_by w (at pieces j)) (nat_lt j (length pieces))
    ∙ ap (λ b. b && nat_lt j (length pieces))
    (sym (ap is_delivered (handed_at w pieces j) ∙ delivered_or w (at pieces j)))
    ∙ ap (λ n. is_delivered (at (map (handed_over w) pieces) j) && nat_lt j n) (sym (length-map pieces (handed_over w)))
    ∙ sym (has_where is_delivered (map (handed_over w) pieces) j)
  where
    distribute : (a b c : Bool) → ((a && c) || (b && c)) ≡ ((a || b) && c)
    distribute true true true = refl
    distribute true true false = refl
    distribute true false true = refl
    distribute true false false = refl
    distribute false b c = refl

where_none : (pieces : List PieceState) → pieces_where (λ _. false) pieces ≡ []
where_none pieces = go 0 (length pieces)
  where
    go : (first count : ℕ) → filter (λ _. false) (range_with_len first count) ≡ []
    go first zero = refl
    go first (suc count) = go (first + 1) count

pub deliver_stands : (IsValue : ℕ → Value → Type 0) (unit : ℕ → Value) (merged : Value → Value → Value)
    → IsMerging IsValue unit merged → (size : ℕ) (value : ℕ → Value) (w : ℕ) (old new : Cored)
    → ((j : ℕ) → j < length old.state.pieces → IsValue size (value j))
    → w < length old.state.workers → new.state ≡ delivered_by w old.state
    → new.total ≡ merged old.total (get_or old.partials w []) → new.partials ≡ set old.partials w (unit size)
    → StandsFor merged (unit size) value old → StandsFor merged (unit size) value new
deliver_stands IsValue unit merged laws size value w old new values there state_is total_is partials_is stands =
    let together = merges_by_pieces IsValue unit merged laws in
    let delivered = delivered_pieces old.state in
    let finished = finished_pieces w old.state in
    let have = where_has_values IsValue size value is_delivered old.state.pieces values in
    let have_finished = where_has_values IsValue size value (is_finished_by w) old.state.pieces values in
    let workers : length new.state.workers ≡ length old.state.workers = ap
    (λ (state : CoreState). length state.workers) state_is in
    let long = length-map old.state.pieces (handed_over w) in
    record {
      total = total_is
          ∙ ap (λ total. merged total (get_or old.partials w [])) stands.total
          ∙ ap (merged (merged_over merged (unit size) value delivered))
          (get_or_default old.partials w [] (unit size) (omega (arith, stands.each_worker))
          ∙ stands.partials w there)
          ∙ sym (together.joined size value delivered finished have have_finished)
          ∙ together.same size value (delivered ++ finished)
          (pieces_where is_delivered (map (handed_over w) old.state.pieces))
          (λ j there. elim (either_true (has_piece delivered j) (has_piece finished j)
          (sym (pieces_of_lists.joined delivered finished j) ∙ there)) [
            | inl h ↦ have j h
            | inr h ↦ have_finished j h
          ])
          (deliver_adds w old.state.pieces)
          ∙ ap (merged_over merged (unit size) value) (sym (ap delivered_pieces state_is));
      each_worker = ap length partials_is ∙ length-set old.partials w (unit size) ∙ stands.each_worker ∙ sym workers;
      partials = λ v lt. ap (λ ps. get_or ps v (unit size)) partials_is ∙ elim (cases_eq v w) [
        | inl e ↦ ap (λ u. get_or (set old.partials w (unit size)) u (unit size)) e
            ∙ get_or-set_same old.partials w (unit size) (unit size) (omega (arith, stands.each_worker))
            ∙ ap (merged_over merged (unit size) value)
            (sym (ap (λ u. finished_pieces u new.state) e ∙ ap (finished_pieces w) state_is
            ∙ where_same (λ _. false) (is_finished_by w) old.state.pieces (map (handed_over w) old.state.pieces) long
            (λ k lt. ap (is_finished_by w) (handed_at w old.state.pieces k)
            ∙ finished_by_none w (at old.state.pieces k))
            ∙ where_none old.state.pieces))
        | inr ne ↦ get_or-set_other old.partials w v (unit size) (unit size) ne
            ∙ stands.partials v (omega (arith, workers))
            ∙ ap (merged_over merged (unit size) value) (sym (ap (finished_pieces v) state_is
            ∙ where_same (is_finished_by v) (is_finished_by v) old.state.pieces (map (handed_over w) old.state.pieces)
            long
            (λ k lt. ap (is_finished_by v) (handed_at w old.state.pieces k)
            ∙ finished_by_other v w (at old.state.pieces k) ne)))
      ];
    }
  where
    either_true : (a b : Bool) → (a || b) ≡ true → (a ≡ true) ⊎ (b ≡ true)
    either_true true b h = inl refl
    either_true false b h = inr h

-- ---- the start, and the end

-- where every piece is delivered, the delivered pieces are all
pub complete_is_all : (state : CoreState) → IsComplete state → delivered_pieces state ≡ range_with_len 0
    (length state.pieces)
complete_is_all state all =
    where_same (λ _. true) is_delivered state.pieces state.pieces refl
    (λ k lt. ap is_delivered (all k Unclaimed lt))
    ∙ where_all 0 (length state.pieces)
  where
    where_all : (first count : ℕ) → filter (λ _. true) (range_with_len first count) ≡ range_with_len first count
    where_all first zero = refl
    where_all first (suc count) = ap (λ ks. first ∷ ks) (where_all (first + 1) count)

start_none : (test : PieceState → Bool) (count : ℕ) → test Unclaimed ≡ false
    → pieces_where test (replicate count Unclaimed) ≡ []
start_none test count unclaimed =
    where_same (λ _. false) test (replicate count Unclaimed) (replicate count Unclaimed) refl
    (λ k lt. ap test (get_or-replicate count k Unclaimed Unclaimed (omega (arith, length-replicate count Unclaimed)))
    ∙ unclaimed)
    ∙ where_none (replicate count Unclaimed)

pub start_stands : (merged : Value → Value → Value) (unit : Value) (value : ℕ → Value) (pieces workers : ℕ)
    (core : Cored)
    → core.state ≡ start pieces workers → core.total ≡ unit → core.partials ≡ replicate workers unit
    → StandsFor merged unit value core
start_stands merged unit value pieces workers core state_is total_is partials_is = record {
  total = total_is ∙ ap (merged_over merged unit value)
      (sym (ap delivered_pieces state_is ∙ start_none is_delivered pieces refl));
  each_worker = ap length partials_is ∙ length-replicate workers unit
      ∙ sym (ap (λ (state : CoreState). length state.workers) state_is ∙ length-replicate workers Free);
  partials = λ w lt.
      let there : w < workers = omega
      (arith, lt, ap (λ (state : CoreState). length state.workers) state_is, length-replicate workers Free) in
      ap (λ ps. get_or ps w unit) partials_is ∙ get_or-replicate workers w unit unit there
      ∙ ap (merged_over merged unit value)
      (sym (ap (finished_pieces w) state_is ∙ start_none (is_finished_by w) pieces refl));
}
