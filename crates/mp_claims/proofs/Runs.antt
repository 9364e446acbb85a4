-- What whole runs leave.
use Rattle.std.proofs.Common.{◌≡◌, ◌≢◌, ℕ, zero, suc, ◌+◌, ◌<◌, ◌≤◌, List, [], ◌∷◌, ◌++◌, length, get_or, set, map}
use Rattle.std.proofs.Common.{replicate, refl, sym, ap, subst, ◌∙◌, inl, inr, arith}
use Rattle.std.proofs.Common.{Bool, true, false, ◌↔◌, ◌⊎◌, append_assoc}
use Rattle.std.specs.Prelude.{Option, Some, None, slice_get, All, nat_lt, is_none, ◌==◌, ◌||◌, if◌then◌else◌}
use Rattle.std.specs.List.{range_with_len}
use Rattle.std.proofs.lemmas.Bool.Decides.{nat_tests}
use Rattle.std.proofs.lemmas.List.{length-map, length-replicate, length-append, map-append, get_or-map}
use Rattle.std.proofs.lemmas.List.{get_or-replicate, set-set, set_at, append-nil}
use Rattle.std.proofs.lemmas.List.Elements.{All-head, All-tail}
use Rattle.std.proofs.lemmas.List.Folds.{list_any_at}
use Rattle.std.proofs.lemmas.Option.{slice_get-get_or}
use Rattle.mp_partial.specs.Values.{merged_over}
use Rattle.mp_partial.specs.Together.{has_piece}
use Rattle.mp_claims.specs.declared.events.Event.{Event}
use Rattle.mp_claims.specs.declared.events.Event.TheVariants.{Claim, Finish, Deliver}
use Rattle.mp_claims.specs.declared.events.CoreRefusal.{CoreRefusal}
use Rattle.mp_claims.specs.declared.events.CoreRefusal.TheVariants.{Stranger, Holding, Idle, Spent as SpentWorker}
use Rattle.mp_claims.specs.declared.states.WorkerState.{WorkerState}
use Rattle.mp_claims.specs.declared.states.WorkerState.TheVariants.{Free, Holds, Spent}
use Rattle.mp_claims.specs.declared.states.PieceState.{PieceState}
use Rattle.mp_claims.specs.declared.states.PieceState.TheVariants.{Unclaimed, Held, Finished, Delivered}
use Rattle.mp_claims.specs.Cores.{CoreState, EachOnce, IsComplete, start, refusal, after, claim_refusal, finish_refusal}
use Rattle.mp_claims.specs.Cores.{deliver_refusal}
use Rattle.mp_claims.specs.Cores.{claimed_by, finished_by, handed_over, held_by, accepted}
use Rattle.mp_claims.specs.Boards.{IsSound}
use Rattle.mp_claims.specs.Laws.{worker_of, RefusesBy, run, AreAccepted, shares, deliveries, HasEachWorker}
use Rattle.mp_claims.specs.Laws.{AnySharesMakeTheWhole}
use Rattle.mp_claims.proofs.Soundness.{start_sound, event_sound, get_set_same}
use Rattle.mp_claims.proofs.Totals.{complete_is_all}

-- ---- refusals

claim_stranger : (worker : Option WorkerState) → (claim_refusal worker ≡ Some Stranger) ↔ (worker ≡ None)
claim_stranger None = ((λ _. refl), (λ _. refl))
claim_stranger (Some Free) = ((λ h. cc), (λ h. cc))
claim_stranger (Some (Holds k)) = ((λ h. cc), (λ h. cc))
claim_stranger (Some Spent) = ((λ h. cc), (λ h. cc))

finish_stranger : (worker : Option WorkerState) → (finish_refusal worker ≡ Some Stranger) ↔ (worker ≡ None)
finish_stranger None = ((λ _. refl), (λ _. refl))
finish_stranger (Some Free) = ((λ h. cc), (λ h. cc))
finish_stranger (Some (Holds k)) = ((λ h. cc), (λ h. cc))
finish_stranger (Some Spent) = ((λ h. cc), (λ h. cc))

deliver_stranger : (worker : Option WorkerState) → (deliver_refusal worker ≡ Some Stranger) ↔ (worker ≡ None)
deliver_stranger None = ((λ _. refl), (λ _. refl))
deliver_stranger (Some Free) = ((λ h. cc), (λ h. cc))
deliver_stranger (Some (Holds k)) = ((λ h. cc), (λ h. cc))
deliver_stranger (Some Spent) = ((λ h. cc), (λ h. cc))

claim_holding : (worker : Option WorkerState) → (claim_refusal worker ≡ Some Holding) ↔
    ((k : ℕ) × (worker ≡ Some (Holds k)))
claim_holding None = ((λ h. absurd (cc)), (λ h. let e = h.1 in cc))
claim_holding (Some Free) = ((λ h. absurd (cc)), (λ h. let e = h.1 in cc))
claim_holding (Some (Holds k)) = ((λ h. (k, refl)), (λ h. refl))
claim_holding (Some Spent) = ((λ h. absurd (cc)), (λ h. let e = h.1 in cc))

deliver_holding : (worker : Option WorkerState) → (deliver_refusal worker ≡ Some Holding) ↔
    ((k : ℕ) × (worker ≡ Some (Holds k)))
deliver_holding None = ((λ h. absurd (cc)), (λ h. let e = h.1 in cc))
deliver_holding (Some Free) = ((λ h. absurd (cc)), (λ h. let e = h.1 in cc))
deliver_holding (Some (Holds k)) = ((λ h. (k, refl)), (λ h. refl))
deliver_holding (Some Spent) = ((λ h. absurd (cc)), (λ h. let e = h.1 in cc))

finish_idle : (worker : Option WorkerState) → (finish_refusal worker ≡ Some Idle) ↔
    ((worker ≡ Some Free) ⊎ (worker ≡ Some Spent))
finish_idle None = ((λ h. absurd (cc)), (λ h. elim h [ inl e ↦ absurd (cc) | inr e ↦ absurd (cc) ]))
finish_idle (Some Free) = ((λ h. inl refl), (λ h. refl))
finish_idle (Some (Holds k)) = ((λ h. absurd (cc)), (λ h. elim h [ inl e ↦ absurd (cc) | inr e ↦ absurd (cc) ]))
finish_idle (Some Spent) = ((λ h. inr refl), (λ h. refl))

claim_spent : (worker : Option WorkerState) → (claim_refusal worker ≡ Some SpentWorker) ↔ (worker ≡ Some Spent)
claim_spent None = ((λ h. cc), (λ h. cc))
claim_spent (Some Free) = ((λ h. cc), (λ h. cc))
claim_spent (Some (Holds k)) = ((λ h. cc), (λ h. cc))
claim_spent (Some Spent) = ((λ h. refl), (λ h. refl))

-- nothing is read past the end alone
none_past : {A : Type 0} (xs : List A) (i : ℕ) → (slice_get xs i ≡ None) ↔ (length xs ≤ i)
none_past [] i = ((λ h. omega arith), (λ h. refl))
none_past (x ∷ xs) zero = ((λ h. absurd (cc)), (λ h. absurd (omega arith)))
none_past (x ∷ xs) (suc i) =
    let rest = none_past xs i in ((λ h. let le = rest.0 h in omega arith), (λ h. rest.1 (omega arith)))

through_none : {A : Type 0} (P : Type 0) (xs : List A) (i : ℕ) → P ↔ (slice_get xs i ≡ None) → P ↔ (length xs ≤ i)
through_none P xs i h = ((λ p. (none_past xs i).0 (h.0 p)), (λ le. h.1 ((none_past xs i).1 le)))

stranger_by : (state : CoreState) (event : Event)
    → (refusal state event ≡ Some Stranger) ↔ (length state.workers ≤ worker_of event)
stranger_by state (Claim w) =
    through_none (claim_refusal (slice_get state.workers w) ≡ Some Stranger) state.workers w
    (claim_stranger (slice_get state.workers w))
stranger_by state (Finish w) =
    through_none (finish_refusal (slice_get state.workers w) ≡ Some Stranger) state.workers w
    (finish_stranger (slice_get state.workers w))
stranger_by state (Deliver w) =
    through_none (deliver_refusal (slice_get state.workers w) ≡ Some Stranger) state.workers w
    (deliver_stranger (slice_get state.workers w))

pub refuses_by : (state : CoreState) → RefusesBy state
refuses_by state = record {
  stranger = stranger_by state;
  holding_claim = λ w. claim_holding (slice_get state.workers w);
  holding_deliver = λ w. deliver_holding (slice_get state.workers w);
  idle = λ w. finish_idle (slice_get state.workers w);
  spent = λ w. claim_spent (slice_get state.workers w);
}

pub refused_is_same : (state : CoreState) (event : Event) (why : CoreRefusal) → refusal state event ≡ Some why
    → after state event ≡ state
refused_is_same state event why h = ap (λ r. if is_none r then accepted state event else state) h

-- ---- every piece is in one place

run_sound : (events : List Event) (state : CoreState) → IsSound state → IsSound (run events state)
run_sound [] state sound = sound
run_sound (event ∷ events) state sound = run_sound events (after state event) (event_sound state event sound)

pub run_once : (pieces workers : ℕ) (events : List Event) → EachOnce (run events (start pieces workers))
run_once pieces workers events = (run_sound events (start pieces workers) (start_sound pieces workers)).once

-- ---- shares, and then deliveries

-- every worker is free, these have finished a piece each, and so many pieces are unclaimed
abbrev shared : ℕ → List ℕ → ℕ → CoreState
shared workers done left = record {
  next = length done;
  workers = replicate workers Free;
  pieces = map Finished done ++ replicate left Unclaimed;
}

free_at : (workers w : ℕ) → w < workers → slice_get (replicate workers Free) w ≡ Some Free
free_at workers w lt =
    slice_get-get_or (replicate workers Free) w Free (omega (arith, length-replicate workers Free))
    ∙ ap Some (get_or-replicate workers w Free Free lt)

set_free : (workers w : ℕ) → set (replicate workers Free) w Free ≡ replicate workers Free
set_free zero w = refl
set_free (suc workers) zero = refl
set_free (suc workers) (suc w) = ap (λ ws. Free ∷ ws) (set_free workers w)

-- the worker claims the next piece
after_claim : (workers : ℕ) (done : List ℕ) (left w : ℕ) → w < workers
    → after (shared workers done (suc left)) (Claim w) ≡ record {
      next = length done + 1;
      workers = set (replicate workers Free) w (Holds (length done));
      pieces = set (map Finished done ++ replicate (suc left) Unclaimed) (length done) (Held w);
    }
after_claim workers done left w lt =
    ap (λ r. if is_none (claim_refusal r) then claimed_by w (shared workers done (suc left)) else shared workers done
    (suc left)) (free_at workers w lt)
    ∙ ap (λ b. if b then record {
      next = length done + 1;
      workers = set (replicate workers Free) w (Holds (length done));
      pieces = set (map Finished done ++ replicate (suc left) Unclaimed) (length done) (Held w);
    } else record {
      next = length done + 1;
      workers = set (replicate workers Free) w Spent;
      pieces = map Finished done
          ++ replicate (suc left) Unclaimed;
    })
    (below (length done) (length (map Finished done ++ replicate (suc left) Unclaimed))
    (omega (arith, length-append (map Finished done) (replicate (suc left) Unclaimed), length-map done Finished)))
  where
    below : (a b : ℕ) → a < b → nat_lt a b ≡ true
    below a b lt = grind (arith, nat_tests)

same_state : (next next' : ℕ) (workers workers' : List WorkerState) (pieces pieces' : List PieceState)
    → next ≡ next' → workers ≡ workers' → pieces ≡ pieces'
    → ◌≡◌ {A = CoreState} (record { next = next; workers = workers; pieces = pieces })
    (record { next = next'; workers = workers'; pieces = pieces' })
same_state next next' workers workers' pieces pieces' e f g = cc

-- and finishes it
after_finish : (next : ℕ) (workers : List WorkerState) (pieces : List PieceState) (w k : ℕ)
    → slice_get workers w ≡ Some (Holds k)
    → after (record { next = next; workers = workers; pieces = pieces }) (Finish w)
    ≡ record { next = next; workers = set workers w Free; pieces = set pieces k (Finished w) }
after_finish next workers pieces w k holds =
    ap (λ r. if is_none (finish_refusal r) then finished_by w (held_by r)
    (record { next = next; workers = workers; pieces = pieces }) else record
    { next = next; workers = workers; pieces = pieces }) holds

after_share : (workers : ℕ) (done : List ℕ) (left w : ℕ) → w < workers
    → after (after (shared workers done (suc left)) (Claim w)) (Finish w) ≡ shared workers (done ++ w ∷ []) left
after_share workers done left w lt =
    let there : w < length (replicate workers Free) = omega (arith, length-replicate workers Free) in
    let pieces : List PieceState = map Finished done ++ replicate (suc left) Unclaimed in
    ap (λ (state : CoreState). after state (Finish w)) (after_claim workers done left w lt)
    ∙ after_finish (length done + 1) (set (replicate workers Free) w (Holds (length done)))
    (set pieces (length done) (Held w)) w (length done)
    (get_set_same (replicate workers Free) w (Holds (length done)) there)
    ∙ same_state _ _ _ _ _ _
    (sym (length-append done (w ∷ []) ∙ refl))
    (set-set (replicate workers Free) w (Holds (length done)) Free ∙ set_free workers w)
    (set-set pieces (length done) (Held w) (Finished w)
    ∙ set_at (map Finished done) Unclaimed (replicate left Unclaimed) (Finished w) (length done)
    (length-map done Finished)
    ∙ sym (append_assoc (map Finished done) (Finished w ∷ []) (replicate left Unclaimed))
    ∙ ap (λ ps. ps ++ replicate left Unclaimed) (sym (map-append Finished done (w ∷ []))))

-- all shares of a list are accepted, and leave its pieces finished
shares_accepted : (workers : ℕ) (done takers : List ℕ) → All (λ w. w < workers) takers
    → AreAccepted (shares takers) (shared workers done (length takers))
shares_accepted workers done [] all = tt
shares_accepted workers done (w ∷ ws) all =
    let lt = All-head (λ v. v < workers) w ws all in
    let there : w < length (replicate workers Free) = omega (arith, length-replicate workers Free) in (
      ap claim_refusal (free_at workers w lt),
      (
        ap (λ (state : CoreState). finish_refusal (slice_get state.workers w))
            (after_claim workers done (length ws) w lt)
            ∙ ap finish_refusal (get_set_same (replicate workers Free) w (Holds (length done)) there),
        subst (AreAccepted (shares ws)) (sym (after_share workers done (length ws) w lt))
            (shares_accepted workers (done ++ w ∷ []) ws (All-tail (λ v. v < workers) w ws all)),
      ),
    )

shares_finish : (workers : ℕ) (done takers : List ℕ) → All (λ w. w < workers) takers
    → run (shares takers) (shared workers done (length takers)) ≡ shared workers (done ++ takers) 0
shares_finish workers done [] all = ap (λ ws. shared workers ws 0) (sym (append-nil done))
shares_finish workers done (w ∷ ws) all =
    ap (run (shares ws)) (after_share workers done (length ws) w (All-head (λ v. v < workers) w ws all))
    ∙ shares_finish workers (done ++ w ∷ []) ws (All-tail (λ v. v < workers) w ws all)
    ∙ ap (λ vs. shared workers vs 0) (append_assoc done (w ∷ []) ws)

-- ---- deliveries

-- every worker is free, and the pieces are these
abbrev at_rest : ℕ → ℕ → List PieceState → CoreState
at_rest next workers pieces = record { next = next; workers = replicate workers Free; pieces = pieces }

after_deliver : (next workers w : ℕ) (pieces : List PieceState) → w < workers
    → after (at_rest next workers pieces) (Deliver w) ≡ at_rest next workers (map (handed_over w) pieces)
after_deliver next workers w pieces lt =
    ap (λ r. if is_none (deliver_refusal r) then at_rest next workers (map (handed_over w) pieces) else at_rest next
    workers pieces)
    (free_at workers w lt)

-- it is delivered, or some of these workers has finished it and will deliver it
abbrev IsDue : List ℕ → PieceState → Type 0
IsDue ws Unclaimed = ⊥
IsDue ws (Held v) = ⊥
IsDue ws (Finished v) = has_piece ws v ≡ true
IsDue ws Delivered = Unit {0}

due_after : (w : ℕ) (ws : List ℕ) (piece : PieceState) → IsDue (w ∷ ws) piece → IsDue ws (handed_over w piece)
due_after w ws Unclaimed h = h
due_after w ws (Held v) h = h
due_after w ws (Finished v) h = go (v == w) refl
  where
    later : (b : Bool) → (w == v) ≡ b → v ≢ w → (b || has_piece ws v) ≡ true → has_piece ws v ≡ true
    later true e ne h = absurd (ne (grind (arith, nat_tests)))
    later false e ne h = h

    go : (b : Bool) → (v == w) ≡ b → IsDue ws (if b then Delivered else Finished v)
    go true e = tt
    go false e = later (w == v) refl (grind (arith, nat_tests)) h
due_after w ws Delivered h = h

due_last : (piece : PieceState) → IsDue [] piece → piece ≡ Delivered
due_last Unclaimed h = absurd h
due_last (Held v) h = absurd h
due_last (Finished v) h = absurd (cc)
due_last Delivered h = refl

all_after : (w : ℕ) (ws : List ℕ) (pieces : List PieceState) → All (IsDue (w ∷ ws)) pieces
    → All (IsDue ws) (map (handed_over w) pieces)
all_after w ws pieces all k d lt =
    let within : k < length pieces = omega (arith, length-map pieces (handed_over w)) in
    subst (IsDue ws) (sym (get_or-map (handed_over w) pieces k d d within))
    (due_after w ws (get_or pieces k d) (all k d within))

deliveries_accepted : (next workers : ℕ) (ws : List ℕ) (pieces : List PieceState) → All (λ w. w < workers) ws
    → AreAccepted (deliveries ws) (at_rest next workers pieces)
deliveries_accepted next workers [] pieces all = tt
deliveries_accepted next workers (w ∷ ws) pieces all =
    let lt = All-head (λ v. v < workers) w ws all in (
      ap deliver_refusal (free_at workers w lt),
      subst (AreAccepted (deliveries ws)) (sym (after_deliver next workers w pieces lt))
          (deliveries_accepted next workers ws (map (handed_over w) pieces) (All-tail (λ v. v < workers) w ws all)),
    )

deliveries_complete : (next workers : ℕ) (ws : List ℕ) (pieces : List PieceState) → All (λ w. w < workers) ws
    → All (IsDue ws) pieces → IsComplete (run (deliveries ws) (at_rest next workers pieces))
deliveries_complete next workers [] pieces all due = λ k d lt. due_last (get_or pieces k d) (due k d lt)
deliveries_complete next workers (w ∷ ws) pieces all due =
    subst (λ (state : CoreState). IsComplete (run (deliveries ws) state))
    (sym (after_deliver next workers w pieces (All-head (λ v. v < workers) w ws all)))
    (deliveries_complete next workers ws (map (handed_over w) pieces) (All-tail (λ v. v < workers) w ws all)
    (all_after w ws pieces due))

deliveries_keep : (next workers : ℕ) (ws : List ℕ) (pieces : List PieceState) → All (λ w. w < workers) ws
    → length (run (deliveries ws) (at_rest next workers pieces)).pieces ≡ length pieces
deliveries_keep next workers [] pieces all = refl
deliveries_keep next workers (w ∷ ws) pieces all =
    ap (λ (state : CoreState). length (run (deliveries ws) state).pieces)
    (after_deliver next workers w pieces (All-head (λ v. v < workers) w ws all))
    ∙ deliveries_keep next workers ws (map (handed_over w) pieces) (All-tail (λ v. v < workers) w ws all)
    ∙ length-map pieces (handed_over w)

-- ---- both

run_append : (xs ys : List Event) (state : CoreState) → run (xs ++ ys) state ≡ run ys (run xs state)
run_append [] ys state = refl
run_append (x ∷ xs) ys state = run_append xs ys (after state x)

accepted_append : (xs ys : List Event) (state : CoreState) → AreAccepted xs state → AreAccepted ys (run xs state)
    → AreAccepted (xs ++ ys) state
accepted_append [] ys state h k = k
accepted_append (x ∷ xs) ys state h k = (h.0, accepted_append xs ys (after state x) h.1 k)

-- a worker that is among these delivers what it has finished
all_due : (workers : ℕ) (takers deliverers : List ℕ) → All (λ w. w < workers) takers → HasEachWorker workers deliverers
    → All (IsDue deliverers) (map Finished takers ++ [])
all_due workers takers deliverers all each =
    subst (All (IsDue deliverers)) (sym (append-nil (map Finished takers))) due
  where
    due : All (IsDue deliverers) (map Finished takers)
    due k d lt =
        let within : k < length takers = omega (arith, length-map takers Finished) in
        let w : ℕ = get_or takers k 0 in
        let there = each.each (get_or takers k 0) (all k 0 within) in
        subst (IsDue deliverers) (sym (get_or-map Finished takers k 0 d within))
        (list_any_at (λ piece. piece == w) deliverers there.0 w there.1
        (ap (λ v. v == w) there.2 ∙ grind (arith, nat_tests)))

pub any_shares : AnySharesMakeTheWhole
any_shares workers takers deliverers all each =
    let n = length takers in
    let s = start (length takers) workers in
    let finished = shares_finish workers [] takers all in
    let rest_is : run (shares takers ++ deliveries deliverers) s ≡ run (deliveries deliverers)
    (shared workers takers 0) =
    run_append (shares takers) (deliveries deliverers) s ∙ ap (run (deliveries deliverers)) finished in
    let complete : IsComplete (run (shares takers ++ deliveries deliverers) s) =
    subst IsComplete (sym rest_is) (deliveries_complete n workers deliverers (map Finished takers ++ []) each.no_other
    (all_due workers takers deliverers all each)) in
    let long : length (run (shares takers ++ deliveries deliverers) s).pieces ≡ n =
    ap (λ (state : CoreState). length state.pieces) rest_is ∙ deliveries_keep n workers deliverers
    (map Finished takers ++ []) each.no_other
    ∙ ap length (append-nil (map Finished takers)) ∙ length-map takers Finished in
    record {
      accepted = accepted_append (shares takers) (deliveries deliverers) s (shares_accepted workers [] takers all)
          (subst (AreAccepted (deliveries deliverers)) (sym finished)
          (deliveries_accepted n workers deliverers (map Finished takers ++ []) each.no_other));
      complete = complete;
      total = λ merged unit value. ap (merged_over merged unit value)
          (complete_is_all (run (shares takers ++ deliveries deliverers) s) complete ∙ ap (range_with_len 0) long);
    }
