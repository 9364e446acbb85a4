-- Each piece is in one place at a time, at the start and after every event.
use Rattle.std.proofs.Common.{◌≡◌, ◌≢◌, ℕ, zero, suc, ◌+◌, ◌<◌, ◌≤◌, List, [], ◌∷◌, length, set, map, replicate, refl}
use Rattle.std.proofs.Common.{sym, ap, ◌∙◌, arith}
use Rattle.std.proofs.Common.{Bool, true, false, ◌⊎◌, inl, inr, ◌↔◌, subst}
use Rattle.std.specs.Prelude.{Option, Some, None, slice_get, count_by, is_none, ◌==◌, nat_lt, if◌then◌else◌}
use Rattle.std.proofs.lemmas.Bool.Decides.{nat_tests}
use Rattle.std.proofs.lemmas.Bool.{cases_eq}
use Rattle.std.proofs.lemmas.List.{length-set, length-map, length-replicate}
use Rattle.std.specs.Option.{option_map}
use Rattle.std.proofs.lemmas.Option.{slice_get_within, slice_get-map, get_or_from_slice_get}
use Rattle.std.proofs.lemmas.List.Sums.{sum_by-set}
use Rattle.mp_claims.specs.declared.events.Event.{Event}
use Rattle.mp_claims.specs.declared.events.Event.TheVariants.{Claim, Finish, Deliver}
use Rattle.mp_claims.specs.declared.states.WorkerState.{WorkerState}
use Rattle.mp_claims.specs.declared.states.WorkerState.TheVariants.{Free, Holds, Spent}
use Rattle.mp_claims.specs.declared.states.PieceState.{PieceState}
use Rattle.mp_claims.specs.declared.states.PieceState.TheVariants.{Unclaimed, Held, Finished, Delivered}
use Rattle.mp_claims.specs.Cores.{CoreState, EachOnce, start, after, handed_over, held_by, claimed_by, finished_by}
use Rattle.mp_claims.specs.Cores.{delivered_by}
use Rattle.mp_claims.specs.Cores.{claim_refusal, finish_refusal, deliver_refusal}
use Rattle.mp_claims.specs.Boards.{IsSound, is_spent}

-- ---- lists

pub get_set_same : {A : Type 0} (xs : List A) (i : ℕ) (y : A) → i < length xs → slice_get (set xs i y) i ≡ Some y
get_set_same [] i y lt = absurd (omega arith)
get_set_same (x ∷ xs) zero y lt = refl
get_set_same (x ∷ xs) (suc i) y lt = get_set_same xs i y (omega arith)

pub get_set_other : {A : Type 0} (xs : List A) (i j : ℕ) (y : A) → j ≢ i → slice_get (set xs i y) j ≡ slice_get xs j
get_set_other [] i j y ne = refl
get_set_other (x ∷ xs) zero zero y ne = absurd (ne refl)
get_set_other (x ∷ xs) zero (suc j) y ne = refl
get_set_other (x ∷ xs) (suc i) zero y ne = refl
get_set_other (x ∷ xs) (suc i) (suc j) y ne = get_set_other xs i j y (λ e. ne (ap suc e))

-- what stands at a place of a list that was written to
set_cases : {A : Type 0} (xs : List A) (i j : ℕ) (y z : A) → i < length xs → slice_get (set xs i y) j ≡ Some z
    → ((j ≡ i) × (y ≡ z)) ⊎ ((j ≢ i) × (slice_get xs j ≡ Some z))
set_cases xs i j y z lt h = elim (cases_eq j i) [
  | inl e ↦ inl (e, some_same y z (sym (get_set_same xs i y lt) ∙ ap (slice_get (set xs i y)) (sym e) ∙ h))
  | inr ne ↦ inr (ne, sym (get_set_other xs i j y ne) ∙ h)
]
  where
    some_same : {A : Type 0} (y z : A) → Some y ≡ Some z → y ≡ z
    some_same y z e = cc

set_here : {A : Type 0} (xs : List A) (i j : ℕ) (y z : A) → i < length xs → j ≡ i → y ≡ z
    → slice_get (set xs i y) j ≡ Some z
set_here xs i j y z lt e f = ap (slice_get (set xs i y)) e ∙ get_set_same xs i y lt ∙ ap Some f

set_there : {A : Type 0} (xs : List A) (i j : ℕ) (y z : A) → j ≢ i → slice_get xs j ≡ Some z
    → slice_get (set xs i y) j ≡ Some z
set_there xs i j y z ne h = get_set_other xs i j y ne ∙ h

-- ---- events

abbrev state_of : ℕ → List WorkerState → List PieceState → CoreState
state_of next workers pieces = record { next = next; workers = workers; pieces = pieces }

claim_once : (next w : ℕ) (workers : List WorkerState) (pieces : List PieceState)
    → EachOnce (state_of next workers pieces)
    → slice_get workers w ≡ Some Free → next < length pieces
    → EachOnce (state_of (next + 1) (set workers w (Holds next)) (set pieces next (Held w)))
claim_once next w workers pieces once free some =
    let there : w < length workers = slice_get_within workers w Free free in
    let unclaimed : slice_get pieces next ≡ Some Unclaimed = (once.unclaimed next some).1 (omega arith) in
    record {
      unclaimed = λ k lt. (
        (λ h. elim (set_cases pieces next k (Held w) Unclaimed some h) [
          | inl e ↦ absurd (let f = e.1 in cc)
          | inr n ↦ let ne = n.0 in let le = (once.unclaimed k (slice_get_within pieces k Unclaimed n.1)).0 n.1 in
              omega arith
        ]),
        (λ le. set_there pieces next k (Held w) Unclaimed (omega arith)
            ((once.unclaimed k (omega (arith, length-set pieces next (Held w)))).1 (omega arith))),
      );
      held = λ k v. (
        (λ h. elim (set_cases pieces next k (Held w) (Held v) some h) [
          | inl e ↦ set_here workers w v (Holds next) (Holds k) there (let f = e.1 in cc) (ap Holds (sym e.0))
          | inr n ↦ set_there workers w v (Holds next) (Holds k) (λ e. let p = (once.held k v).0 n.1 in cc)
              ((once.held k v).0 n.1)
        ]),
        (λ h. elim (set_cases workers w v (Holds next) (Holds k) there h) [
          | inl e ↦ set_here pieces next k (Held w) (Held v) some (let f = e.1 in cc) (ap Held (sym e.0))
          | inr n ↦ set_there pieces next k (Held w) (Held v) (λ e. let p = (once.held k v).1 n.1 in cc)
              ((once.held k v).1 n.1)
        ]),
      );
      finished = λ k v h. elim (set_cases pieces next k (Held w) (Finished v) some h) [
        | inl e ↦ absurd (let f = e.1 in cc)
        | inr n ↦ omega (arith, once.finished k v n.1, length-set workers w (Holds next))
      ];
    }

spend_once : (next w : ℕ) (workers : List WorkerState) (pieces : List PieceState)
    → EachOnce (state_of next workers pieces)
    → slice_get workers w ≡ Some Free → length pieces ≤ next
    → EachOnce (state_of (next + 1) (set workers w Spent) pieces)
spend_once next w workers pieces once free none =
    let there : w < length workers = slice_get_within workers w Free free in
    record {
      unclaimed = λ k lt. (
        (λ h. let le = (once.unclaimed k lt).0 h in absurd (omega arith)),
        (λ le. (once.unclaimed k lt).1 (omega arith)),
      );
      held = λ k v. (
        (λ h. set_there workers w v Spent (Holds k) (λ e. let p = (once.held k v).0 h in cc) ((once.held k v).0 h)),
        (λ h. elim (set_cases workers w v Spent (Holds k) there h) [
          | inl e ↦ absurd (let f = e.1 in cc)
          | inr n ↦ (once.held k v).1 n.1
        ]),
      );
      finished = λ k v h. omega (arith, once.finished k v h, length-set workers w Spent);
    }

finish_once : (next w k₀ : ℕ) (workers : List WorkerState) (pieces : List PieceState)
    → EachOnce (state_of next workers pieces) → slice_get workers w ≡ Some (Holds k₀)
    → EachOnce (state_of next (set workers w Free) (set pieces k₀ (Finished w)))
finish_once next w k₀ workers pieces once holds =
    let there : w < length workers = slice_get_within workers w (Holds k₀) holds in
    let held : slice_get pieces k₀ ≡ Some (Held w) = (once.held k₀ w).1 holds in
    let within : k₀ < length pieces = slice_get_within pieces k₀ (Held w) held in
    record {
      unclaimed = λ k lt. (
        (λ h. elim (set_cases pieces k₀ k (Finished w) Unclaimed within h) [
          | inl e ↦ absurd (let f = e.1 in cc)
          | inr n ↦ (once.unclaimed k (slice_get_within pieces k Unclaimed n.1)).0 n.1
        ]),
        (λ le. let h = (once.unclaimed k (omega (arith, length-set pieces k₀ (Finished w)))).1 le in
            set_there pieces k₀ k (Finished w) Unclaimed (λ e. let p = held in cc) h),
      );
      held = λ k v. (
        (λ h. elim (set_cases pieces k₀ k (Finished w) (Held v) within h) [
          | inl e ↦ absurd (let f = e.1 in cc)
          | inr n ↦ let p = (once.held k v).0 n.1 in let ne = n.0 in
              set_there workers w v Free (Holds k) (λ e. ne (let q = holds in cc)) p
        ]),
        (λ h. elim (set_cases workers w v Free (Holds k) there h) [
          | inl e ↦ absurd (let f = e.1 in cc)
          | inr n ↦ let p = (once.held k v).1 n.1 in let ne = n.0 in
              set_there pieces k₀ k (Finished w) (Held v) (λ e. ne (let q = held in cc)) p
        ]),
      );
      finished = λ k v h. elim (set_cases pieces k₀ k (Finished w) (Finished v) within h) [
        | inl e ↦ let same : w ≡ v = (let f = e.1 in cc) in omega (arith, there, length-set workers w Free)
        | inr n ↦ omega (arith, once.finished k v n.1, length-set workers w Free)
      ];
    }

-- ---- a delivery

handed_unclaimed : (w : ℕ) (piece : Option PieceState)
    → (option_map (handed_over w) piece ≡ Some Unclaimed) ↔ (piece ≡ Some Unclaimed)
handed_unclaimed w None = ((λ h. h), (λ h. h))
handed_unclaimed w (Some Unclaimed) = ((λ h. h), (λ h. h))
handed_unclaimed w (Some (Held v)) = ((λ h. h), (λ h. h))
handed_unclaimed w (Some (Finished v)) = go (v == w)
  where
    go : (b : Bool) → (Some (if b then Delivered else Finished v) ≡ Some Unclaimed) ↔
        (Some (Finished v) ≡ Some Unclaimed)
    go true = ((λ h. absurd (cc)), (λ h. absurd (cc)))
    go false = ((λ h. h), (λ h. h))
handed_unclaimed w (Some Delivered) = ((λ h. h), (λ h. h))

handed_held : (w v : ℕ) (piece : Option PieceState)
    → (option_map (handed_over w) piece ≡ Some (Held v)) ↔ (piece ≡ Some (Held v))
handed_held w v None = ((λ h. h), (λ h. h))
handed_held w v (Some Unclaimed) = ((λ h. h), (λ h. h))
handed_held w v (Some (Held u)) = ((λ h. h), (λ h. h))
handed_held w v (Some (Finished u)) = go (u == w)
  where
    go : (b : Bool) → (Some (if b then Delivered else Finished u) ≡ Some (Held v)) ↔ (Some (Finished u) ≡ Some (Held v))
    go true = ((λ h. absurd (cc)), (λ h. absurd (cc)))
    go false = ((λ h. h), (λ h. h))
handed_held w v (Some Delivered) = ((λ h. h), (λ h. h))

handed_finished : (w v : ℕ) (piece : Option PieceState)
    → option_map (handed_over w) piece ≡ Some (Finished v) → piece ≡ Some (Finished v)
handed_finished w v None h = h
handed_finished w v (Some Unclaimed) h = h
handed_finished w v (Some (Held u)) h = h
handed_finished w v (Some (Finished u)) h = go (u == w) h
  where
    go : (b : Bool) → Some (if b then Delivered else Finished u) ≡ Some (Finished v)
        → Some (Finished u) ≡ Some (Finished v)
    go true h = absurd (cc)
    go false h = h
handed_finished w v (Some Delivered) h = h

deliver_once : (w : ℕ) (state : CoreState) → EachOnce state → EachOnce (delivered_by w state)
deliver_once w state once =
    let at = slice_get-map (handed_over w) state.pieces in
    let long : length (map (handed_over w) state.pieces) ≡ length state.pieces = length-map state.pieces
    (handed_over w) in
    record {
      unclaimed = λ k lt. let old = once.unclaimed k (omega arith) in
          let here = handed_unclaimed w (slice_get state.pieces k) in (
            (λ h. old.0 (here.0 (sym (at k) ∙ h))),
            (λ le. at k ∙ here.1 (old.1 le)),
          );
      held = λ k v. let old = once.held k v in let here = handed_held w v (slice_get state.pieces k) in (
        (λ h. old.0 (here.0 (sym (at k) ∙ h))),
        (λ h. at k ∙ here.1 (old.1 h)),
      );
      finished = λ k v h. once.finished k v (handed_finished w v (slice_get state.pieces k) (sym (at k) ∙ h));
    }

-- ---- the start

replicated : {A : Type 0} (n k : ℕ) (x y : A) → slice_get (replicate n x) k ≡ Some y → x ≡ y
replicated zero k x y h = absurd (cc)
replicated (suc n) zero x y h = cc
replicated (suc n) (suc k) x y h = replicated n k x y h

start_once : (pieces workers : ℕ) → EachOnce (start pieces workers)
start_once pieces workers = record {
  unclaimed = λ k lt. (
    (λ h. omega arith),
    (λ le. get_replicate pieces k Unclaimed (omega (arith, length-replicate pieces Unclaimed))),
  );
  held = λ k w. (
    (λ h. absurd (let e = replicated pieces k Unclaimed (Held w) h in cc)),
    (λ h. absurd (let e = replicated workers w Free (Holds k) h in cc)),
  );
  finished = λ k w h. absurd (let e = replicated pieces k Unclaimed (Finished w) h in cc);
}
  where
    get_replicate : {A : Type 0} (n k : ℕ) (x : A) → k < n → slice_get (replicate n x) k ≡ Some x
    get_replicate zero k x lt = absurd (omega arith)
    get_replicate (suc n) zero x lt = refl
    get_replicate (suc n) (suc k) x lt = get_replicate n k x (omega arith)

-- ---- the next number

spent_changes : (workers : List WorkerState) (w : ℕ) (old new : WorkerState) → slice_get workers w ≡ Some old
    → count_by is_spent (set workers w new) + (if is_spent old then 1 else 0)
    ≡ count_by is_spent workers + (if is_spent new then 1 else 0)
spent_changes workers w old new h =
    ap (λ x. count_by is_spent (set workers w new) + (if is_spent x then 1 else 0))
    (sym (get_or_from_slice_get workers w old old h))
    ∙ sum_by-set (λ x. if is_spent x then 1 else 0) workers w new old (slice_get_within workers w old h)

pub claim_sound : (next w : ℕ) (workers : List WorkerState) (pieces : List PieceState)
    → IsSound (state_of next workers pieces) → slice_get workers w ≡ Some Free → next < length pieces
    → IsSound (state_of (next + 1) (set workers w (Holds next)) (set pieces next (Held w)))
claim_sound next w workers pieces sound free some = record {
  once = claim_once next w workers pieces sound.once free some;
  next = omega (arith, length-set pieces next (Held w));
}

pub spend_sound : (next w : ℕ) (workers : List WorkerState) (pieces : List PieceState)
    → IsSound (state_of next workers pieces) → slice_get workers w ≡ Some Free → length pieces ≤ next
    → IsSound (state_of (next + 1) (set workers w Spent) pieces)
spend_sound next w workers pieces sound free none = record {
  once = spend_once next w workers pieces sound.once free none;
  next = let n = sound.next in omega (arith, spent_changes workers w Free Spent free);
}

pub finish_sound : (w k : ℕ) (state : CoreState) → IsSound state → slice_get state.workers w ≡ Some (Holds k)
    → IsSound (finished_by w (Some k) state)
finish_sound w k state sound holds = record {
  once = finish_once state.next w k state.workers state.pieces sound.once holds;
  next = let n = sound.next in
      omega (arith, spent_changes state.workers w (Holds k) Free holds, length-set state.pieces k (Finished w));
}

pub deliver_sound : (w : ℕ) (state : CoreState) → IsSound state → IsSound (delivered_by w state)
deliver_sound w state sound = record {
  once = deliver_once w state sound.once;
  next = let n = sound.next in omega (arith, length-map state.pieces (handed_over w));
}

-- ---- every event

pub start_sound : (pieces workers : ℕ) → IsSound (start pieces workers)
start_sound pieces workers = record { once = start_once pieces workers; next = omega arith }

pub event_sound : (state : CoreState) (event : Event) → IsSound state → IsSound (after state event)
event_sound state (Claim w) sound = go (slice_get state.workers w) refl
  where
    go : (o : Option WorkerState) → slice_get state.workers w ≡ o
        → IsSound (if is_none (claim_refusal o) then claimed_by w state else state)
    go None e = sound
    go (Some Free) e = given (nat_lt state.next (length state.pieces)) refl
      where
        P : Bool → Type 0
        P b = IsSound (if b then state_of (state.next + 1) (set state.workers w (Holds state.next))
            (set state.pieces state.next (Held w))
            else state_of (state.next + 1) (set state.workers w Spent) state.pieces)

        given : (b : Bool) → nat_lt state.next (length state.pieces) ≡ b → IsSound (claimed_by w state)
        given true is = subst P (sym is)
            (claim_sound state.next w state.workers state.pieces sound e (grind (arith, nat_tests)))
        given false is = subst P (sym is)
            (spend_sound state.next w state.workers state.pieces sound e (grind (arith, nat_tests)))
    go (Some (Holds k)) e = sound
    go (Some Spent) e = sound
event_sound state (Finish w) sound = go (slice_get state.workers w) refl
  where
    go : (o : Option WorkerState) → slice_get state.workers w ≡ o
        → IsSound (if is_none (finish_refusal o) then finished_by w (held_by o) state else state)
    go None e = sound
    go (Some Free) e = sound
    go (Some (Holds k)) e = finish_sound w k state sound e
    go (Some Spent) e = sound
event_sound state (Deliver w) sound = go (slice_get state.workers w) refl
  where
    go : (o : Option WorkerState) → slice_get state.workers w ≡ o
        → IsSound (if is_none (deliver_refusal o) then delivered_by w state else state)
    go None e = sound
    go (Some Free) e = deliver_sound w state sound
    go (Some (Holds k)) e = sound
    go (Some Spent) e = deliver_sound w state sound
