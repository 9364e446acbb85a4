-- What becomes of the workers' partials, their sizes and their values.
use Rattle.std.proofs.Common.{◌≡◌, ℕ, ◌<◌, List, [], length, get_or, set, map, refl, sym, ap, ◌∙◌, subst, inl, inr}
use Rattle.std.proofs.Common.{arith}
use Rattle.std.specs.Prelude.{All, Some, None, Option, slice_get}
use Rattle.std.proofs.lemmas.Bool.{cases_eq}
use Rattle.std.proofs.lemmas.List.{length-set, length-map, get_or-map, get_or-set_same, get_or-set_other, map-set}
use Rattle.std.proofs.lemmas.List.{set-get_or}
use Rattle.std.proofs.lemmas.Option.{slice_get_within}
use Rattle.mp_partial.specs.Values.{Value}
use Rattle.mp_claims.specs.declared.states.WorkerState.{WorkerState}
use Rattle.mp_claims.specs.declared.states.WorkerState.TheVariants.{Holds}
use Rattle.mp_claims.specs.Cores.{deliver_refusal}

-- ---- any items

set_each : {X : Type 0} (P : X → Type 0) (xs : List X) (i : ℕ) (x : X) → All P xs → P x → All P (set xs i x)
set_each P xs i x all px k d lt = elim (cases_eq k i) [
  | inl e ↦ subst (λ y. P y)
      (sym (ap (λ j. get_or (set xs i x) j d) e ∙ get_or-set_same xs i x d (omega (arith, length-set xs i x, e)))) px
  | inr ne ↦ subst (λ y. P y) (sym (get_or-set_other xs i k x d ne)) (all k d (omega (arith, length-set xs i x)))
]

-- what is read at a place is what is mapped there
mapped_at : {X Y : Type 0} (f : X → Y) (xs : List X) (i : ℕ) (read : X) (d : Y) → i < length xs
    → read ≡ get_or xs i read
    → get_or (map f xs) i d ≡ f read
mapped_at f xs i read d lt at = get_or-map f xs i read d lt ∙ ap f (sym at)

-- ---- parts

-- a part that is put back with the room that it had
pub rooms_kept : {X : Type 0} (room_of : X → ℕ) (parts : List X) (w : ℕ) (read new : X) → w < length parts
    → read ≡ get_or parts w read → room_of new ≡ room_of read → map room_of (set parts w new) ≡ map room_of parts
rooms_kept room_of parts w read new lt at same =
    map-set room_of parts w new
    ∙ ap (set (map room_of parts) w) (same ∙ sym (mapped_at room_of parts w read (room_of read) lt at))
    ∙ set-get_or (map room_of parts) w (room_of read)

pub size_at : {X : Type 0} (size_of : X → ℕ) (parts : List X) (w size : ℕ) (read : X)
    → All (λ n. n ≡ size) (map size_of parts) → w < length parts → read ≡ get_or parts w read → size_of read ≡ size
size_at size_of parts w size read all lt at =
    sym (mapped_at size_of parts w read (size_of read) lt at)
    ∙ all w (size_of read) (omega (arith, length-map parts size_of))

pub sizes_kept : {X : Type 0} (size_of : X → ℕ) (parts : List X) (w size : ℕ) (new : X)
    → All (λ n. n ≡ size) (map size_of parts) → size_of new ≡ size → All (λ n. n ≡ size) (map size_of (set parts w new))
sizes_kept size_of parts w size new all is =
    subst (λ ns. All (λ n. n ≡ size) ns) (sym (map-set size_of parts w new))
    (set_each (λ n. n ≡ size) (map size_of parts) w (size_of new) all is)

pub count_kept : {X : Type 0} (size_of : X → ℕ) (parts : List X) (w : ℕ) (new : X)
    → length (map size_of (set parts w new)) ≡ length (map size_of parts)
count_kept size_of parts w new =
    length-map (set parts w new) size_of ∙ length-set parts w new ∙ sym (length-map parts size_of)

pub values_set : {X : Type 0} (value : X → Value) (merged : Value → Value → Value) (parts : List X) (w : ℕ)
    (read new : X) (piece : Value)
    → w < length parts → read ≡ get_or parts w read → value new ≡ merged (value read) piece
    → map value (set parts w new) ≡ set (map value parts) w (merged (get_or (map value parts) w []) piece)
values_set value merged parts w read new piece lt at is =
    map-set value parts w new
    ∙ ap (set (map value parts) w) (is ∙ ap (λ v. merged v piece) (sym (mapped_at value parts w read [] lt at)))

pub value_at : {X : Type 0} (value : X → Value) (parts : List X) (w : ℕ) (read : X)
    → w < length parts → read ≡ get_or parts w read → value read ≡ get_or (map value parts) w []
value_at value parts w read lt at = sym (mapped_at value parts w read [] lt at)

-- ---- workers

-- a worker that holds a piece has a partial
pub holder_has_partial : {X : Type 0} (size_of : X → ℕ) (parts : List X) (workers : List WorkerState) (w k : ℕ)
    → length (map size_of parts) ≡ length workers → slice_get workers w ≡ Some (Holds k) → w < length parts
holder_has_partial size_of parts workers w k each holds =
    omega (arith, each, length-map parts size_of, slice_get_within workers w (Holds k) holds)

-- so has one whose delivery isn't refused
pub deliverer_is_worker : (workers : List WorkerState) (w : ℕ) → deliver_refusal (slice_get workers w) ≡ None
    → w < length workers
deliverer_is_worker workers w fine = go (slice_get workers w) refl fine
  where
    go : (worker : Option WorkerState) → slice_get workers w ≡ worker → deliver_refusal worker ≡ None
        → w < length workers
    go None e h = absurd (cc)
    go (Some worker) e h = slice_get_within workers w worker e

pub deliverer_has_partial : {X : Type 0} (size_of : X → ℕ) (parts : List X) (workers : List WorkerState) (w : ℕ)
    → length (map size_of parts) ≡ length workers → deliver_refusal (slice_get workers w) ≡ None → w < length parts
deliverer_has_partial size_of parts workers w each fine =
    omega (arith, each, length-map parts size_of, deliverer_is_worker workers w fine)

-- a worker holds one piece
pub same_piece : (workers : List WorkerState) (w j k : ℕ) → slice_get workers w ≡ Some (Holds j)
    → slice_get workers w ≡ Some (Holds k) → j ≡ k
same_piece workers w j k e f = cc
