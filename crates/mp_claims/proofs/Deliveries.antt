-- What a delivery makes of the pieces.
use Rattle.std.proofs.Common.{◌≡◌, ℕ, ◌<◌, ◌≤◌, List, length, get_or, map, sym, ◌∙◌, arith}
use Rattle.std.proofs.lemmas.List.{ext_get_or, length-map}
use Rattle.std.proofs.lemmas.List.{get_or-map}
use Rattle.mp_claims.specs.declared.states.PieceState.{PieceState}
use Rattle.mp_claims.specs.declared.states.PieceState.TheVariants.{Unclaimed}
use Rattle.mp_claims.specs.Cores.{handed_over}

-- the pieces before i are handed over, and the others are as before
pub record AreHandedBelow (w : ℕ) (old : List PieceState) (i : ℕ) (new : List PieceState) : Type 0 where
  pub places : length new ≡ length old
  pub before : (k : ℕ) → k < i → get_or new k Unclaimed ≡ handed_over w (get_or old k Unclaimed)
  pub from : (k : ℕ) → i ≤ k → get_or new k Unclaimed ≡ get_or old k Unclaimed

pub handed_when_all : (w : ℕ) (old new : List PieceState) (i : ℕ) → length old ≤ i → AreHandedBelow w old i new
    → new ≡ map (handed_over w) old
handed_when_all w old new i all h =
    ext_get_or Unclaimed new (map (handed_over w) old) (h.places ∙ sym (length-map old (handed_over w)))
    (λ k lt. h.before k (omega (arith, h.places))
    ∙ sym (get_or-map (handed_over w) old k Unclaimed Unclaimed (omega (arith, h.places))))
