-- Vectors of residues that are handed on.
use Rattle.std.proofs.Common.{◌≡◌, ℕ, ◌<◌, List, length, map, sym, ap, ◌∙◌, arith, subst, ℤ, pos, w32, to_z, of_z}
use Rattle.std.proofs.Common.{FitsSigned}
use Rattle.std.proofs.lemmas.Int.{SFits-int_wrap, to_z-of_z}
use Rattle.std.proofs.lemmas.List.{length-map, get_or-map}
use Rattle.mp_sums.specs.Residues.{item, residue}
use Rattle.mp_scans.specs.Lanes.{AreLanes}

pub handed_item : (v : List ℤ) (t : ℕ) → AreLanes v → t < 32
    → item (map (to_z w32) (map (of_z w32) v)) t ≡ item v t
handed_item v t h lt =
    get_or-map (to_z w32) (map (of_z w32) v) t 0 (pos 0) (omega (arith, lt, h.count, length-map v (of_z w32)))
    ∙ ap (to_z w32) (get_or-map (of_z w32) v t (pos 0) 0 (omega (arith, lt, h.count)))
    ∙ to_z-of_z w32 (item v t) (h.fit t lt)

pub handed_on : (v : List ℤ) → AreLanes v → AreLanes (map (to_z w32) (map (of_z w32) v))
handed_on v h = record {
  count = length-map (map (of_z w32) v) (to_z w32) ∙ length-map v (of_z w32) ∙ h.count;
  fit = λ t lt. subst (FitsSigned w32) (sym (handed_item v t h lt)) (h.fit t lt);
}

-- residues fit
pub residue_lanes : (v : List ℤ) (sums : ℕ → ℕ) → length v ≡ 32
    → ((t : ℕ) → t < 32 → item v t ≡ residue (sums t)) → AreLanes v
residue_lanes v sums count each = record {
  count = count;
  fit = λ t lt. subst (FitsSigned w32) (sym (each t lt)) (SFits-int_wrap w32 _);
}
