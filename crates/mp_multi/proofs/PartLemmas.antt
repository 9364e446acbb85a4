-- Slots in which nothing was found.
use Rattle.std.proofs.Common.{◌≡◌, ℕ, ◌+◌, ◌++◌, List, [], ◌∷◌, length, ap, sym, subst, ◌∙◌, arith}
use Rattle.std.specs.Prelude.{All, Option}
use Rattle.std.proofs.lemmas.List.{length-append}
use Rattle.std.proofs.lemmas.List.Elements.{All-append}
use Rattle.mp_nums.specs.declared.nearest.Near.{Near}
use Rattle.mp_nums.specs.Listed.{Listed}
use Rattle.mp_partial.specs.Values.{empty_columns}
use Rattle.mp_multi.specs.Sharing.{AreUnfound}

-- slots of some workers and those of others
pub unfound_together : (some others windows : ℕ) (low high both : List (Listed (Option Near)))
    → AreUnfound some windows low → AreUnfound others windows high → both ≡ low ++ high
    → AreUnfound (some + others) windows both
unfound_together some others windows low high both first second e = record {
  count = ap length e ∙ length-append low high ∙ omega (arith, first.count, second.count);
  each = subst (All (λ (slots : Listed (Option Near)).
      (length slots.items ≡ windows) × (slots.items ∷ [] ≡ empty_columns 1 windows))) (sym e)
      (All-append (λ (slots : Listed (Option Near)).
      (length slots.items ≡ windows) × (slots.items ∷ [] ≡ empty_columns 1 windows)) low high first.each second.each);
}
