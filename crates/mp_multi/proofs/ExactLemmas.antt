-- What is kept of diagonals, and what of one anew.
use Rattle.std.proofs.Common.{◌≡◌, ℕ, ◌+◌, ◌<◌, ◌∙◌, List, [], get_or, set, inl, inr, sym, arith}
use Rattle.std.proofs.Common.{rules, subst, subst₂}
use Rattle.std.specs.Prelude.{Option, None, replicate}
use Rattle.std.proofs.lemmas.Bool.{cases_eq}
use Rattle.std.proofs.lemmas.List.{length-set, length-replicate, get_or-replicate, get_or-set_same, get_or-set_other}
use Rattle.mp_nums.specs.declared.samples.Sample.{Sample}
use Rattle.mp_multi.specs.Exacts.{IsKept, AreKept}
use Rattle.mp_multi.specs.declared.running.Running.{Running}

unknown : (m : ℕ) (channels : List (List Sample)) (behind : ℕ) (running : List Running)
    → IsKept m channels behind None running
unknown m channels behind running = search rules

-- nothing is kept
pub nothing_kept : (m : ℕ) (channels : List (List Sample)) (first : ℕ) (running : List Running)
    → AreKept m channels first (replicate 512 None) (replicate 512 running)
nothing_kept m channels first running = record {
  row_places = length-replicate {A = Option ℕ} 512 None;
  places = length-replicate {A = List Running} 512 running;
  each = λ t lt. subst (λ row. IsKept m channels (first + t) row (get_or (replicate 512 running) t []))
      (sym (get_or-replicate 512 t None None lt))
      (unknown m channels (first + t) (get_or (replicate 512 running) t []));
}

-- of one diagonal another row
pub kept_anew : (m : ℕ) (channels : List (List Sample)) (first t : ℕ) (row : Option ℕ) (new : List Running)
    (rows : List (Option ℕ)) (running : List (List Running)) → t < 512 → AreKept m channels first rows running
    → IsKept m channels (first + t) row new → AreKept m channels first (set rows t row) (set running t new)
kept_anew m channels first t row new rows running lt h here = record {
  row_places = length-set rows t row ∙ h.row_places;
  places = length-set running t new ∙ h.places;
  each = λ q below. elim (cases_eq q t) [
    | inl same ↦ subst (λ n. IsKept m channels (first + n) (get_or (set rows t row) n None)
        (get_or (set running t new) n [])) (sym same)
        (subst₂ (IsKept m channels (first + t))
        (sym (get_or-set_same rows t row None (omega (arith, lt, h.row_places))))
        (sym (get_or-set_same running t new [] (omega (arith, lt, h.places)))) here)
    | inr other ↦ subst₂ (IsKept m channels (first + q)) (sym (get_or-set_other rows t q row None other))
        (sym (get_or-set_other running t q new [] other)) (h.each q below)
  ];
}

pub kept_behind : (m : ℕ) (channels : List (List Sample)) (behind behind' : ℕ) (row : Option ℕ)
    (running : List Running) → behind ≡ behind' → IsKept m channels behind row running
    → IsKept m channels behind' row running
kept_behind m channels behind behind' row running e h = subst (λ n. IsKept m channels n row running) e h
