-- The values of pieces that mark a place each, as the tests have them.
use Rattle.std.specs.Prelude.{◌≡◌, ℕ, [], ◌∷◌, length}
use Rattle.std.proofs.Common.{refl, ◌∙◌}
use Rattle.std.proofs.lemmas.List.{length-set, length-replicate}
use Rattle.std.proofs.lemmas.List.Elements.{All-cons, All-nil}
use Rattle.mp_nums.specs.declared.nearest.Near.{Near}
use Rattle.mp_partial.specs.Values.{Value, Column, HasColumns, empty_column, offered}

-- window 0, at the piece's number for a distance
abbrev pub mark : ℕ → Near
mark piece = record { dist = record { 0 = piece }; index = 0 }

-- it stands at the place of the piece's number, and nothing at the others
abbrev pub mark_value : ℕ → ℕ → Value
mark_value places piece = offered (empty_column places) piece (mark piece) ∷ []

pub mark_has_columns : (places piece : ℕ) → HasColumns 1 places (mark_value places piece)
mark_has_columns places piece = record {
  columns = refl;
  places = All-cons (λ (column : Column). length column ≡ places) (offered (empty_column places) piece (mark piece)) []
      (length-set (empty_column places) piece _ ∙ length-replicate places _)
      (All-nil (λ (column : Column). length column ≡ places));
}
