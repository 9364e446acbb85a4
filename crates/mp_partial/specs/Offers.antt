-- What an offer to a column is.
use Rattle.std.specs.Prelude.{◌≡◌, ℕ, ◌<◌, length, Option, None, Some}
use Rattle.std.proofs.Common.{arith, sym, ap, ◌∙◌, inl, inr, get_or}
use Rattle.std.proofs.lemmas.Bool.{cases_eq}
use Rattle.std.proofs.lemmas.List.{ext_get_or, length-set, length-replicate, get_or-set_same, get_or-set_other}
use Rattle.std.proofs.lemmas.List.{get_or-replicate}
use Rattle.std.proofs.lemmas.Simd.{length-zip2, get_or-zip2}
use Rattle.mp_nums.specs.declared.nearest.Near.{Near}
use Rattle.mp_nums.specs.Near.{nearer_of}
use Rattle.mp_nums.specs.NearLaws.{nearer_with_none}
use Rattle.mp_partial.specs.Values.{Column, empty_column, merged_column, offered}

-- it is the merge with a column in which nothing but this was found
abbrev pub OffersAreMerges : Type 0
OffersAreMerges = (column : Column) (i : ℕ) (found : Near) → i < length column
    → offered column i found ≡ merged_column column (offered (empty_column (length column)) i found)

-- nothing else stands in that column
found_alone : (size i k : ℕ) (found : Near) → i < size → k < size
    → (k ≡ i → get_or (offered (empty_column size) i found) k None ≡ Some found)
    × ((k ≡ i → ⊥) → get_or (offered (empty_column size) i found) k None ≡ None)
found_alone size i k found lt within = (
  (λ e. ap (λ j. get_or (offered (empty_column size) i found) j None) e
      ∙ get_or-set_same (empty_column size) i (nearer_of (get_or (empty_column size) i None) (Some found)) None
      (omega (arith, length-replicate {A = Option Near} size None))
      ∙ ap (λ x. nearer_of x (Some found)) (get_or-replicate size i None None lt)),
  (λ ne. get_or-set_other (empty_column size) i k (nearer_of (get_or (empty_column size) i None) (Some found)) None ne
      ∙ get_or-replicate size k None None within),
)

pub offers_are_merges : OffersAreMerges
offers_are_merges column i found lt =
    ext_get_or None (offered column i found) (merged_column column alone) long
    (λ k within. elim (cases_eq k i) [
      | inl e ↦ ap (λ j. get_or (offered column i found) j None) e
          ∙ get_or-set_same column i (nearer_of (get_or column i None) (Some found)) None lt
          ∙ ap (nearer_of (get_or column i None))
          (sym ((found_alone (length column) i k found lt (inside k within)).0 e))
          ∙ ap (λ j. nearer_of (get_or column j None) (get_or alone k None)) (sym e)
          ∙ sym (merged_at k (inside k within))
      | inr ne ↦ get_or-set_other column i k (nearer_of (get_or column i None) (Some found)) None ne
          ∙ sym (nearer_with_none (get_or column k None)).1
          ∙ ap (nearer_of (get_or column k None))
          (sym ((found_alone (length column) i k found lt (inside k within)).1 ne))
          ∙ sym (merged_at k (inside k within))
    ])
  where
    alone : Column
    alone = offered (empty_column (length column)) i found

    same_length : length (offered (empty_column (length column)) i found) ≡ length column
    same_length = length-set (empty_column (length column)) i
        (nearer_of (get_or (empty_column (length column)) i None) (Some found))
        ∙ length-replicate (length column) None

    long : length (offered column i found) ≡ length
        (merged_column column (offered (empty_column (length column)) i found))
    long = length-set column i (nearer_of (get_or column i None) (Some found))
        ∙ sym (length-zip2 nearer_of column (offered (empty_column (length column)) i found) (sym same_length))

    inside : (k : ℕ) → k < length (offered column i found) → k < length column
    inside k within = omega (arith, within, length-set column i (nearer_of (get_or column i None) (Some found)))

    merged_at : (k : ℕ) → k < length column
        → get_or (merged_column column (offered (empty_column (length column)) i found)) k None
        ≡ nearer_of (get_or column k None) (get_or (offered (empty_column (length column)) i found) k None)
    merged_at k within = get_or-zip2 nearer_of column (offered (empty_column (length column)) i found) k None None
        None within (omega (arith, same_length))
