-- A board that grows to as many windows as a column has, and is then changed to what the column names.
use Rattle.std.proofs.Common.{◌≡◌, ℕ, ◌+◌, ◌<◌, ◌≤◌, List, length, get_or, set, length-set, Option, None, Some, IfSome}
use Rattle.std.proofs.Common.{◌≢◌, sym, ap, ◌∙◌, arith, ⊎_elim, get_or-set_same, get_or-set_other}
use Rattle.std.specs.Prelude.{slice_get}
use Rattle.std.proofs.lemmas.Bool.{cases_eq}
use Rattle.std.proofs.lemmas.List.{ext_get_or, length-map, get_or-map}
use Rattle.std.proofs.lemmas.Option.{slice_get-get_or}
use Rattle.mp_nums.specs.declared.nearest.Near.{Near}
use Rattle.mp_results.specs.Arcs.{index_of, indices_of, NameWithin}

pub record AreGrown (items : List (Option ℕ)) (spare grown windows : ℕ) : Type 0 where
  pub as_long : length items ≡ grown
  pub room : windows ≤ grown + spare

-- so many of the first are as the column says
pub record AreChanged (column : List (Option Near)) (items : List (Option ℕ)) (place : ℕ) : Type 0 where
  pub as_long : length items ≡ length column
  pub same : (k : ℕ) → k < place → get_or items k None ≡ get_or (indices_of column) k None

named_at : (x : Option ℕ) (indices : List (Option ℕ)) (k : ℕ) → NameWithin indices → slice_get indices k ≡ Some x
    → IfSome x (λ j. j < length indices)
named_at None indices k named is = tt
named_at (Some j) indices k named is = named k j is

module _ (column : List (Option Near)) (k : ℕ) (inside : k < length column) where
  index_there : get_or (indices_of column) k None ≡ index_of (get_or column k None)
  index_there = get_or-map index_of column k None None inside

  -- what a column of a profile names is one of its windows
  pub names_window : NameWithin (indices_of column) → IfSome (index_of (get_or column k None)) (λ j. j < length column)
  names_window named =
      let within : k < length (indices_of column) = omega (arith, inside, length-map column index_of) in
      let there : slice_get (indices_of column) k ≡ Some (index_of (get_or column k None)) =
      slice_get-get_or (indices_of column) k None within ∙ ap Some index_there in
      rw length-map at (named_at (index_of (get_or column k None)) (indices_of column) k named there)

pub AreChanged-next : (column : List (Option Near)) (items : List (Option ℕ)) (place : ℕ) → place < length column
    → AreChanged column items place
    → AreChanged column (set items place (index_of (get_or column place None))) (place + 1)
AreChanged-next column items place inside kept =
    let new = index_of (get_or column place None) in
    record {
      as_long = length-set items place new ∙ kept.as_long;
      same = λ k before. ⊎_elim
          (λ (e : k ≡ place).
          ap (λ n. get_or (set items place new) n None) e
          ∙ get_or-set_same items place new None (omega (arith, inside, kept.as_long))
          ∙ sym (index_there column place inside)
          ∙ ap (λ n. get_or (indices_of column) n None) (sym e))
          (λ (ne : k ≢ place). get_or-set_other items place k new None ne ∙ kept.same k (omega (arith, before, ne)))
          (cases_eq k place);
    }

pub AreChanged-all : (column : List (Option Near)) (items : List (Option ℕ)) (place : ℕ) → length column ≤ place
    → AreChanged column items place → items ≡ indices_of column
AreChanged-all column items place all kept =
    ext_get_or None items (indices_of column) (kept.as_long ∙ sym (length-map column index_of))
    (λ k inside. kept.same k (omega (arith, inside, all, kept.as_long)))
