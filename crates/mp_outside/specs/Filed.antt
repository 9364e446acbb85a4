-- The files of a shelf in memory.
use Rattle.std.specs.Prelude.{ℕ, refl, List, map as each, Vec}
use Rattle.std.specs.Ordering.{nat_cmp}
use Rattle.std.specs.Cmp.Lexicographic.{slice_cmp}
use Rattle.std.specs.Coded.{Coded, code_by, coded×, coded_list, coded_ℕ}
use Rattle.std.specs.FinMap as map
use Rattle.std.specs.declared.alloc.Global.{Global}

-- each name with the bytes of its file, from the vectors that hold them
abbrev pub filed : List (Vec ℕ Global × Vec ℕ Global) → List (List ℕ × List ℕ)
filed entries = each (λ entry. (entry.0.items, entry.1.items)) entries

-- the files by their names, and how often one was asked for
pub record CalmShelfState : Type 0 where
  pub files : map.FinMap (slice_cmp nat_cmp) (List ℕ)
  pub fetches : ℕ

-- it is stored as its parts
abbrev pub calm_shelf_code : Coded CalmShelfState
calm_shelf_code =
    code_by (map.FinMap (slice_cmp nat_cmp) (List ℕ) × ℕ)
    (coded× (map.code (coded_list coded_ℕ) (coded_list coded_ℕ)) coded_ℕ)
    (λ shelf. (shelf.files, shelf.fetches))
    (λ parts. record { files = parts.0; fetches = parts.1 })
    (λ _. refl)
