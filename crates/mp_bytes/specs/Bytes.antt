-- Texts are lists of bytes.
use Rattle.std.specs.Prelude.{ℕ, ◌==◌, ◌||◌, Bool, true, false, nat_eq, List, [], ◌∷◌}
use Rattle.std.specs.Cmp.Lexicographic.{pointwise}

abbrev pub tab : ℕ
tab = 9

-- LF
abbrev pub line_feed : ℕ
line_feed = 10

-- CR
abbrev pub carriage_return : ℕ
carriage_return = 13

abbrev pub space : ℕ
space = 32

-- #
abbrev pub number_sign : ℕ
number_sign = 35

abbrev pub comma : ℕ
comma = 44

-- the point of a number
abbrev pub point : ℕ
point = 46

-- a space or a tab
abbrev pub is_blank : ℕ → Bool
is_blank b = b == space || b == tab

-- the texts are the same
abbrev pub same_text : List ℕ → List ℕ → Bool
same_text xs ys = pointwise nat_eq xs ys

abbrev pub is_empty : List ℕ → Bool
is_empty [] = true
is_empty (b ∷ bs) = false

-- a byte in front of the first of these texts, which begins where there is none
abbrev pub onto_first : ℕ → List (List ℕ) → List (List ℕ)
onto_first b [] = (b ∷ []) ∷ []
onto_first b (text ∷ texts) = (b ∷ text) ∷ texts
