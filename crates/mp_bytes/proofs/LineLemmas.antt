-- The lines of an input with one byte more in front.
use Rattle.std.proofs.Common.{◌≡◌, ◌≢◌, ℕ, Bool, true, false, List, [], ◌∷◌, ◌++◌, refl, ap, ◌∙◌, sym, arith}
use Rattle.std.specs.Prelude.{All, ◌==◌, if◌then◌else◌}
use Rattle.std.proofs.lemmas.List.Elements.{All-head, All-tail, All-cons, All-nil}
use Rattle.std.proofs.lemmas.Bool.Decides.{nat_tests}
use Rattle.mp_bytes.specs.Bytes.{line_feed, is_empty, onto_first}
use Rattle.mp_bytes.specs.Lines.{lines, ended_lines, with_ends}
use Rattle.mp_bytes.specs.Laws.{HasNoLf, AreLinesOf}

last_line : List ℕ → List (List ℕ)
last_line rest = if is_empty rest then [] else rest ∷ []

-- the last line where it isn't empty
onto_last : (b : ℕ) (rest : List ℕ) → onto_first b (last_line rest) ≡ (b ∷ rest) ∷ []
unfolding last_line
onto_last b [] = refl
onto_last b (c ∷ rest) = refl

-- a byte that is no LF in front of lines of which none or some are ended
more_byte : (b : ℕ) (bs rest : List ℕ) (ended : List (List ℕ)) → b ≢ line_feed → (b == line_feed) ≡ false
    → ended_lines bs ≡ ended → with_ends ended ++ rest ≡ bs → lines bs ≡ ended ++ last_line rest
    → All HasNoLf ended → HasNoLf rest → AreLinesOf (b ∷ bs)
unfolding last_line
more_byte b bs rest [] other test is whole lines_are without rest_without = record {
  rest = b ∷ rest;
  whole = rw (test, is) (ap (λ t. b ∷ t) whole);
  lines_are = rw (test, is, lines_are) (onto_last b rest);
  ended_without = rw (test, is) (All-nil HasNoLf);
  rest_without = All-cons (λ c. c ≢ line_feed) b rest other rest_without;
}
more_byte b bs rest (line ∷ ended) other test is whole lines_are without rest_without = record {
  rest = rest;
  whole = rw (test, is) (ap (λ t. b ∷ t) whole);
  lines_are = rw (test, is, lines_are) refl;
  ended_without = rw (test, is) (All-cons HasNoLf (b ∷ line) ended
      (All-cons (λ c. c ≢ line_feed) b line other (All-head HasNoLf line ended without))
      (All-tail HasNoLf line ended without));
  rest_without = rest_without;
}

-- an LF in front
more_end : (b : ℕ) (bs : List ℕ) → b ≡ line_feed → (b == line_feed) ≡ true → AreLinesOf bs → AreLinesOf (b ∷ bs)
more_end b bs is test of = record {
  rest = of.rest;
  whole = rw test (ap (λ t. line_feed ∷ t) of.whole ∙ ap (λ c. c ∷ bs) (sym is));
  lines_are = rw test (ap (λ ls. [] ∷ ls) of.lines_are);
  ended_without = rw test (All-cons HasNoLf [] (ended_lines bs) (All-nil (λ c. c ≢ line_feed)) of.ended_without);
  rest_without = of.rest_without;
}

by_byte : (b : ℕ) (bs : List ℕ) (test : Bool) → (b == line_feed) ≡ test → AreLinesOf bs → AreLinesOf (b ∷ bs)
unfolding last_line
by_byte b bs true is of = more_end b bs (grind (arith, nat_tests, is)) is of
by_byte b bs false is of =
    more_byte b bs of.rest (ended_lines bs) (grind (arith, nat_tests, is)) is refl of.whole of.lines_are
    of.ended_without of.rest_without

pub are_lines : (bytes : List ℕ) → AreLinesOf bytes
are_lines [] = record {
  rest = [];
  whole = refl;
  lines_are = refl;
  ended_without = All-nil HasNoLf;
  rest_without = All-nil (λ c. c ≢ line_feed);
}
are_lines (b ∷ bs) = by_byte b bs (b == line_feed) refl (are_lines bs)
