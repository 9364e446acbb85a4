use Rattle.std.proofs.Common.{◌≡◌, ℕ, ◌-◌, List, [], ◌∷◌, ◌++◌, length, take, refl, ap, ◌∙◌, lit≤}
use Rattle.std.specs.Prelude.{Option, Some, None, pos, true, false, replicate, codes}
use Rattle.std.specs.Prelude.{filter}
use Rattle.std.specs.List.{concat, range_with_len}
use Rattle.std.proofs.Common.{◌≤◌, map}
use Rattle.std.specs.Fmt.{digits}
use Rattle.csv.specs.Machine.{next_record}
use Rattle.csv.specs.Reading.{records_from, strip_bom}
use Rattle.csv.specs.Records.{field_at}
use Rattle.mp_defs.specs.Distance.{distance}
use Rattle.mp_defs.specs.Least.{near}
use Rattle.mp_defs.specs.Series.{Series}
use Rattle.mp_results.specs.Covering.{is_uncovered, uncovered}
use Rattle.mp_results.specs.LazyProfile.{lazy_profile}
use Rattle.mp_results.specs.Reversal.{reversed}
use Rattle.mp_replies.specs.AdvanceCommand.{advance_text}
use Rattle.mp_replies.specs.Change.{PutLazy}
use Rattle.mp_replies.specs.Command.{LoadLazy}
use Rattle.mp_replies.specs.Conditions.{first_cause}
use Rattle.mp_replies.specs.LazyCommand.{lazy_conditions, lazy_file_conditions, lazy_series}
use Rattle.mp_replies.specs.Line.{asked_of, ends}
use Rattle.mp_replies.specs.PartialCommand.{partial_text}
use Rattle.mp_replies.specs.Report.{written_of}
use Rattle.mp_replies.specs.State.{Files, State, Closed, Open, Lazy, first_mode, opening}
use Rattle.mp_replies.specs.Step.{Verdict, verdict, verdict_by, cause, after, after_by, answer, answer_by}
use Rattle.mp_replies.specs.Output.{reply, replies, output}
use Rattle.mp_replies.proofs.Diagonals.{few_uncovered}
use Rattle.mp_replies.proofs.examples.lazy_output.Goals as goal

-- ---- the diagonals that aren't covered

uncovered_at : (w : ℕ) (covered left : List ℕ) → w ≤ 8
    → filter (is_uncovered 3 w covered) (map (reversed 3) (range_with_len 0 8)) ≡ left → uncovered 3 w covered ≡ left
uncovered_at w covered left few is = few_uncovered 3 w covered few ∙ is

none_covered : uncovered 3 4 [] ≡ 2 ∷ 3 ∷ []
unfolding reversed
none_covered = uncovered_at 4 [] (2 ∷ 3 ∷ []) (lit≤ tt) refl

one_covered : uncovered 3 4 (2 ∷ []) ≡ 3 ∷ []
unfolding reversed
one_covered = uncovered_at 4 (2 ∷ []) (3 ∷ []) (lit≤ tt) refl

one_appended : uncovered 3 5 (2 ∷ []) ≡ 4 ∷ 3 ∷ []
unfolding reversed
one_appended = uncovered_at 5 (2 ∷ []) (4 ∷ 3 ∷ []) (lit≤ tt) refl

all_covered : uncovered 3 5 (2 ∷ 4 ∷ 3 ∷ []) ≡ []
unfolding reversed
all_covered = uncovered_at 5 (2 ∷ 4 ∷ 3 ∷ []) [] (lit≤ tt) refl

-- ---- lines

-- behind so many lines slot 1 has this series, of which these diagonals are covered
abbrev state_with : ℕ → Series → List ℕ → State
state_with lines series covered = record {
  window = 3;
  scale = 0;
  mode = first_mode;
  lines = lines;
  begun = true;
  stores = Open ([] ∷ []) ∷ Lazy series covered ∷ replicate 6 Closed;
}

abbrev six : Series
six = Some (pos 1) ∷ Some (pos 2) ∷ Some (pos 3) ∷ Some (pos 1) ∷ Some (pos 2) ∷ Some (pos 3) ∷ []

abbrev seven : Series
seven = six ++ Some (pos 1) ∷ []

-- a line with its report and the state behind it, and the lines behind that
ran : (state later : State) (files : Files) (line : List ℕ) (rest : List (List ℕ)) (text more : List ℕ)
    → reply state line files ≡ text → after state line files ≡ later → concat (replies later files rest) ≡ more
    → concat (replies state files (line ∷ rest)) ≡ text ++ more
ran state later files line rest text more said behind others =
    ap (λ (t : List ℕ). t ++ concat (replies (after state line files) files rest)) said
    ∙ (ap (λ (s : State). text ++ concat (replies s files rest)) behind ∙ ap (λ (t : List ℕ). text ++ t) others)

-- the verdict on the first line, of the bytes of the file
abbrev loaded : Option (List ℕ) → Verdict
loaded bytes =
    verdict_by (LoadLazy 1 (codes "s.csv") 0 false)
    (first_cause (lazy_conditions 1 ++ lazy_file_conditions (opening 3 0).mode.width 0 0 false bytes))
    (PutLazy 1 (lazy_series (opening 3 0).mode.width 0 0 false bytes))

-- the report of a profile in parts
abbrev part : ℕ → Series → List ℕ → List ℕ → List ℕ
part line series covered left = partial_text line (lazy_profile 3 covered series) (length left)

-- the report of an advance of so many, of those that aren't covered before it and behind it
abbrev advanced_text : ℕ → ℕ → List ℕ → List ℕ → List ℕ → List ℕ
advanced_text line count covered before behind =
    advance_text line (length (covered ++ take count before) - length covered) (length behind)

-- the lines, from each of the greater ones on
abbrev refused_lines : List (List ℕ)
refused_lines = codes "profile 1" ∷ codes "advance 0 1" ∷ []

abbrev from_last_part : List (List ℕ)
from_last_part = codes "partial 1" ∷ refused_lines

abbrev from_second_advance : List (List ℕ)
from_second_advance = codes "advance 1 9" ∷ from_last_part

abbrev from_append : List (List ℕ)
from_append = codes "append 1 1" ∷ codes "partial 1" ∷ from_second_advance

abbrev from_first_advance : List (List ℕ)
from_first_advance = codes "advance 1 1" ∷ codes "partial 1" ∷ from_append

-- behind the second advance all are covered
last_lines : (files : Files)
    → concat (replies (state_with 7 seven (2 ∷ 4 ∷ 3 ∷ [])) files
    from_last_part)
    ≡ codes "partial 8 5 0\n0 0 3 - 3\n1 0 4 - 4\n2 6 0 0 4\n3 0 0 0 -\n4 0 1 1 -\n"
    ++ codes "refused 9 lazy\nrefused 10 lazy\n"
unfolding digits near distance asked_of verdict cause after answer reply
last_lines files =
    ran (state_with 7 seven (2 ∷ 4 ∷ 3 ∷ [])) (state_with 8 seven (2 ∷ 4 ∷ 3 ∷ [])) files (codes "partial 1") refused_lines _ _
    (ap (part 8 seven (2 ∷ 4 ∷ 3 ∷ [])) all_covered) refl refl

second_advance : (files : Files)
    → concat (replies (state_with 5 seven (2 ∷ [])) files
    (codes "partial 1" ∷ from_second_advance))
    ≡ codes "partial 6 5 2\n0 6 2 - 2\n1 6 3 - 3\n2 6 0 0 4\n3 6 1 1 -\n4 6 2 2 -\nadvance 7 2 0\n"
    ++ codes "partial 8 5 0\n0 0 3 - 3\n1 0 4 - 4\n2 6 0 0 4\n3 0 0 0 -\n4 0 1 1 -\n"
    ++ codes "refused 9 lazy\nrefused 10 lazy\n"
unfolding digits near distance asked_of verdict cause after answer reply
second_advance files =
    ran (state_with 5 seven (2 ∷ [])) (state_with 6 seven (2 ∷ [])) files (codes "partial 1") from_second_advance _ _
    (ap (part 6 seven (2 ∷ [])) one_appended) refl
    (ran (state_with 6 seven (2 ∷ [])) (state_with 7 seven (2 ∷ 4 ∷ 3 ∷ [])) files (codes "advance 1 9") from_last_part _ _
    (ap (λ (u : List ℕ). advanced_text 7 9 (2 ∷ []) u (uncovered 3 5 (2 ∷ [] ++ take 9 u))) one_appended
    ∙ ap (advanced_text 7 9 (2 ∷ []) (4 ∷ 3 ∷ [])) all_covered)
    (ap (λ (u : List ℕ). state_with 7 seven (2 ∷ [] ++ take 9 u)) one_appended)
    (last_lines files))

first_advance : (files : Files)
    → concat (replies (state_with 1 six []) files
    (codes "partial 1" ∷ from_first_advance))
    ≡ codes "partial 2 4 2\n0 - - - -\n1 - - - -\n2 - - - -\n3 - - - -\nadvance 3 1 1\n"
    ++ codes "partial 4 4 1\n0 6 2 - 2\n1 6 3 - 3\n2 6 0 0 -\n3 6 1 1 -\nok 5 7\n"
    ++ codes "partial 6 5 2\n0 6 2 - 2\n1 6 3 - 3\n2 6 0 0 4\n3 6 1 1 -\n4 6 2 2 -\nadvance 7 2 0\n"
    ++ codes "partial 8 5 0\n0 0 3 - 3\n1 0 4 - 4\n2 6 0 0 4\n3 0 0 0 -\n4 0 1 1 -\n"
    ++ codes "refused 9 lazy\nrefused 10 lazy\n"
unfolding digits near distance asked_of verdict cause after answer reply
first_advance files =
    ran (state_with 1 six []) (state_with 2 six []) files (codes "partial 1") from_first_advance _ _
    (ap (part 2 six []) none_covered) refl
    (ran (state_with 2 six []) (state_with 3 six (2 ∷ [])) files (codes "advance 1 1") (codes "partial 1" ∷ from_append) _ _
    (ap (λ (u : List ℕ). advanced_text 3 1 [] u (uncovered 3 4 (take 1 u))) none_covered
    ∙ ap (advanced_text 3 1 [] (2 ∷ 3 ∷ [])) one_covered)
    (ap (λ (u : List ℕ). state_with 3 six (take 1 u)) none_covered)
    (ran (state_with 3 six (2 ∷ [])) (state_with 4 six (2 ∷ [])) files (codes "partial 1") from_append _ _
    (ap (part 4 six (2 ∷ [])) one_covered) refl
    (ran (state_with 4 six (2 ∷ [])) (state_with 5 seven (2 ∷ [])) files (codes "append 1 1") (codes "partial 1" ∷ from_second_advance) _ _ refl refl
    (second_advance files))))

pub returns : goal.returns
unfolding digits near distance field_at next_record records_from strip_bom
    asked_of verdict cause after answer reply ends output
returns c = λ files is.
    ran (opening 3 0) (state_with 1 six []) files (codes "lazy 1 s.csv 0") (codes "partial 1" ∷ from_first_advance) _ _
    (ap (λ (bytes : Option (List ℕ)).
    let behind = after_by (opening 3 0) (loaded bytes) in
    written_of behind.mode.form 1 (answer_by (opening 3 0) behind (loaded bytes))) is)
    (ap (λ (bytes : Option (List ℕ)). after_by (opening 3 0) (loaded bytes)) is)
    (first_advance files)
