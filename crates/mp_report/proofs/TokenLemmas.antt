-- The tokens of lists, and the line of a value.
use Rattle.std.proofs.Common.{◌≡◌, ℕ, List, [], ◌∷◌, ◌++◌, map, codes, Result, Ok, Err, IfOk, refl, sym, ap, ap₂, ◌∙◌}
use Rattle.std.proofs.Common.{append_assoc}
use Rattle.json.specs.Token.{Token}
use Rattle.json.specs.Token as token
use Rattle.json.specs.Print.{print}
use Rattle.json.specs.Tree.{items_tokens}
use Rattle.json.specs.Written.{Written}
use Rattle.serde_json.specs.Data.{Data}
use Rattle.serde_json.specs.Written.{items_outline}
use Rattle.serde_json.proofs.Texts.{print-outline}
use Rattle.mp_nums.specs.Listed.{Listed}
use Rattle.mp_replies.specs.Json.{items_of, json_line, listed}
use Rattle.mp_report.specs.Tokens.{tokens_of, tokens_of_each, Adds, Says}

-- behind its bracket, an array has the tokens of each value, and the other bracket
items_of_list : {A : Type 0} (value : A → Data) (list : List A)
    → items_tokens (items_outline (items_of (map value list))) ≡ tokens_of_each value list ++ token.end_array ∷ []
items_of_list value [] = refl
items_of_list value (x ∷ list) =
    ap (λ (ts : List Token). tokens_of (value x) ++ ts) (items_of_list value list)
    ∙ sym (append_assoc (tokens_of (value x)) (tokens_of_each value list) (token.end_array ∷ []))

-- what was written in two steps
pub adds_more : (old mid new : Written) (first second both : List Token) → Adds old mid first → Adds mid new second
    → both ≡ first ++ second → Adds old new both
adds_more old mid new first second both one two is = (
  two.0 ∙ one.0,
  two.1
      ∙ (ap (λ (ts : List Token). ts ++ second) one.1
      ∙ (append_assoc old.tokens first second ∙ ap (λ (ts : List Token). old.tokens ++ ts) (sym is))),
)

-- in five steps
pub adds_five : (w0 w1 w2 w3 w4 w5 : Written) (a b c d e all : List Token) → Adds w0 w1 a → Adds w1 w2 b → Adds w2 w3 c
    → Adds w3 w4 d → Adds w4 w5 e → all ≡ a ++ (b ++ (c ++ (d ++ e))) → Adds w0 w5 all
adds_five w0 w1 w2 w3 w4 w5 a b c d e all one two three four five is =
    adds_more w0 w1 w5 a (b ++ (c ++ (d ++ e))) all one
    (adds_more w1 w2 w5 b (c ++ (d ++ e)) _ two
    (adds_more w2 w3 w5 c (d ++ e) _ three (adds_more w3 w4 w5 d e _ four five refl) refl) refl) is

-- a list of values between its brackets
pub array_says : {A : Type 0} (value : A → Data) (list : List A) (old opened filled closed : Written)
    → Adds old opened (token.begin_array ∷ []) → Adds opened filled (tokens_of_each value list)
    → Adds filled closed (token.end_array ∷ []) → Says old closed (listed value list)
array_says value list old opened filled closed begun each ended =
    let rest = tokens_of_each value list ++ token.end_array ∷ [] in
    adds_more old opened closed (token.begin_array ∷ []) rest _ begun
    (adds_more opened filled closed (tokens_of_each value list) (token.end_array ∷ []) rest each ended refl)
    (ap (λ (ts : List Token). token.begin_array ∷ ts) (items_of_list value list))

-- the line of a writer that has said one value
pub line_says : {E : Type 0} (result : Result (Listed ℕ) E) (begun said : Written) (value : Data)
    → (begun.before ≡ []) × (begun.tokens ≡ []) → Says begun said value
    → IfOk result (λ text. text.items ≡ said.before ++ print said.tokens ++ codes "\n")
    → IfOk result (λ text. text.items ≡ json_line value)
line_says (Err e) begun said value none is printed = tt
line_says (Ok text) begun said value none is printed =
    printed
    ∙ (ap₂ (λ (before : List ℕ) (ts : List Token). before ++ print ts ++ codes "\n") (is.0 ∙ none.0)
    (is.1 ∙ ap (λ (ts : List Token). ts ++ tokens_of value) none.1)
    ∙ ap (λ (line : List ℕ). line ++ codes "\n") (print-outline value))
