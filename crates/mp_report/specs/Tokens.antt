-- What a writer of JSON takes for a value: its tokens, one by one.
use Rattle.std.specs.Prelude.{◌≡◌, ℕ, List, [], ◌∷◌, ◌++◌, codes, decimal, flat_map}
use Rattle.json.specs.Token.{Token}
use Rattle.json.specs.Token as token
use Rattle.json.specs.Tree.{json_tokens}
use Rattle.json.specs.Written.{Written}
use Rattle.serde_json.specs.Data.{Data}
use Rattle.serde_json.specs.Written.{outline}

abbrev pub tokens_of : Data → List Token
tokens_of value = json_tokens (outline value)

-- the tokens of each value of a list, without the brackets of an array
abbrev pub tokens_of_each : {A : Type 0} → (A → Data) → List A → List Token
tokens_of_each value list = flat_map (λ x. tokens_of (value x)) list

-- a key and what stands behind it
abbrev pub field_tokens : List ℕ → Data → List Token
field_tokens key value = token.key key ∷ tokens_of value

-- what kind of report it is, and the number of its line
abbrev pub kind_tokens : List ℕ → ℕ → List Token
kind_tokens kind line =
    token.key (codes "kind") ∷ token.string kind ∷ token.key (codes "line") ∷ token.number (decimal line) ∷ []

-- the same with how many diagonals are left
abbrev pub part_tokens : List ℕ → ℕ → ℕ → List Token
part_tokens kind line left =
    token.key (codes "kind") ∷ token.string kind ∷ token.key (codes "left") ∷ token.number (decimal left)
    ∷ token.key (codes "line") ∷ token.number (decimal line) ∷ []

-- these tokens were written, behind the same text
abbrev pub Adds : Written → Written → List Token → Type 0
Adds old new tokens = (new.before ≡ old.before) × (new.tokens ≡ old.tokens ++ tokens)

-- a value was
abbrev pub Says : Written → Written → Data → Type 0
Says old new value = Adds old new (tokens_of value)

-- a field was
abbrev pub SaysField : Written → Written → List ℕ → Data → Type 0
SaysField old new key value = Adds old new (field_tokens key value)
