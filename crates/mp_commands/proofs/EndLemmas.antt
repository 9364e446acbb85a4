-- The line that ends a run.
use Rattle.std.proofs.Common.{◌≡◌, ◌∙◌, List, ℕ, ap, sym}
use Rattle.mp_replies.specs.EndLaws.{ends_of_each_version}
use Rattle.mp_replies.specs.Line.{Asked, asked_of, ends, is_end}

-- it is the same by each version
pub ends_by : (version : ℕ) (line : List ℕ) (asked : Asked) → asked ≡ asked_of version line → ends line ≡ is_end asked
ends_by version line asked is = sym (ends_of_each_version version line) ∙ ap is_end (sym is)
