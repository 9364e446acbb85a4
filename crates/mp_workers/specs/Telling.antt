-- Workers that tell each other at once what they find.
use Rattle.std.specs.Prelude.{◌≡◌, ℕ, [], All}
use Rattle.mp_workers.specs.Desks.{DeskId, PassState, pieces_among}
use Rattle.mp_workers.specs.Teams.{HasPast}

-- a worker that is to tell: its pass to the desk is unused, and it and the hold have weight 1
pub record IsToTell (desk : DeskId) {H : Type 0} (is_hold : ℕ → H → Type 0) (pass : PassState) (hold : H)
    : Type 0 where
  pub of_desk : pass.desk ≡ desk
  pub weight : pass.weight ≡ 1
  pub drawn : pass.drawn ≡ []
  pub held : is_hold 1 hold

-- what the pieces among the numbers that were drawn give is known, and the hold is as heavy as the pass
pub record AreTold (desk : DeskId) {H : Type 0} (is_hold : ℕ → H → Type 0) (is_told : H → ℕ → Type 0)
    (pass : PassState) (hold : H) : Type 0 where
  pub past_pieces : HasPast desk.pieces pass.drawn
  pub held : is_hold pass.weight hold
  pub told : All (is_told hold) (pieces_among desk.pieces pass.drawn)

-- a worker that has drawn numbers until one was no piece, and what the pieces among them give is known
pub record HasTold (desk : DeskId) {H : Type 0} (is_hold : ℕ → H → Type 0) (is_told : H → ℕ → Type 0)
    (pass : PassState) (hold : H) : Type 0 where
  pub of_desk : pass.desk ≡ desk
  pub weight : pass.weight ≡ 1
  pub are_told : AreTold desk is_hold is_told pass hold
