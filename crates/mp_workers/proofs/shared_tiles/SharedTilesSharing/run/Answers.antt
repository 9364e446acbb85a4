use Rattle.std.proofs.Common.{◌≡◌, ℕ, ◌<◌, [], ◌∷◌, length, subst, ◌∙◌}
use Rattle.mp_partial.specs.Values.{HasColumns, Value, merged_columns}
use Rattle.mp_tiles.specs.Pieces.{OwnTiling, own_size, own_together, own_value, own_whole}
use Rattle.mp_tiles.specs.Sides.{Sided}
use Rattle.mp_workers.specs.SharedTiles.{HaveMore}
use Rattle.mp_workers.proofs.TileSharing.{piece_run, within_profile}
use Rattle.mp_workers.proofs.shared_tiles.SharedTilesSharing.run.Goals as goal

-- what the worker has behind the piece
found : (inside own : OwnTiling) (old taken new : Sided) (piece size : ℕ) → inside ≡ own
    → own_together inside ≡ own_whole inside → piece < length own.tiles → length old.left ≡ own_size own
    → size ≡ length old.left → HasColumns 2 size (old.left ∷ old.right ∷ []) → HaveMore own old taken
    → ◌≡◌ {A = Value} (new.left ∷ new.right ∷ [])
    (merged_columns (taken.left ∷ taken.right ∷ []) (own_value inside piece))
    → (merged_columns (new.left ∷ new.right ∷ []) (own_value own piece) ≡ new.left ∷ new.right ∷ [])
    × (merged_columns (new.left ∷ new.right ∷ []) (old.left ∷ old.right ∷ []) ≡ new.left ∷ new.right ∷ [])
    × (merged_columns (new.left ∷ new.right ∷ []) (own_whole own) ≡ own_whole own)
found inside own old taken new piece size same together lt places told is more e =
    piece_run own old taken new piece
    (subst (λ (o : OwnTiling). own_together o ≡ own_whole o) same together) lt
    (subst (λ n. HasColumns 2 n (old.left ∷ old.right ∷ [])) (told ∙ places) is) more
    (subst (λ (o : OwnTiling). ◌≡◌ {A = Value} (new.left ∷ new.right ∷ [])
    (merged_columns (taken.left ∷ taken.right ∷ []) (own_value o piece))) same e)

pub tell-requires : goal.tell-requires
tell-requires c =
    within_profile c.args.self.now c.run.new.into
    (c.run.ensures.size ∙ c.take.ensures.left.places ∙ c.requires.size)
    (found c.self.inside.tiles.now c.args.self.now c.args.into.now c.take.new.into c.run.new.into c.args.piece
    c.size-places.result c.self.view_is c.self.invariant.together c.requires.piece c.requires.size
    c.size-places.ensures.size c.size-places.ensures.is_value c.take.ensures c.run.ensures.value).2

pub returns-clause-piece : goal.returns-clause-piece
returns-clause-piece c =
    (found c.self.inside.tiles.now c.args.self.now c.args.into.now c.take.new.into c.run.new.into c.args.piece
    c.size-places.result c.self.view_is c.self.invariant.together c.requires.piece c.requires.size
    c.size-places.ensures.size c.size-places.ensures.is_value c.take.ensures c.run.ensures.value).0

pub returns-clause-more : goal.returns-clause-more
returns-clause-more c =
    (found c.self.inside.tiles.now c.args.self.now c.args.into.now c.take.new.into c.run.new.into c.args.piece
    c.size-places.result c.self.view_is c.self.invariant.together c.requires.piece c.requires.size
    c.size-places.ensures.size c.size-places.ensures.is_value c.take.ensures c.run.ensures.value).1

pub returns-clause-within : goal.returns-clause-within
returns-clause-within c =
    (found c.self.inside.tiles.now c.args.self.now c.args.into.now c.take.new.into c.run.new.into c.args.piece
    c.size-places.result c.self.view_is c.self.invariant.together c.requires.piece c.requires.size
    c.size-places.ensures.size c.size-places.ensures.is_value c.take.ensures c.run.ensures.value).2
