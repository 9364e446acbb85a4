use Rattle.std.proofs.Common.{◌≡◌, ℕ, Bool, List, ◌++◌, ap, ◌∙◌, take, true, false, arith, ⊎_elim}
use Rattle.std.specs.List.{before_first, position_or_len}
use Rattle.std.proofs.lemmas.Bool.{cases_Bool}
use Rattle.mp_feed.specs.Feeding.{Holding, is_lf, has_lf, fed}
use Rattle.mp_bytes.specs.Lines.{cut}
use Rattle.mp_feed.proofs.FeedSteps.{unwrap_or-first_lf, is_some-first_lf, IsCutLine-fed, used_of-lf, used_of-no_lf}
use Rattle.mp_feed.proofs.FeedSteps.{position_or_len-no_lf}
use Rattle.mp_feed.proofs.feeds.Feed.feed.Goals as goal

-- the line ends at the first LF, or at the piece's end
line_end_is : (c : goal.After-from) → c.unwrap_or-line_end.result ≡ position_or_len is_lf c.args.piece.now
line_end_is c =
    c.unwrap_or-line_end.ensures ∙ unwrap_or-first_lf c.args.piece.now c.memchr-lf.result c.memchr-lf.ensures

whole_is : (c : goal.After-from) → c.is_some-self-inside.result ≡ has_lf c.args.piece.now
whole_is c = c.is_some-self-inside.ensures ∙ is_some-first_lf c.args.piece.now c.memchr-lf.result c.memchr-lf.ensures

kept_is : (c : goal.After-from)
    → c.keep.new.kept.items ≡ cut (c.self.inside.kept.items ++ before_first is_lf c.args.piece.now)
kept_is c = c.keep.ensures.kept ∙ ap (λ n. cut (c.self.inside.kept.items ++ take n c.args.piece.now)) (line_end_is c)

fed_is : (old inside : Holding) (piece kept : List ℕ) (whole : Bool) → inside ≡ old
    → kept ≡ cut (inside.kept ++ before_first is_lf piece) → whole ≡ has_lf piece
    → record { kept = kept; whole = whole } ≡ fed old piece
fed_is old inside piece kept whole is kept_same whole_same =
    ap (λ (k : List ℕ). record { kept = k; whole = whole }) kept_same
    ∙ ap (λ (w : Bool). record { kept = cut (inside.kept ++ before_first is_lf piece); whole = w }) whole_same
    ∙ ap (λ (h : Holding). fed h piece) is

pub returns-clause-whole : goal.returns-clause-whole
returns-clause-whole c = whole_is c

pub returns-clause-held : goal.returns-clause-held
returns-clause-held c = fed_is _ _ c.args.piece.now _ _ c.self.view_is (kept_is c) (whole_is c)

pub returns-clause-is_cut : goal.returns-clause-is_cut
returns-clause-is_cut c = rw (kept_is c) (IsCutLine-fed c.self.inside.kept.items c.args.piece.now c.self.invariant.0)

pub invariant_of-self : goal.invariant_of-self
invariant_of-self c = (returns-clause-is_cut c, omega arith)

pub returns-clause-used : goal.returns-clause-used
returns-clause-used c =
    let piece = c.args.piece.now in
    let ends = line_end_is c in
    ⊎_elim
    (λ (some : has_lf piece ≡ true). rw (c.from.ensures, whole_is c, some) (omega (arith, used_of-lf piece some)))
    (λ (none : has_lf piece ≡ false). rw (c.from.ensures, whole_is c, none)
    (omega (arith, used_of-no_lf piece none, position_or_len-no_lf piece none)))
    (cases_Bool (has_lf piece))
