use Rattle.std.proofs.Common.{◌≡◌, ◌+◌, ◌≤◌, false, refl, sym, ap, ◌∙◌, arith}
use Rattle.std.specs.Prelude.{Some, nat_lt}
use Rattle.std.proofs.lemmas.Bool.Decides.{nat_tests}
use Rattle.std.proofs.lemmas.List.{length-take-le}
use Rattle.mp_feed.specs.Reading.{Reading, bit}
use Rattle.mp_feed.proofs.ReadLemmas.{read_front, bit_true, bit_false}
use Rattle.mp_feed.proofs.ReaderLemmas.{gave_read}
use Rattle.mp_feed.proofs.readers.LineReader.fill.Goals as goal
use Rattle.mp_feed.proofs.readers.LineReader.fill.Goals.{then-piece-gt0, else-piece-gt0}

pub returns-clause-gave : goal.returns-clause-gave
returns-clause-gave g c =
    let is = c.self.view_is in
    let piece = c.in_ok-piece.piece in
    let left_is : c.self.inside.left ≡ c.args.self.now.left = ap (λ (r : Reading). r.left) is in
    gave_read c.args.self.now _ _ _ c.read_piece.new.buffer piece c.requires.unread c.requires.past
    (ap (λ (r : Reading). r.holding) is)
    (read_front piece.count c.self.inside.buffer.len c.read_piece.new.buffer _
    (omega (arith, c.read_piece.auto.buffer, c.as_mut_slice.ensures.len)))
    (length-take-le piece.count c.read_piece.new.buffer c.in_ok-piece.ensures.within)
    (omega (arith, c.in_ok-piece.ensures.within_limit, left_is)) refl
    (λ over. omega (arith, c.in_ok-piece.ensures.past (bit_true piece.past_limit over))) c.in_ok-piece.ensures.told

pub returns-clause-dry : goal.returns-clause-dry
returns-clause-dry g c = λ none.
    let piece = c.in_ok-piece.piece in
    let zero : piece.count + bit piece.past_limit ≡ 0 = elim c.if-piece-gt0.branch [
      | then-piece-gt0 w ↦
          let test : nat_lt 0 piece.count ≡ false = sym w.result-is ∙ none in
          let le : piece.count ≤ 0 = grind (arith, nat_tests) in omega (arith, w.if-piece-gt0.true, le)
      | else-piece-gt0 w ↦ omega (arith, w.if-piece-gt0.false, ap bit (sym w.result-is ∙ none))
    ] in
    let empty : piece.count ≡ 0 = omega (arith, zero) in (
      rw empty refl,
      bit_false piece.past_limit (omega (arith, zero)),
      λ bytes e. let read = c.in_ok-piece.ensures.told bytes e in read.off.later_is ∙ ap Some (read.at_end zero),
    )
