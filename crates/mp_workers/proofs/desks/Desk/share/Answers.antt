use Rattle.std.proofs.Common.{◌<◌, ◌≡◌, ◌++◌, [], ◌∷◌, sym, ap, subst, ◌∙◌, arith}
use Rattle.std.proofs.lemmas.List.Elements.{All-nil, All-push}
use Rattle.mp_workers.proofs.Shared.{one_more_has}
use Rattle.mp_workers.proofs.Working.{last_below, room_stays, one_more_drawn, one_drawn}
use Rattle.mp_workers.proofs.desks.Desk.share.Goals as goal

pub loop-piece-init : goal.loop-piece-init
loop-piece-init g c =
    let work = g.S.Sharing in
    let part = g.S.Out.Part in
    let found = part.value c.args.into.now in
    record {
      desk = c.claim-piece.ensures.desk;
      weight = c.claim-piece.ensures.weight;
      size = c.requires.size;
      is_value = subst (λ n. part.is_value n found) (c.size-places.ensures.size ∙ c.requires.size)
          c.size-places.ensures.is_value;
      drawn = (
        [],
        one_drawn c.args.pass.now.drawn c.claim-piece.new.pass.drawn c.claim-piece.result c.claim-piece.ensures.drawn,
        All-nil (λ number. number < c.args.self.now.pieces),
        record {
          within = c.requires.within;
          pieces = All-nil (λ number. part.merged found (work.value_of c.args.work.now number) ≡ found);
        },
      );
    }

pub run-requires-clause-size : goal.run-requires-clause-size
run-requires-clause-size g c = c.loop-piece.invariant.size

pub run-requires-clause-within : goal.run-requires-clause-within
run-requires-clause-within g c = c.loop-piece.invariant.drawn.3.within

pub claim-piece-requires-in-loop-piece-clause-desk : goal.claim-piece-requires-in-loop-piece-clause-desk
claim-piece-requires-in-loop-piece-clause-desk g c = c.loop-piece.invariant.desk

pub claim-piece-requires-in-loop-piece-clause-room : goal.claim-piece-requires-in-loop-piece-clause-room
claim-piece-requires-in-loop-piece-clause-room g c =
    let before = c.loop-piece.invariant in
    let numbers = before.drawn in
    room_stays c.args.self.now.pieces c.loop-piece.pass.weight c.args.pass.now.drawn numbers.0 c.loop-piece.pass.drawn
    c.loop-piece.piece (omega (arith, c.requires.room, before.weight)) numbers.2
    (subst (λ n. c.loop-piece.piece < n) (ap (λ desk. desk.pieces) c.self.view_is) c.loop-piece-test.true) numbers.1

pub loop-piece-smaller : goal.loop-piece-smaller
loop-piece-smaller g c =
    let numbers = c.loop-piece.invariant.drawn in
    let next = c.claim-piece-in-loop-piece in
    let less = last_below c.args.pass.now.drawn numbers.0 c.loop-piece.pass.drawn c.loop-piece.piece next.result
    numbers.1 next.ensures.greatest in
    omega (arith, less, c.loop-piece-test.true)

pub loop-piece-preserved : goal.loop-piece-preserved
loop-piece-preserved g c =
    -- what is known of a part and of the work holds in every thread, this one among them
    let part_laws = g.met.S.Out.Part g.world.𝓛 g.world.𝓜 g.world.𝓡 ((λ s x. x), (λ x. x), (λ x. x), λ x. x) in
    let work_laws = g.met.S.Sharing g.world.𝓛 g.world.𝓜 g.world.𝓡 ((λ s x. x), (λ x. x), (λ x. x), λ x. x) in
    let work = g.S.Sharing in
    let part = g.S.Out.Part in
    let size = work.size_of c.args.work.now in
    let before = c.loop-piece.invariant in
    let numbers = before.drawn in
    let next = c.claim-piece-in-loop-piece in
    let pieces = c.args.self.now.pieces in
    let lt : c.loop-piece.piece < pieces =
    subst (λ n. c.loop-piece.piece < n) (ap (λ desk. desk.pieces) c.self.view_is) c.loop-piece-test.true in
    let is_new = subst (λ n. part.is_value n (part.value c.run.new.into)) (c.run.ensures.size ∙ before.size)
    c.run.ensures.is_value in
    record {
      desk = next.ensures.desk;
      weight = next.ensures.weight ∙ before.weight;
      size = c.run.ensures.size ∙ before.size;
      is_value = is_new;
      drawn = (
        numbers.0 ++ c.loop-piece.piece ∷ [],
        one_more_drawn c.args.pass.now.drawn numbers.0 c.loop-piece.pass.drawn next.new.pass.drawn c.loop-piece.piece
            next.result numbers.1 next.ensures.drawn,
        All-push (λ number. number < pieces) numbers.0 c.loop-piece.piece numbers.2 lt,
        one_more_has part.is_value part.unit_of part.merged part_laws.laws size (work.value_of c.args.work.now)
            (work.whole c.args.work.now) (part.value c.loop-piece.into) (part.value c.run.new.into) numbers.0
            c.loop-piece.piece pieces
            (λ k within. work_laws.has_values c.args.work.now k (omega (arith, within, c.requires.pieces)))
            numbers.2 before.is_value is_new numbers.3 c.run.ensures.piece c.run.ensures.more c.run.ensures.within,
      );
    }

pub returns-clause-desk : goal.returns-clause-desk
returns-clause-desk g c = c.loop-piece.invariant.desk

pub returns-clause-weight : goal.returns-clause-weight
returns-clause-weight g c = c.loop-piece.invariant.weight

pub returns-clause-drawn : goal.returns-clause-drawn
returns-clause-drawn g c =
    let numbers = c.loop-piece.invariant.drawn in (
      numbers.0,
      c.loop-piece.piece,
      record {
        drawn = numbers.1;
        are_pieces = numbers.2;
        no_piece = omega (arith, ap (λ desk. desk.pieces) c.self.view_is, c.loop-piece-test.false);
      },
      numbers.3,
    )

pub returns-clause-size : goal.returns-clause-size
returns-clause-size g c = c.loop-piece.invariant.size ∙ sym c.requires.size

pub returns-clause-is_value : goal.returns-clause-is_value
returns-clause-is_value g c =
    let part = g.S.Out.Part in
    subst (λ n. part.is_value n (part.value c.loop-piece.into)) (sym c.loop-piece.invariant.size)
    c.loop-piece.invariant.is_value
