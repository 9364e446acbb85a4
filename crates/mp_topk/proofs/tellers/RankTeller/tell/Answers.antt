use Rattle.std.proofs.Common.{◌≡◌, ℕ, ◌+◌, ◌-◌, ◌*◌, [], inl, inr, get_or, ap, subst, sym, ◌∙◌, arith}
use Rattle.std.proofs.lemmas.Bool.{cases_eq}
use Rattle.mp_tiles.specs.Compact.{slot_of_word}
use Rattle.mp_topk.specs.Sharing.{GivesNone, RankSeries, count_of, whole_of}
use Rattle.mp_topk.specs.Words.{SeenBelow, WordsAt}
use Rattle.mp_topk.proofs.Entering.{whole_count}
use Rattle.mp_topk.proofs.Knowing.{real_word}
use Rattle.mp_topk.proofs.tellers.RankTeller.tell.Goals as goal

pub pass-requires : goal.pass-requires
pass-requires g c =
    let k = g.row.K in
    let before = c.loop-rank.invariant in
    let same = ap (λ (w : WordsAt). w.series) (c.look.ensures.words ∙ before.words) in
    let given = subst (GivesNone k (get_or (whole_of k c.args.self.now.words.series) c.args.place []))
    (sym c.word_of-word.ensures) c.requires.within in (
      omega arith,
      (
        omega (arith, c.requires.weight, before.more.weight, c.look.ensures.more.weight),
        record {
          place_is = omega (arith, c.requires.place, whole_count k c.look.new.self.words.series, ap count_of same);
          rank_is = c.loop-rank-test.true;
          some = real_word c.word_of-word.result c.args.near (omega (arith, c.word_of-word.type_inv))
              c.word_of-word.ensures;
          within = subst (λ (s : RankSeries). GivesNone k (get_or (whole_of k s) c.args.place [])
              (slot_of_word c.word_of-word.result)) (sym same) given;
          ready = inl (
            c.look.ensures.carried ∙ before.idle,
            elim (cases_eq c.loop-rank.rank 0) [
              | inl first ↦ inl first
              | inr later ↦ inr (c.look.ensures.more.seen _ _ (before.below (omega (arith, later))))
            ],
          );
        },
      ),
    )

pub returns-clause-told : goal.returns-clause-told
returns-clause-told g c =
    let k = g.row.K in
    let before = c.loop-rank.invariant in
    let last : c.loop-rank.rank ≡ k = omega (arith, c.loop-rank-test.false, c.loop-rank.auto) in (
      c.word_of-word.result,
      real_word c.word_of-word.result c.args.near (omega (arith, c.word_of-word.type_inv)) c.word_of-word.ensures,
      c.word_of-word.ensures,
      inr (subst (λ (n : ℕ). SeenBelow c.loop-rank.self.view.seen (c.args.place * k + (n - 1)) c.word_of-word.result)
          last
          (before.below (omega (arith, last, c.requires.one)))),
    )
