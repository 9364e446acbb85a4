use Rattle.std.proofs.Common.{◌≡◌, ◌/◌, ◌<◌, ◌≤◌, [], min, get_or, ap, subst, sym, ◌∙◌, arith, refl}
use Rattle.mp_tiles.specs.Compact.{slot_of_word}
use Rattle.mp_topk.specs.declared.words.WordsView.{WordsView}
use Rattle.mp_topk.specs.Sharing.{GivesNone, RankSeries, count_of, whole_of}
use Rattle.mp_topk.specs.Words.{AreWordsOf, KnowsMore, LowersWord, MayPass, RankTellerState, WordsAt}
use Rattle.mp_topk.proofs.Entering.{place_of, whole_count, word_there}
use Rattle.mp_topk.proofs.Knowing.{lowered_to, now_told, told_more}
use Rattle.mp_topk.proofs.Putting.{allows_lower}
use Rattle.atomic_table.specs.Table.{Allows, step}
use mathlib.Core.Option.{none}
use Rattle.mp_topk.proofs.tellers.RankTeller.lower.Goals as goal

pub at-at-requires : goal.at-at-requires
at-at-requires g c =
    let may = c.requires.may in (
      omega arith,
      (
        omega (
          arith,
          may.place_is,
          whole_count g.row.K c.args.self.now.words.series,
          ap (λ (t : RankTellerState). count_of t.words.series) c.self.view_is,
        ),
        may.rank_is,
      ),
    )

pub fetch_min-requires : goal.fetch_min-requires
fetch_min-requires g c =
    let k = g.row.K in
    let key = c.words.inside.table.shared.key in
    let place = c.args.place in
    let rank = c.args.rank in
    let word = c.args.word in
    let me = c.self.inside.seat.me in
    let words = c.words.inside.table.shared.table_id.words in
    let own = ap (λ (w : WordsAt). w.series) c.words.view_is in
    let of_self = ap (λ (t : RankTellerState). t.words.series) c.self.view_is in
    let series : key ≡ c.args.self.now.words.series = own ∙ of_self in
    let view : me.0 ≡ c.args.self.now.view = ap (λ (t : RankTellerState). t.view) c.self.view_is in
    let may : MayPass k key me.0 place rank word =
    subst (λ (v : WordsView). MayPass k key v place rank word) (sym view)
    (subst (λ (s : RankSeries). MayPass k s c.args.self.now.view place rank word) (sym series) c.requires.may) in
    let heavy : 1 ≤ me.0.weight = omega (arith, c.requires.weight, ap (λ (v : WordsView). v.weight) view) in
    let whole_is : me.0.whole ≡ whole_of k key = c.self.invariant.whole_is ∙ ap (whole_of k) (sym own) in
    let there : c.at-at.result < words = omega (
      arith,
      c.at-at.ensures,
      word_there k words key key place rank c.words.invariant.entries.words_are refl
          (omega (arith, may.place_is, whole_count k key)) may.rank_is,
    ) in (
      c.self.invariant.of_table ∙ sym (ap (λ (w : WordsAt). w.table) c.words.view_is),
      there,
      subst (λ n. Allows (AreWordsOf k key) c.words.inside.table.shared.table_id.slots c.self.inside.seat.id me n
          (λ m. min m word) (LowersWord (step c.words.inside.table.shared.table_id.slots n word 0 none) me))
          (sym c.at-at.ensures)
          (allows_lower k key _ _ place rank word me c.self.invariant.ranks_is whole_is heavy may),
    )

pub invariant_of-self : goal.invariant_of-self
invariant_of-self g c =
    let now = lowered_to g.row.K c.args.place c.args.rank c.args.word c.fetch_min.result _ c.self.inside.seat.me
    c.fetch_min.new.seat.me c.fetch_min.ensures.2 c.at-at.ensures refl c.requires.may.rank_is
    c.self.invariant.ranks_is in
    record {
      one = c.self.invariant.one;
      of_table = c.fetch_min.ensures.0 ∙ c.self.invariant.of_table;
      slots = c.fetch_min.ensures.2.slots ∙ c.self.invariant.slots;
      ranks_is = ap (λ (v : WordsView). v.ranks) now ∙ c.self.invariant.ranks_is;
      whole_is = ap (λ (v : WordsView). v.whole) now ∙ c.self.invariant.whole_is;
    }

pub returns-clause-more : goal.returns-clause-more
returns-clause-more g c =
    let now = lowered_to g.row.K c.args.place c.args.rank c.args.word c.fetch_min.result _ c.self.inside.seat.me
    c.fetch_min.new.seat.me c.fetch_min.ensures.2 c.at-at.ensures refl c.requires.may.rank_is
    c.self.invariant.ranks_is in
    subst (λ (v : WordsView). KnowsMore g.row.K v c.fetch_min.new.seat.me.0)
    (ap (λ (t : RankTellerState). t.view) c.self.view_is)
    (told_more g.row.K c.self.inside.seat.me.0 c.fetch_min.new.seat.me.0 c.args.place c.args.rank c.args.word
    c.fetch_min.result now)

pub returns-clause-carried : goal.returns-clause-carried
returns-clause-carried g c =
    ap (λ (v : WordsView). v.carried)
    (lowered_to g.row.K c.args.place c.args.rank c.args.word c.fetch_min.result _ c.self.inside.seat.me
    c.fetch_min.new.seat.me c.fetch_min.ensures.2 c.at-at.ensures refl c.requires.may.rank_is c.self.invariant.ranks_is)

pub returns-clause-told : goal.returns-clause-told
returns-clause-told g c =
    now_told g.row.K c.self.inside.seat.me.0 c.fetch_min.new.seat.me.0 c.args.place c.args.rank c.args.word
    c.fetch_min.result
    (lowered_to g.row.K c.args.place c.args.rank c.args.word c.fetch_min.result _ c.self.inside.seat.me
    c.fetch_min.new.seat.me c.fetch_min.ensures.2 c.at-at.ensures refl c.requires.may.rank_is c.self.invariant.ranks_is)

pub returns-clause-within : goal.returns-clause-within
returns-clause-within g c =
    let k = g.row.K in
    let me = c.self.inside.seat.me in
    let slot = slot_of_word c.fetch_min.result in
    let place : (c.at-at.result / k) ≡ c.args.place =
    ap (λ n. n / k) c.at-at.ensures ∙ place_of k c.args.place c.args.rank c.requires.may.rank_is in
    subst (λ (s : RankSeries). GivesNone k (get_or (whole_of k s) c.args.place []) slot)
    (ap (λ (t : RankTellerState). t.words.series) c.self.view_is)
    (subst (λ p. GivesNone k (get_or (whole_of k c.self.inside.words.now.series) p []) slot) place
    (subst (λ w. GivesNone k (get_or w (c.at-at.result / k) []) slot) c.self.invariant.whole_is
    (subst (λ n. GivesNone n (get_or me.0.whole (c.at-at.result / n) []) slot) c.self.invariant.ranks_is
    c.fetch_min.ensures.2.within)))
