-- What workers that share have together.
use Rattle.std.proofs.Common.{◌≡◌, ℕ, ◌<◌, ◌≤◌, List, [], ◌∷◌, ◌++◌, length, get_or, append-nil, refl, sym, ap}
use Rattle.std.proofs.Common.{subst, ◌∙◌, arith}
use Rattle.std.specs.Prelude.{All, Some, slice_get, slice_set, sum_by}
use Rattle.std.specs.List.{range_with_len}
use Rattle.std.proofs.lemmas.List.Concat.{flat_map-append}
use Rattle.std.proofs.lemmas.List.Elements.{All-append, All-cons, All-head, All-nil, All-push, All-set, All-tail}
use Rattle.mp_partial.specs.Values.{Value, merged_over, merged_below}
use Rattle.mp_partial.specs.MergeLaws.{IsMerging}
use Rattle.mp_partial.specs.TogetherLaws.{merges_by_pieces}
use Rattle.mp_workers.specs.Desks.{DeskId, once_below, pieces_among, times}
use Rattle.mp_workers.specs.Sharing.{AreReadyToShare, HasPieces, HaveShared, IsReadyToShare}
use Rattle.mp_workers.specs.SharingLaws.{both_within, first_has, other_has}
use Rattle.mp_workers.specs.Teams.{IsDone, IsReady, WorkerState, pieces_of, with_first_of}
use Rattle.mp_workers.proofs.Teaming.{all_drawn, are_below, first_is_done, first_of_both, first_set, first_within}
use Rattle.mp_workers.proofs.Teaming.{past_next, same_drawn}
use Rattle.mp_workers.proofs.Working.{pieces_have}

module _ (IsValue : ℕ → Value → Type 0) (unit : ℕ → Value) (merged : Value → Value → Value)
    (laws : IsMerging IsValue unit merged) (size : ℕ) where
  -- what has more still has it
  still_has : (old new piece : Value) → IsValue size old → IsValue size new → IsValue size piece
      → merged new old ≡ new → merged old piece ≡ old → merged new piece ≡ new
  still_has old new piece is is_new is_piece more has =
      ap (λ v. merged v piece) (sym more) ∙ laws.associative size new old piece is_new is is_piece
      ∙ ap (merged new) has ∙ more

  -- one more piece
  pub one_more_has : (value : ℕ → Value) (whole old new : Value) (numbers : List ℕ) (piece pieces : ℕ)
      → ((k : ℕ) → k < pieces → IsValue size (value k)) → All (λ k. k < pieces) numbers
      → IsValue size old → IsValue size new → HasPieces merged value whole old numbers
      → merged new (value piece) ≡ new → merged new old ≡ new → merged new whole ≡ whole
      → HasPieces merged value whole new (numbers ++ piece ∷ [])
  one_more_has value whole old new numbers piece pieces values below is is_new h has more within = record {
    within = within;
    pieces = All-push (λ k. merged new (value k) ≡ new) numbers piece
        (λ k d lt. still_has old new (value (get_or numbers k d)) is is_new (values (get_or numbers k d) (below k d lt))
        more (h.pieces k d lt)) has;
  }

  -- one worker that is done
  pub one_has_shared : (desk : DeskId) (value : ℕ → Value) (whole : Value) (workers : List WorkerState)
      (worker : WorkerState) → length workers ≡ 1 → IsDone desk size worker → IsValue size worker.found
      → HasPieces merged value whole worker.found (pieces_among desk.pieces worker.pass.drawn)
      → HaveShared IsValue merged value whole desk size (slice_set workers 0 worker)
  one_has_shared desk value whole [] worker one done is has = absurd (omega (arith, one))
  one_has_shared desk value whole (x ∷ y ∷ rest) worker one done is has = absurd (omega (arith, one))
  one_has_shared desk value whole (x ∷ []) worker one done is has = record {
    done = All-cons (IsDone desk size) worker [] done (All-nil (IsDone desk size));
    first = worker;
    is_first = refl;
    is_value = is;
    found = record {
      within = has.within;
      pieces = subst (All (λ k. merged worker.found (value k) ≡ worker.found))
          (sym (append-nil (pieces_among desk.pieces worker.pass.drawn))) has.pieces;
    };
  }

  -- workers that begin with nothing
  pub units_share : (desk : DeskId) (whole : Value) (workers : List WorkerState) → IsValue size whole
      → All (IsReady desk size (unit size)) workers → AreReadyToShare IsValue merged whole desk size workers
  units_share desk whole workers is all = record {
    whole_is_value = is;
    each = λ k d lt. (let ready = all k d lt in record {
      of_team = ready.of_team;
      drawn = ready.drawn;
      is_value = subst (IsValue size) (sym ready.found) (laws.unit_is_value size);
      within = ap (λ v. merged v whole) ready.found ∙ laws.unit_first size whole is;
    });
  }

  -- some of them
  pub some_share : (desk : DeskId) (whole : Value) (workers some : List WorkerState)
      → AreReadyToShare IsValue merged whole desk size workers
      → All (IsReadyToShare IsValue merged whole desk size) some
      → AreReadyToShare IsValue merged whole desk size some
  some_share desk whole workers some all each = record { whole_is_value = all.whole_is_value; each = each }

  -- two halves of a team, once the first worker of one has what both found
  pub both_have_shared : (desk : DeskId) (value : ℕ → Value) (whole : Value)
      → ((k : ℕ) → k < desk.pieces → IsValue size (value k)) → IsValue size whole
      → (low high low' : List WorkerState) → (h : HaveShared IsValue merged value whole desk size low)
      → (k : HaveShared IsValue merged value whole desk size high)
      → ((first other : WorkerState) → slice_get low 0 ≡ Some first → slice_get high 0 ≡ Some other
      → low' ≡ slice_set low 0 (with_first_of merged first other))
      → HaveShared IsValue merged value whole desk size (low' ++ high)
  both_have_shared desk value whole values is_whole low high low' h k sets =
      let a = h.first.found in
      let b = k.first.found in
      let first = with_first_of merged h.first k.first in
      let done = first_is_done desk size low h.first h.is_first h.done in
      let drawn = λ (workers : List WorkerState). pieces_of desk.pieces workers in
      let below = λ (workers : List WorkerState). are_below desk.pieces workers in
      subst (λ team. HaveShared IsValue merged value whole desk size (team ++ high))
      (sym (sets h.first k.first h.is_first k.is_first)) (record {
        done = All-append (IsDone desk size) (slice_set low 0 first) high
            (All-set (IsDone desk size) low 0 first
            (record {
              of_team = record {
                of_desk = done.of_team.of_desk;
                weight = done.of_team.weight;
                size_is = done.of_team.size_is;
              };
              past_pieces = done.past_pieces;
            })
            h.done)
            k.done;
        first = first;
        is_first = first_of_both (slice_set low 0 first) high first (first_set low h.first first h.is_first);
        is_value = laws.merged_is_value size a b h.is_value k.is_value;
        found = record {
          within = both_within IsValue unit merged laws size whole a b is_whole h.is_value k.is_value h.found.within
              k.found.within;
          pieces = subst (All (λ n. merged (merged a b) (value n) ≡ merged a b))
              (ap (λ ns. ns ++ drawn high) (sym (same_drawn desk.pieces low h.first first h.is_first refl))
              ∙ sym (flat_map-append (λ worker. pieces_among desk.pieces worker.pass.drawn) (slice_set low 0 first)
              high))
              (All-append (λ n. merged (merged a b) (value n) ≡ merged a b) (drawn low) (drawn high)
              (λ n d lt. first_has IsValue unit merged laws size a b (value (get_or (drawn low) n d)) h.is_value
              k.is_value
              (values (get_or (drawn low) n d) (below low n d lt)) (h.found.pieces n d lt))
              (λ n d lt. other_has IsValue unit merged laws size a b (value (get_or (drawn high) n d)) h.is_value
              k.is_value
              (values (get_or (drawn high) n d) (below high n d lt)) (k.found.pieces n d lt)));
        };
      })

  -- a value that has some pieces has what they have together
  has_together : (value : ℕ → Value) (found : Value) (numbers : List ℕ) (pieces : ℕ)
      → ((k : ℕ) → k < pieces → IsValue size (value k)) → IsValue size found → All (λ k. k < pieces) numbers
      → All (λ k. merged found (value k) ≡ found) numbers
      → merged found (merged_over merged (unit size) value numbers) ≡ found
  has_together value found [] pieces values is below has = laws.unit_last size found is
  has_together value found (n ∷ ns) pieces values is below has =
      let P = λ (k : ℕ). merged found (value k) ≡ found in
      let Q = λ (k : ℕ). k < pieces in
      let rest = merged_over merged (unit size) value ns in
      let rest_is = (merges_by_pieces IsValue unit merged laws).is_value size value ns
      (pieces_have IsValue size value pieces ns values (All-tail Q n ns below)) in
      sym (laws.associative size found (value n) rest is (values n (All-head Q n ns below)) rest_is)
      ∙ ap (λ v. merged v rest) (All-head P n ns has)
      ∙ has_together value found ns pieces values is (All-tail Q n ns below) (All-tail P n ns has)

  -- where the workers of a closed desk have shared, the first of them has found the whole
  pub all_shared : (desk : DeskId) (value : ℕ → Value) (whole : Value)
      → ((k : ℕ) → k < desk.pieces → IsValue size (value k))
      → whole ≡ merged_below merged (unit size) value desk.pieces → (workers : List WorkerState)
      → (run : HaveShared IsValue merged value whole desk size workers) → (next : ℕ)
      → ((x : ℕ) → sum_by (λ worker. times x worker.pass.drawn) workers ≡ once_below next x)
      → run.first.found ≡ whole
  all_shared desk value whole values whole_is workers run next once =
      let last = (first_is_done desk size workers run.first run.is_first run.done).past_pieces in
      let there : 1 ≤ once_below next last.0 =
      omega (arith, last.2, first_within workers run.first last.0 run.is_first, once last.0) in
      let past : desk.pieces < next = omega (arith, last.1, past_next next last.0 there) in
      let found = run.first.found in
      let below = are_below desk.pieces workers in
      sym (has_together value found (pieces_of desk.pieces workers) desk.pieces values run.is_value below
      run.found.pieces)
      ∙ ap (merged found) ((merges_by_pieces IsValue unit merged laws).same size value (pieces_of desk.pieces workers)
      (range_with_len 0 desk.pieces)
      (pieces_have IsValue size value desk.pieces (pieces_of desk.pieces workers) values below)
      (all_drawn desk.pieces next workers once past))
      ∙ ap (merged found) (sym whole_is) ∙ run.found.within
