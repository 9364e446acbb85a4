use Rattle.std.proofs.Common.{IsPermutation, IsSorted, ◌≡◌, true, replicate, length, arith, rules, ap, sym, ◌∙◌}
use Rattle.std.proofs.Common.{subst, inl, inr, refl, get_or, map, [], ◌∷◌, ◌++◌, false, ◌+◌, ◌<◌, ◌≤◌}
use Rattle.std.proofs.lemmas.Bool.Decides.{nat_tests}
use Rattle.mp_results.specs.Order.{near_cmp}
use Rattle.std.specs.Prelude.{◌&&◌, nat_lt}
use Rattle.std.specs.Int.{abs_diff}
use Rattle.std.specs.List.{list_all}
use Rattle.std.proofs.lemmas.List.{get_or_read, get_or_default}
use Rattle.mp_nums.specs.declared.nearest.Near.{Near}
use Rattle.mp_defs.specs.Series.{series_of}
use Rattle.mp_results.specs.Motifs.{MotifQuery, matches_of, within_cutoff, repeated_of}
use Rattle.mp_motifs.proofs.Entries.{candidate_is, motifs_among_candidates, tried_is}
use Rattle.mp_motifs.proofs.Searching.{BeginsAt, ShutsOut, IsSearching, search_starts, search_ends, passed_over}
use Rattle.mp_motifs.proofs.Searching.{tried_and_kept, tried_and_left, written_over}
use Rattle.mp_motifs.proofs.repeated.motifs.Goals as goal
use Rattle.mp_motifs.proofs.repeated.motifs.Goals.{then-index+in_ok-matches+then-is_kept+in_ok-push}
use Rattle.mp_motifs.proofs.repeated.motifs.Goals.{then-index+in_ok-matches+else-is_kept, else-index}
use Rattle.mp_motifs.proofs.repeated.motifs.Goals.{else-loop-candidate-test, then-loop-candidate-test+then-count-len}

pub loop-candidate-init : goal.loop-candidate-init
loop-candidate-init g c =
    let m = c.args.m in
    let profile = c.args.profile.now in
    let a = series_of c.args.series.now in
    let all = within_cutoff c.args.cutoff.0 profile in
    let sorted = c.deref-candidate-items.result.now in
    let same = subst (IsPermutation all) (sym c.deref-candidate-items.ensures.value) c.in_ok-candidates.ensures.same in
    let free : c.in_ok-is_free.is_free.items ≡ replicate (length profile) true = search rules in
    search_starts (matches_of m a c.args.radius.0 c.args.max_matches) c.excl-zone.result c.args.neighbours c.args.count
    all sorted (length profile) _ _ free c.new-found.ensures.items same
    (λ x h. (candidate_is m a c.args.cutoff.0 profile c.requires.profile x h).within)

pub index-requires : goal.index-requires
index-requires g c =
    let profile = c.args.profile.now in
    let all = within_cutoff c.args.cutoff.0 profile in
    let sorted = c.deref-candidate-items.result.now in
    let none : Near = record { dist = record { 0 = 0 }; index = 0 } in
    let same = subst (IsPermutation all) (sym c.deref-candidate-items.ensures.value) c.in_ok-candidates.ensures.same in
    let tried = tried_is c.args.m (series_of c.args.series.now) c.args.cutoff.0 profile sorted
    c.loop-candidate.candidate-index none c.requires.profile same (omega arith) in
    omega (arith, tried.within, c.loop-candidate.invariant.long, c.loop-candidate.is_free.ok.0)

pub windows_that_match-requires-clause-entry : goal.windows_that_match-requires-clause-entry
windows_that_match-requires-clause-entry g c κs within =
    let profile = c.args.profile.now in
    let all = within_cutoff c.args.cutoff.0 profile in
    let sorted = c.deref-candidate-items.result.now in
    let same = subst (IsPermutation all) (sym c.deref-candidate-items.ensures.value) c.in_ok-candidates.ensures.same in
    (tried_is c.args.m (series_of c.args.series.now) c.args.cutoff.0 profile sorted c.loop-candidate.candidate-index
    _ c.requires.profile same (omega arith)).entry_is

pub loop-candidate-preserved : goal.loop-candidate-preserved
loop-candidate-preserved g c =
    let m = c.args.m in
    let profile = c.args.profile.now in
    let a = series_of c.args.series.now in
    let all = within_cutoff c.args.cutoff.0 profile in
    let sorted = c.deref-candidate-items.result.now in
    let i = c.loop-candidate.candidate-index in
    let none : Near = record { dist = record { 0 = 0 }; index = 0 } in
    let x = get_or sorted i none in
    let h = c.loop-candidate.invariant in
    let old = c.loop-candidate.is_free.items in
    let zone = c.excl-zone.result in
    let matches_at = matches_of m a c.args.radius.0 c.args.max_matches in
    let found = c.loop-candidate.found.items in
    let searching = IsSearching matches_at zone c.args.neighbours c.args.count all sorted (length profile) in
    let here : (d : Near) → get_or sorted i d ≡ x = λ d. get_or_default sorted i d none (omega arith) in
    let up : IsSorted near_cmp sorted = subst (IsSorted near_cmp) (sym c.deref-candidate-items.ensures.value)
    c.in_ok-candidates.ensures.sorted in
    let same = subst (IsPermutation all) (sym c.deref-candidate-items.ensures.value) c.in_ok-candidates.ensures.same in
    let within = (tried_is m a c.args.cutoff.0 profile sorted i none c.requires.profile same (omega arith)).within in
    let read = get_or_read old x.index c.index.result.now (omega (arith, within, h.long)) c.index.ensures false in
    elim c.if-index.branch [
      | then-index+in_ok-matches+then-is_kept+in_ok-push w ↦
          (let list = w.as_slice-then-index.result.now in
          let list_is : list ≡ matches_at x.index = w.as_slice-then-index.ensures ∙ w.in_ok-matches.ensures in
          let new = w.shut_out_all.new.is_free in
          let long : length new ≡ length old = omega
          (arith, w.shut_out_all.auto.is_free, w.as_mut_slice.ensures.len, c.loop-candidate.is_free.ok.0) in
          let shut : ShutsOut zone old new list =
          λ other. w.shut_out_all.ensures other
          ∙ ap (λ bs. get_or bs other false && list_all (λ near. nat_lt zone (abs_diff near.index other)) list)
          w.as_mut_slice.ensures.value in
          let free_is : c.if-index.is_free.items ≡ new = ap (λ v. v.items) w.is_free-is
          ∙ written_over c.loop-candidate.is_free.len new old
          (omega (arith, long, c.loop-candidate.is_free.ok.0)) in
          let more : c.args.neighbours < length list =
          omega (arith, w.if-is_kept.true, ap length w.as_slice.ensures, ap length w.as_slice-then-index.ensures) in
          let test : nat_lt c.args.neighbours (length list) ≡ true = grind (arith, nat_tests) in
          let found_is : c.if-index.found.items
          ≡ found ++ record { start = x.index; matches = w.in_ok-matches.matches } ∷ [] = ap
          (λ v. v.items) w.found-is ∙ w.in_ok-push.ensures.items in
          subst (λ v. searching (i + 1) v c.if-index.found.items) (sym free_is)
          (subst (λ v. searching (i + 1) new v) (sym found_is)
          (tried_and_kept matches_at zone c.args.neighbours c.args.count all sorted (length profile) i old found x h
          (omega arith) here up (sym read ∙ w.if-index.true) (omega arith)
          list list_is (subst (BeginsAt x.index) (sym list_is) refl) new long shut
          (record { start = x.index; matches = w.in_ok-matches.matches })
          (ap (λ nears. record { start = x.index; matches = nears }) (sym w.as_slice-then-index.ensures)) test)))
      | then-index+in_ok-matches+else-is_kept w ↦
          (let list = w.as_slice-then-index.result.now in
          let list_is : list ≡ matches_at x.index = w.as_slice-then-index.ensures ∙ w.in_ok-matches.ensures in
          let new = w.shut_out_all.new.is_free in
          let long : length new ≡ length old = omega
          (arith, w.shut_out_all.auto.is_free, w.as_mut_slice.ensures.len, c.loop-candidate.is_free.ok.0) in
          let shut : ShutsOut zone old new list =
          λ other. w.shut_out_all.ensures other
          ∙ ap (λ bs. get_or bs other false && list_all (λ near. nat_lt zone (abs_diff near.index other)) list)
          w.as_mut_slice.ensures.value in
          let free_is : c.if-index.is_free.items ≡ new = ap (λ v. v.items) w.is_free-is
          ∙ written_over c.loop-candidate.is_free.len new old
          (omega (arith, long, c.loop-candidate.is_free.ok.0)) in
          let few : length list ≤ c.args.neighbours =
          omega (arith, w.if-is_kept.false, ap length w.as_slice.ensures, ap length w.as_slice-then-index.ensures) in
          let test : nat_lt c.args.neighbours (length list) ≡ false = grind (arith, nat_tests) in
          subst (λ v. searching (i + 1) v c.if-index.found.items) (sym free_is)
          (subst (λ v. searching (i + 1) new v) (sym (ap (λ v. v.items) w.found-is))
          (tried_and_left matches_at zone c.args.neighbours c.args.count all sorted (length profile) i old found x h
          (omega arith) here up (sym read ∙ w.if-index.true) (omega arith)
          list list_is (subst (BeginsAt x.index) (sym list_is) refl) new long shut test)))
      | else-index w ↦ subst (λ v. searching (i + 1) v c.if-index.found.items) (sym (ap (λ v. v.items) w.is_free-is))
          (subst (λ v. searching (i + 1) old v) (sym (ap (λ v. v.items) w.found-is))
          (passed_over matches_at zone c.args.neighbours c.args.count all sorted (length profile) i old found x h
          (omega arith) here (sym read ∙ w.if-index.false)))
    ]

pub returns : goal.returns
returns g c =
    let m = c.args.m in
    let profile = c.args.profile.now in
    let a = series_of c.args.series.now in
    let matches_at = matches_of m a c.args.radius.0 c.args.max_matches in
    let sorted = c.deref-candidate-items.result.now in
    let i = c.loop-candidate.candidate-index in
    let is_free = c.loop-candidate.is_free.items in
    let found = c.loop-candidate.found.items in
    let all = within_cutoff c.args.cutoff.0 profile in
    let query : MotifQuery = record {
      cutoff = c.args.cutoff.0;
      radius = c.args.radius.0;
      neighbours = c.args.neighbours;
      max_matches = c.args.max_matches;
      count = c.args.count;
    } in
    motifs_among_candidates m a query profile c.excl-zone.result (map repeated_of found) c.requires.profile
    c.excl-zone.ensures
    (elim c.loop-candidate-test.branch [
      | else-loop-candidate-test w ↦ search_ends matches_at c.excl-zone.result c.args.neighbours c.args.count all
          sorted (length profile) i is_free found c.loop-candidate.invariant (inr (omega arith))
      | then-loop-candidate-test+then-count-len w ↦ search_ends matches_at c.excl-zone.result c.args.neighbours
          c.args.count all sorted (length profile) i is_free found c.loop-candidate.invariant (inl (omega arith))
    ])
