-- The records of a text, read one at a time.
use Rattle.std.proofs.Common.{◌≡◌, ℕ, zero, suc, ◌+◌, ◌<◌, ◌≤◌, Bool, true, false, List, [], ◌∷◌, ◌++◌, length, Option}
use Rattle.std.proofs.Common.{Some, None, IsSome, unwrap_or, Bor, add-one, refl, sym, ap, subst, inl, inr, ◌∙◌, arith}
use Rattle.std.proofs.lemmas.Bool.{cases_Bool}
use Rattle.std.proofs.lemmas.Bool.Decides.{nat_tests}
use Rattle.std.specs.Bool.{MatchBool}
use Rattle.csv.specs.Machine.{Read, step, is_end, ends_at_end, next_record, fields_after, field_after}
use Rattle.csv.specs.Reading.{Reached, ReadRecord, default_config, reader_state, records_from, records_next, took_first}
use Rattle.csv.proofs.ReadFacts.{rows-end, rows-more}
use Rattle.csv.specs.declared.reader.Reader.{Reader}
use Rattle.csv.specs.declared.parser.State.{State}
use Rattle.csv.specs.declared.parser.State.TheVariants as st
use Rattle.mp_text.specs.Records.{IsBetweenRecords, records_in, records_left, unread}

-- a byte that ends a record leaves a state between two records
end_between : (s : State) (c : ℕ) → is_end (step default_config s c).1 ≡ true
    → ends_at_end (step default_config s c).0 ≡ false
end_between st.StartRecord c h = grind (arith, nat_tests)
end_between st.StartField c h = grind (arith, nat_tests)
end_between st.InField c h = grind (arith, nat_tests)
end_between st.InQuoted c h = grind (arith, nat_tests)
end_between st.AfterQuote c h = grind (arith, nat_tests)
end_between st.InEscape c h = grind (arith, nat_tests)
end_between st.InComment c h = grind (arith, nat_tests)
end_between st.AfterCr c h = grind (arith, nat_tests)

-- what is left behind a record, and the state there
after_record : (s : State) (fields : List (List ℕ)) (field xs : List ℕ) (p : Read)
    → next_record default_config s fields field xs ≡ Some p
    → (length p.2 ≤ length xs) × (ends_at_end p.1 ≡ false)
unfolding next_record
after_record s fields field [] p h =
    elim (cases_Bool (ends_at_end s)) [
      | inl ends ↦
          let e : (fields ++ field ∷ [], st.StartRecord, []) ≡ p = cc (rw ends at h) in
          let P : Read → Type 0 = λ q. (length q.2 ≤ 0) × (ends_at_end q.1 ≡ false) in
          subst P e (omega arith, refl)
      | inr goes ↦ cc (rw goes at h)
    ]
after_record s fields field (c ∷ rest) p h =
    elim (cases_Bool (is_end (step default_config s c).1)) [
      | inl ends ↦
          let e : (fields_after (step default_config s c).1 fields field, (step default_config s c).0, rest) ≡ p =
          cc (rw ends at h) in
          let P : Read → Type 0 = λ q. (length q.2 ≤ suc (length rest)) × (ends_at_end q.1 ≡ false) in
          subst P e (omega arith, end_between s c ends)
      | inr goes ↦
          let deeper =
          after_record (step default_config s c).0 (fields_after (step default_config s c).1 fields field)
          (field_after (step default_config s c).1 c field) rest p (rw goes at h) in
          (omega (arith, deeper.0), deeper.1)
    ]

-- a record that is read takes a byte
shorter : (s : State) (xs : List ℕ) (p : Read) → ends_at_end s ≡ false → next_record default_config s [] [] xs ≡ Some p
    → length p.2 < length xs
unfolding next_record
shorter s [] p between h = absurd (cc (rw between at h))
shorter s (c ∷ rest) p between h =
    elim (cases_Bool (is_end (step default_config s c).1)) [
      | inl ends ↦
          let e : (fields_after (step default_config s c).1 [] [], (step default_config s c).0, rest) ≡ p =
          cc (rw ends at h) in
          let P : Read → Type 0 = λ q. length q.2 < suc (length rest) in
          subst P e (omega arith)
      | inr goes ↦
          let deeper =
          after_record (step default_config s c).0 (fields_after (step default_config s c).1 [] [])
          (field_after (step default_config s c).1 c []) rest p (rw goes at h) in
          omega (arith, deeper.0)
    ]

next_same : (o : Option Read) (more others : State → List ℕ → List (List (List ℕ)))
    → ((p : Read) → o ≡ Some p → more p.1 p.2 ≡ others p.1 p.2) → records_next more o ≡ records_next others o
next_same None more others h = refl
next_same (Some p) more others h = ap (λ rows. p.0 ∷ rows) (h p refl)

-- more turns than bytes change nothing
enough_turns : (n m : ℕ) (s : State) (xs : List ℕ) → length xs < n → length xs < m → ends_at_end s ≡ false
    → records_from default_config n s xs ≡ records_from default_config m s xs
unfolding records_from
enough_turns zero m s xs hn hm between = absurd (omega arith)
enough_turns (suc n) zero s xs hn hm between = absurd (omega arith)
enough_turns (suc n) (suc m) s xs hn hm between =
    next_same (next_record default_config s [] [] xs) (records_from default_config n) (records_from default_config m)
    (λ p e.
    enough_turns n m p.1 p.2 (omega (arith, shorter s xs p between e)) (omega (arith, shorter s xs p between e))
    (after_record s [] [] xs p e).1)

records_in-next : (s : State) (xs : List ℕ) (p : Read) → ends_at_end s ≡ false
    → next_record default_config s [] [] xs ≡ Some p → records_in s xs ≡ p.0 ∷ records_in p.1 p.2
unfolding records_from
records_in-next s xs p between e =
    rw (add-one, e) (ap (λ rows. p.0 ∷ rows)
    (enough_turns (length xs) (length p.2 + 1) p.1 p.2 (shorter s xs p between e) (omega arith)
    (after_record s [] [] xs p e).1))

records_in-end : (s : State) (xs : List ℕ) → next_record default_config s [] [] xs ≡ None → records_in s xs ≡ []
unfolding records_from
records_in-end s xs e = rw (add-one, e) refl

known_some : {X : Type 0} → (o : Option X) → IsSome o → (y : X) × (o ≡ Some y)
known_some None h = absurd (cc h)
known_some (Some y) h = (y, refl)

found_record : (a b : Reader (Bor (List ℕ))) (fields : List (List ℕ)) → IsBetweenRecords a
    → ReadRecord (λ s. Some s.now) a b true fields → took_first b ≡ true
    → IsBetweenRecords b × (records_left a ≡ fields ∷ records_left b)
unfolding Reached
found_record a b fields at read first =
    let (y, known) = known_some (unread a) at.known in
    let m =
    rows-more (λ (s : Bor (List ℕ)). Some s.now) a b fields default_config (reader_state a) y y [] at.config known
    (refl, refl) read in
    let (z, left, reached) = m in
    let (p, next, is, ends) = reached in
    let (state, rest) = ends in
    let more : records_in (reader_state a) y ≡ p.0 ∷ records_in p.1 p.2 =
    records_in-next (reader_state a) y p at.between next in
    let P : State → Type 0 = λ t. ends_at_end t ≡ false in
    let before : records_left a ≡ records_in (reader_state a) y =
    ap (λ (o : Option (List ℕ)). records_in (reader_state a) (unwrap_or o [])) known in
    let behind : records_left b ≡ records_in (reader_state b) z =
    ap (λ (o : Option (List ℕ)). records_in (reader_state b) (unwrap_or o [])) left in
    let moved : records_in p.1 p.2 ≡ records_in (reader_state b) z =
    ap (λ (t : State). records_in t p.2) state ∙ ap (λ (t : List ℕ). records_in (reader_state b) t) rest in (
      record {
        config = read.2 ∙ at.config;
        untrimmed = read.3 ∙ at.untrimmed;
        ready = inl first;
        known = rw left refl;
        between = subst P state (after_record (reader_state a) [] [] y p next).1;
      },
      before
          ∙ more
          ∙ ap (λ (f : List (List ℕ)). f ∷ records_in p.1 p.2) (sym is)
          ∙ ap (λ (rows : List (List (List ℕ))). fields ∷ rows) (moved ∙ sym behind),
    )

no_record : (a b : Reader (Bor (List ℕ))) (fields : List (List ℕ)) → IsBetweenRecords a
    → ReadRecord (λ s. Some s.now) a b false fields → records_left a ≡ []
no_record a b fields at read =
    let (y, known) = known_some (unread a) at.known in
    rw known (records_in-end (reader_state a) y
    (rows-end (λ (s : Bor (List ℕ)). Some s.now) a b fields default_config y at.config known read))

pub between_after : (a b : Reader (Bor (List ℕ))) (found : Bool) (fields : List (List ℕ)) → IsBetweenRecords a
    → ReadRecord (λ s. Some s.now) a b found fields → took_first b ≡ true
    → found ≡ true → IsBetweenRecords b
between_after a b true fields at read first h = (found_record a b fields at read first).0
between_after a b false fields at read first h = absurd (cc h)

pub left_after : (a b : Reader (Bor (List ℕ))) (found : Bool) (fields : List (List ℕ)) → IsBetweenRecords a
    → ReadRecord (λ s. Some s.now) a b found fields → took_first b ≡ true
    → MatchBool found (records_left a ≡ fields ∷ records_left b) (records_left a ≡ [])
left_after a b true fields at read first = (found_record a b fields at read first).1
left_after a b false fields at read first = no_record a b fields at read
