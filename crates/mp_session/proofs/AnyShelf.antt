-- What a line does whatever the shelf tells.
use Rattle.std.proofs.Common.{◌≡◌, ℕ, zero, suc, ◌+◌, ◌==◌, Bool, true, false, List, [], ◌∷◌, ◌++◌, set, refl, ap}
use Rattle.std.proofs.Common.{◌∙◌, sym, subst, arith}
use Rattle.std.proofs.lemmas.Bool.Decides.{nat_tests}
use Rattle.std.specs.Prelude.{Option, Some, None, is_none, if◌then◌else◌}
use Rattle.mp_requests.specs.Requests.{is_accepted, kind_of}
use Rattle.mp_requests.specs.declared.answers.ReplyKind.TheVariants as kinds
use Rattle.mp_nums.specs.declared.widths.Width.{Width}
use Rattle.mp_replies.specs.Answer as replies
use Rattle.mp_replies.specs.declared.causes.Cause.{Cause}
use Rattle.mp_replies.specs.declared.modes.Mode.{Mode}
use Rattle.mp_replies.specs.declared.causes.Cause.TheVariants.{File, FileSize, Record, Rows}
use Rattle.mp_replies.specs.Change.{Change, changed}
use Rattle.mp_replies.specs.Command as asked
use Rattle.mp_replies.specs.Command.{Command}
use Rattle.mp_replies.specs.Conditions.{Condition, first_cause}
use Rattle.mp_replies.specs.LazyCommand.{lazy_conditions}
use Rattle.mp_replies.specs.Line.{Asked, Asks, asked_of}
use Rattle.mp_replies.specs.LoadCommand.{file_conditions, file_in, load_conditions}
use Rattle.mp_replies.specs.Output.{reply}
use Rattle.mp_replies.specs.Report.{written_of}
use Rattle.mp_replies.specs.State.{Files, State, Store, store_at}
use Rattle.mp_replies.specs.Step.{IsAccepted, Verdict, after, after_by, answer, answer_by}
use Rattle.mp_replies.specs.Step.{change_by, conditions, counted, fetches, fetches_by, is_last, report_by, verdict}
use Rattle.mp_replies.specs.Step.{verdict_by, verdict_of}
use Rattle.mp_requests.specs.declared.replies.Reply.{Reply}
use Rattle.mp_session.specs.Sessions.{IsFileRefused, IsOfFile, IsReplyBySome, IsReplyOverAny, SessionParts}
use Rattle.mp_session.specs.Sessions.{StandsFor, WasAccepted, changes}
use Rattle.mp_session.proofs.StepLemmas.{accepted_by, mode_by}

-- ---- a line that isn't accepted

counted_by : (state later : State) (v : Verdict) → is_accepted (kind_of (answer_by state later v)) ≡ false
    → after_by state v ≡ counted state
counted_by state later (IsAccepted command change) h =
    absurd (cc (accepted_by (is_last command) (report_by state later command), h))
counted_by state later other h = refl

unaccepted_after : (state : State) (line : List ℕ) (files : Files)
    → is_accepted (kind_of (answer state line files)) ≡ false → after state line files ≡ counted state
unfolding answer after
unaccepted_after state line files h = counted_by state (after state line files) (verdict state line files) h

-- ---- one that is

other_store : (stores : List Store) (at slot : ℕ) (store : Store) → (slot == at) ≡ false
    → store_at (set stores at store) slot ≡ store_at stores slot
other_store [] at slot store apart = refl
other_store (s ∷ stores) zero zero store apart = absurd (cc apart)
other_store (s ∷ stores) zero (suc slot) store apart = refl
other_store (s ∷ stores) (suc at) zero store apart = refl
other_store (s ∷ stores) (suc at) (suc slot) store apart =
    let rest : (slot == at) ≡ false = grind (arith, nat_tests) in other_store stores at slot store rest

others_stay : (state : State) (files : Files) (command : Command) (slot : ℕ) → changes (Asks command) slot ≡ false
    → store_at (changed state.window state.stores (change_by state files command)) slot ≡ store_at state.stores slot
others_stay state files (asked.OpenAnew at channels) slot apart = other_store state.stores at slot _ apart
others_stay state files (asked.KeepLast at keep) slot apart = other_store state.stores at slot _ apart
others_stay state files (asked.Load at file columns header) slot apart = other_store state.stores at slot _ apart
others_stay state files (asked.LoadLazy at file column header) slot apart = other_store state.stores at slot _ apart
others_stay state files (asked.Append at items) slot apart = other_store state.stores at slot _ apart
others_stay state files (asked.Advance at count) slot apart = other_store state.stores at slot _ apart
others_stay state files other slot apart = refl

accepted_where : (state later : State) (new : SessionParts) (command : Command) (why : Option Cause) (change : Change)
    → ((slot : ℕ) → changes (Asks command) slot ≡ false
    → store_at (changed state.window state.stores change) slot ≡ store_at state.stores slot)
    → is_accepted (kind_of (answer_by state later (verdict_by command why change))) ≡ true
    → StandsFor new (after_by state (verdict_by command why change)) → WasAccepted (Asks command) state new
accepted_where state later new command (Some why) change stay h stands = absurd (cc h)
accepted_where state later new command None change stay h stands =
    let stores = changed state.window state.stores change in
    record {
      stores = stores;
      stands = subst (λ (mode : Mode).
          StandsFor new
          (record state { mode = mode; lines = state.lines + 1; begun = true; stores = stores }))
          (mode_by state.mode command) stands;
      others = stay;
    }

accepted_of : (state later : State) (new : SessionParts) (files : Files) (what : Asked)
    → is_accepted (kind_of (answer_by state later (verdict_of state files what))) ≡ true
    → StandsFor new (after_by state (verdict_of state files what)) → WasAccepted what state new
accepted_of state later new files (Asks command) h stands =
    accepted_where state later new command (first_cause (conditions state files command))
    (change_by state files command) (others_stay state files command) h stands
accepted_of state later new files other h stands = absurd (cc h)

was_accepted : (state : State) (new : SessionParts) (line : List ℕ) (files : Files)
    → is_accepted (kind_of (answer state line files)) ≡ true → StandsFor new (after state line files)
    → WasAccepted (asked_of state.mode.version line) state new
unfolding answer after verdict
was_accepted state new line files h stands =
    accepted_of state (after state line files) new files (asked_of state.mode.version line) h stands

-- ---- a load that is refused by its file

abbrev answer_in : State → Verdict → replies.Answer
answer_in state v = answer_by state (after_by state v) v

abbrev written_in : State → ℕ → Verdict → List ℕ
written_in state line v = written_of (after_by state v).mode.form line (answer_in state v)

by_word : (holds : Bool) (word cause : Cause) (others : Option Cause) → IsOfFile word
    → (others ≡ Some cause → IsOfFile cause) → (if holds then Some word else others) ≡ Some cause → IsOfFile cause
by_word true word cause others is rest h = let same : word ≡ cause = cc in subst IsOfFile same is
by_word false word cause others is rest h = rest h

of_file : (width : Width) (scale : ℕ) (cols : List ℕ) (header : Bool) (found : Option (List ℕ)) (cause : Cause)
    → first_cause (file_conditions width scale cols header found) ≡ Some cause → IsOfFile cause
of_file width scale cols header None cause h = by_word true File cause None tt (λ none. absurd (cc none)) h
of_file width scale cols header (Some bytes) cause h =
    by_word _ FileSize cause _ tt
    (by_word _ (Record _) cause _ tt (by_word _ Rows cause None tt (λ none. absurd (cc none)))) h

behind_by : (holds : Bool) (word : Cause) (others more : List Condition)
    → is_none (if holds then Some word else first_cause others) ≡ true
    → (is_none (first_cause others) ≡ true → first_cause (others ++ more) ≡ first_cause more)
    → (if holds then Some word else first_cause (others ++ more)) ≡ first_cause more
behind_by true word others more h rest = absurd (cc h)
behind_by false word others more h rest = rest h

-- conditions behind others that don't hold
behind : (conditions more : List Condition) → is_none (first_cause conditions) ≡ true
    → first_cause (conditions ++ more) ≡ first_cause more
behind [] more h = refl
behind (condition ∷ others) more h = behind_by condition.holds condition.word others more h (behind others more)

refused_where : (state : State) (line : ℕ) (command : Command) (why : Option Cause) (change : Change) (text : List ℕ)
    → is_last command ≡ false → ((cause : Cause) → why ≡ Some cause → IsOfFile cause)
    → kinds.Refused ≡ kind_of (answer_in state (verdict_by command why change))
    → text ≡ written_in state line (verdict_by command why change) → IsFileRefused state.mode.form line text
refused_where state line command (Some cause) change text last of kind is =
    record { cause = cause; of_file = of cause refl; text_is = is }
refused_where state line command None change text last of kind is =
    let later = after_by state (IsAccepted command change) in
    let accepted : kind_of (answer_by state later (IsAccepted command change)) ≡ kinds.Accepted =
    ap (λ (b : Bool).
    kind_of
    (if b then replies.Ended (report_by state later command) else replies.Accepted (report_by state later command)))
    last in
    absurd (cc (kind ∙ accepted))

refused_of : (state : State) (files : Files) (what : Asked) (line : ℕ) (text : List ℕ)
    → fetches_by state what ≡ true → kinds.Refused ≡ kind_of (answer_in state (verdict_of state files what))
    → text ≡ written_in state line (verdict_of state files what) → IsFileRefused state.mode.form line text
refused_of state files (Asks (asked.Load slot file cols header)) line text asks kind is =
    refused_where state line (asked.Load slot file cols header)
    (first_cause (conditions state files (asked.Load slot file cols header)))
    (change_by state files (asked.Load slot file cols header)) text refl
    (λ cause h. of_file state.mode.width state.scale cols header (file_in files file) cause
    (sym (behind (load_conditions state.stores slot cols)
    (file_conditions state.mode.width state.scale cols header (file_in files file)) asks) ∙ h))
    kind is
refused_of state files (Asks (asked.LoadLazy slot file column header)) line text asks kind is =
    refused_where state line (asked.LoadLazy slot file column header)
    (first_cause (conditions state files (asked.LoadLazy slot file column header)))
    (change_by state files (asked.LoadLazy slot file column header)) text refl
    (λ cause h. of_file state.mode.width state.scale (column ∷ []) header (file_in files file) cause
    (sym (behind (lazy_conditions slot)
    (file_conditions state.mode.width state.scale (column ∷ []) header (file_in files file)) asks) ∙ h))
    kind is
refused_of state files other line text asks kind is = absurd (cc asks)

file_refused : (state : State) (line : List ℕ) (files : Files) (text : List ℕ) → fetches state line ≡ true
    → kinds.Refused ≡ kind_of (answer state line files) → text ≡ reply state line files
    → IsFileRefused state.mode.form (state.lines + 1) text
unfolding answer after verdict fetches reply
file_refused state line files text asks kind is =
    refused_of state files (asked_of state.mode.version line) (state.lines + 1) text asks kind is

-- ---- what a reply by some files says of the session

pub over_any : (state : State) (old new : SessionParts) (line : List ℕ) (answered : Reply)
    → IsReplyBySome line old new answered → StandsFor old state → IsReplyOverAny state line new answered
over_any state old new line answered some h =
    let by = some.is state h in
    record {
      unaccepted = λ no.
          subst (StandsFor new) (unaccepted_after state line some.files (ap is_accepted (sym by.kind) ∙ no)) by.after;
      accepted = λ yes. was_accepted state new line some.files (ap is_accepted (sym by.kind) ∙ yes) by.after;
      file_refused = λ asks refused.
          file_refused state line some.files answered.text.items asks (sym refused ∙ by.kind) by.text;
    }
