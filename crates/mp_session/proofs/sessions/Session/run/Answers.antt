use Rattle.std.proofs.Common.{◌∙◌, ◌≤◌, Ok, ap, refl, rules, sym, subst}
use Rattle.mp_replies.specs.Line.{asked_of}
use Rattle.mp_replies.specs.State.{first_version, second_version}
use Rattle.mp_replies.specs.declared.modes.Mode.{Mode}
use Rattle.mp_requests.specs.Requests.{is_accepted}
use Rattle.mp_requests.specs.declared.replies.Stop.{Stop}
use Rattle.mp_commands.specs.Fetching.{reworded}
use Rattle.mp_session.specs.Sessions.{AsksFile, SessionParts, StandsFor, WereReadBy}
use Rattle.mp_session.proofs.AnyShelf.{over_any}
use Rattle.mp_session.proofs.EndLemmas.{no_shelf_fault, on_err, passed_back, passed_on}
use Rattle.mp_session.proofs.ReadLemmas.{answered_reads, stopped_change, stopped_reads}
use Rattle.mp_session.proofs.StepLemmas.{named_within, needs_file, prepared_by, prepared_in, replied, stands_still}
use Rattle.mp_session.proofs.StepLemmas.{stops_still}
use Rattle.mp_session.proofs.sessions.Session.run.Goals as goal

-- ---- the run stopped at the line

pub returns-in_err-prepared-clause-stop : goal.returns-in_err-prepared-clause-stop
returns-in_err-prepared-clause-stop g c = λ state h.
    let inside = subst (λ (s : SessionParts). StandsFor s state) (sym c.self.view_is) h in
    on_err c.from_residual.result
    (stands_still _ _ state refl refl refl refl c.prepare.ensures.stores.stands inside)

pub returns-in_err-prepared-clause-reads : goal.returns-in_err-prepared-clause-reads
returns-in_err-prepared-clause-reads g c =
    let line = c.args.line.now in
    let asked = asked_of c.self.inside.mode.version line in
    subst (λ (s : SessionParts).
    WereReadBy (asked_of s.mode.version line) s.stores c.prepare.new.stores c.from_residual.result) c.self.view_is
    (stopped_reads asked c.self.inside.stores c.prepare.new.stores c.from_residual.result (search rules)
    c.prepare.ensures.stores.read)

pub returns-in_err-prepared-clause-shelf : goal.returns-in_err-prepared-clause-shelf
returns-in_err-prepared-clause-shelf g c =
    let line = c.args.line.now in
    reworded c.in_err-prepared.ensures.shelf
    (λ file asks. needs_file _ _ line (λ stores. refl) c.self.invariant.window file
    (subst (λ (s : SessionParts). AsksFile line s file) (sym c.self.view_is) asks))
    (passed_on c.from_residual.result _ _ c.from_residual.ensures.1)
    (passed_back c.from_residual.result _ _ c.from_residual.ensures.1)

pub returns-in_err-reply-clause-stop : goal.returns-in_err-reply-clause-stop
returns-in_err-reply-clause-stop g c = λ state h.
    let inside = subst (λ (s : SessionParts). StandsFor s state) (sym c.self.view_is) h in
    on_err c.from_residual-in_err-reply.result
    (stands_still _ _ state refl refl refl refl c.prepare.ensures.stores.stands inside)

pub returns-in_err-reply-clause-reads : goal.returns-in_err-reply-clause-reads
returns-in_err-reply-clause-reads g c =
    let line = c.args.line.now in
    let asked = asked_of c.self.inside.mode.version line in
    let stop = c.from_residual-in_err-reply.result in
    subst (λ (s : SessionParts). WereReadBy (asked_of s.mode.version line) s.stores c.prepare.new.stores stop)
    c.self.view_is
    (stopped_reads asked c.self.inside.stores c.prepare.new.stores stop (search rules) c.prepare.ensures.stores.read)

pub returns-in_err-reply-clause-shelf : goal.returns-in_err-reply-clause-shelf
returns-in_err-reply-clause-shelf g c =
    let line = c.args.line.now in
    reworded c.in_ok-prepared.ensures.shelf
    (λ file asks. needs_file _ _ line (λ stores. refl) c.self.invariant.window file
    (subst (λ (s : SessionParts). AsksFile line s file) (sym c.self.view_is) asks))
    (λ fault. absurd
    (no_shelf_fault c.from_residual-in_err-reply.result c.from_residual-in_err-reply.ensures.1 fault))
    (λ fault. absurd (cc fault))

pub returns-in_err-commit-clause-stop : goal.returns-in_err-commit-clause-stop
returns-in_err-commit-clause-stop g c = λ state h.
    let inside = subst (λ (s : SessionParts). StandsFor s state) (sym c.self.view_is) h in
    on_err c.from_residual-in_err-commit.result
    (stops_still _ _ _ state refl refl refl refl c.prepare.ensures.stores.stands c.in_err-commit.ensures.stopped inside)

pub returns-in_err-commit-clause-reads : goal.returns-in_err-commit-clause-reads
returns-in_err-commit-clause-reads g c =
    let line = c.args.line.now in
    let asked = asked_of c.self.inside.mode.version line in
    let stop = c.from_residual-in_err-commit.result in
    let new = c.commit.new.self.stores in
    subst (λ (s : SessionParts). WereReadBy (asked_of s.mode.version line) s.stores new stop) c.self.view_is
    (stopped_change asked c.self.inside.stores c.prepare.new.stores new c.in_ok-prepared.prepared stop (search rules)
    c.in_ok-prepared.ensures.ready c.prepare.ensures.stores c.in_err-commit.ensures.only c.commit.ensures.rise
    c.commit.ensures.rest)

pub returns-in_err-commit-clause-shelf : goal.returns-in_err-commit-clause-shelf
returns-in_err-commit-clause-shelf g c =
    let line = c.args.line.now in
    reworded c.in_ok-prepared.ensures.shelf
    (λ file asks. needs_file _ _ line (λ stores. refl) c.self.invariant.window file
    (subst (λ (s : SessionParts). AsksFile line s file) (sym c.self.view_is) asks))
    (λ fault. absurd
    (no_shelf_fault c.from_residual-in_err-commit.result c.from_residual-in_err-commit.ensures.1 fault))
    (λ fault. absurd (cc fault))

-- ---- the line was answered

pub commit-requires-clause-first : goal.commit-requires-clause-first
commit-requires-clause-first g c = λ _ _.
    subst (λ (mode : Mode). first_version ≤ mode.version) (sym c.unwrap_or-mode.ensures)
    (named_within (λ (mode : Mode). first_version ≤ mode.version) (λ mode within. within.0)
    c.self.inside.mode.version c.args.line.now c.in_ok-prepared.prepared.answer c.mode.result c.self.inside.mode
    c.mode.ensures c.in_ok-prepared.ensures.ready.mode c.self.invariant.first)

pub commit-requires-clause-last : goal.commit-requires-clause-last
commit-requires-clause-last g c = λ _ _.
    subst (λ (mode : Mode). mode.version ≤ second_version) (sym c.unwrap_or-mode.ensures)
    (named_within (λ (mode : Mode). mode.version ≤ second_version) (λ mode within. within.1)
    c.self.inside.mode.version c.args.line.now c.in_ok-prepared.prepared.answer c.mode.result c.self.inside.mode
    c.mode.ensures c.in_ok-prepared.ensures.ready.mode c.self.invariant.last)

pub returns-clause-told : goal.returns-clause-told
returns-clause-told g c = λ state files h told.
    let line = c.args.line.now in
    let prepared = c.in_ok-prepared.prepared in
    let inside = subst (λ (s : SessionParts). StandsFor s state) (sym c.self.view_is) h in
    let step = prepared_in _ state files line prepared _ c.self.invariant.window inside
    c.in_ok-prepared.ensures.prepared.ok told in
    replied _ c.commit.new.self c.prepare.new.stores state files line prepared c.in_ok-reply.reply _ _ _
    c.self.invariant.window c.prepare.ensures.stores.stands (c.in_ok-reply.ensures.text state)
    c.in_ok-reply.ensures.kind (c.is_accepted-accepted.ensures ∙ ap is_accepted c.kind.ensures)
    c.mode.ensures c.unwrap_or-mode.ensures c.in_ok-prepared.ensures.ready.mode c.in_ok-commit.ensures.committed inside step

pub returns-clause-some_files : goal.returns-clause-some_files
returns-clause-some_files g c =
    let line = c.args.line.now in
    let prepared = c.in_ok-prepared.prepared in
    let some = c.in_ok-prepared.ensures.some_files in
    record {
      files = some.files;
      is = λ state h.
          let inside = subst (λ (s : SessionParts). StandsFor s state) (sym c.self.view_is) h in
          let step = prepared_by _ state some.files line prepared c.self.invariant.window inside some.is in
          replied _ c.commit.new.self c.prepare.new.stores state some.files line prepared c.in_ok-reply.reply _ _ _
          c.self.invariant.window c.prepare.ensures.stores.stands (c.in_ok-reply.ensures.text state)
          c.in_ok-reply.ensures.kind (c.is_accepted-accepted.ensures ∙ ap is_accepted c.kind.ensures)
          c.mode.ensures c.unwrap_or-mode.ensures c.in_ok-prepared.ensures.ready.mode c.in_ok-commit.ensures.committed inside step;
    }

pub returns-clause-any_shelf : goal.returns-clause-any_shelf
returns-clause-any_shelf g c = λ state h. over_any state _ _ _ _ (returns-clause-some_files g c) h

pub returns-clause-reads : goal.returns-clause-reads
returns-clause-reads g c =
    let line = c.args.line.now in
    let asked = asked_of c.self.inside.mode.version line in
    let new = c.commit.new.self.stores in
    let reply = c.in_ok-reply.reply in
    let is = c.in_ok-prepared.ensures in
    subst (λ (s : SessionParts). WereReadBy {E = Stop} (asked_of s.mode.version line) s.stores new (Ok reply))
    c.self.view_is
    (answered_reads asked c.self.inside.stores c.prepare.new.stores new c.in_ok-prepared.prepared reply
    c.in_ok-reply.ensures.kind is.ready is.unread c.prepare.ensures.stores c.commit.ensures.rise c.commit.ensures.rest
    c.commit.ensures.added)

pub returns-clause-shelf : goal.returns-clause-shelf
returns-clause-shelf g c =
    let line = c.args.line.now in
    reworded c.in_ok-prepared.ensures.shelf
    (λ file asks. needs_file _ _ line (λ stores. refl) c.self.invariant.window file
    (subst (λ (s : SessionParts). AsksFile line s file) (sym c.self.view_is) asks))
    (λ fault. absurd (cc fault)) (λ fault. absurd (cc fault))
