use Rattle.std.proofs.Common.{◌≡◌, ◌+◌, [], Option, Some, false, drop, take, refl, sym, subst, append-nil, inl, inr}
use Rattle.std.proofs.lemmas.Result.{err_from_is_err_and}
use Rattle.dp_command.specs.declared.line.Line.{Line}
use Rattle.dp_command.specs.Lines.{line_of}
use Rattle.dp_async.specs.Listens.{is_heard}
use Rattle.dp_async.specs.inner.Standing.{IsRunningAnswer}
use Rattle.dp_async.proofs.Standings.{cut_short}
use Rattle.dp_async.proofs.Turns.{cut_told, hears_by, stands_told}
use Rattle.dp_async.proofs.listener.Listener.hear.Goals as goal

pub returns-in-Ok-None-clause-position : goal.returns-in-Ok-None-clause-position
returns-in-Ok-None-clause-position g c = λ start going o s. (s, inl (inl (c.next.ensures.partial.0 cc)))

pub returns-in-Err-clause-position : goal.returns-in-Err-clause-position
returns-in-Err-clause-position g c = λ start going o s. (s, inl (inr (c.in-Err.ensures.refused.0 refl)))

pub returns-in_err-line-clause-position : goal.returns-in_err-line-clause-position
returns-in_err-line-clause-position g c =
    let p = err_from_is_err_and c.from_residual.result c.from_residual.ensures.1 in
    λ start going o s. rw (p.1, p.2)
    (cut_short start _ _ _ _ _ _ _ s ([], sym (append-nil _)) refl refl s.agrees.later)

pub returns-in_err-told-clause-position : goal.returns-in_err-told-clause-position
returns-in_err-told-clause-position g c =
    let p = err_from_is_err_and c.from_residual-in_err-told.result c.from_residual-in_err-told.ensures.1 in
    λ start going o s. rw (p.1, p.2)
    (cut_short start _ _ _ _ _ _ _ s ([], sym (append-nil _)) refl refl s.agrees.later)

-- the command stays
pub returns-in_default-clause-position : goal.returns-in_default-clause-position
returns-in_default-clause-position g c =
    let begins = rw c.in-Ok-Some.field-0-is at c.in-Ok-Some.ensures.whole in
    let line : c.in_ok-line.line ≡ line_of (take c.in-Ok-Some.range.end c.args.self.now.held.held) =
    rw c.bytes.ensures at c.in_ok-line.ensures.value in
    let none = rw c.in_default.is at c.in_ok-told.ensures.answer in
    λ start going o s. (
      s,
      inr (record {
        line = take c.in-Ok-Some.range.end c.args.self.now.held.held;
        rest = drop (c.in-Ok-Some.range.end + 1) c.args.self.now.held.held;
        begins = begins;
        other = subst (λ (l : Option Line). is_heard l ≡ false) line none;
      }),
    )

pub returns-in_err-send-clause-position : goal.returns-in_err-send-clause-position
returns-in_err-send-clause-position g c =
    let p = err_from_is_err_and c.from_residual-in_err-send.result c.from_residual-in_err-send.ensures.1 in
    let begins = rw c.in-Ok-Some.field-0-is at c.in-Ok-Some.ensures.whole in
    let line : c.in_ok-line.line ≡ line_of (take c.in-Ok-Some.range.end c.args.self.now.held.held) =
    rw c.bytes.ensures at c.in_ok-line.ensures.value in
    let told = rw c.in-Some.is at c.in_ok-told.ensures.answer in
    let is : IsRunningAnswer (line_of (take c.in-Ok-Some.range.end c.args.self.now.held.held)) (Some c.in-Some.told) =
    subst (λ (l : Option Line). IsRunningAnswer l (Some c.in-Some.told)) line told in
    let sent = rw c.as_slice.ensures at c.in_err-send.ensures.taken in
    λ start going o s. rw (p.1, p.2)
    (cut_told start _ _ _ going _ _ _ (take c.in-Ok-Some.range.end c.args.self.now.held.held)
    (drop (c.in-Ok-Some.range.end + 1) c.args.self.now.held.held) c.in-Some.told s begins is c.drop_front.new.self.held
    (c.drop_front.ensures.held _ _ begins) (g.K.Sink.taken c.send.new.sink) (g.K.Sink.faults c.send.new.sink)
    c.send.ensures.later _ _ refl refl sent c.in_err-send.ensures.cause)

pub returns-clause-position : goal.returns-clause-position
returns-clause-position g c =
    let begins = rw c.in-Ok-Some.field-0-is at c.in-Ok-Some.ensures.whole in
    let line : c.in_ok-line.line ≡ line_of (take c.in-Ok-Some.range.end c.args.self.now.held.held) =
    rw c.bytes.ensures at c.in_ok-line.ensures.value in
    let told = rw c.in-Some.is at c.in_ok-told.ensures.answer in
    let is : IsRunningAnswer (line_of (take c.in-Ok-Some.range.end c.args.self.now.held.held)) (Some c.in-Some.told) =
    subst (λ (l : Option Line). IsRunningAnswer l (Some c.in-Some.told)) line told in
    let sent = rw c.as_slice.ensures at c.in_ok-send.ensures.taken in
    λ start going o s. rw c.hearing_of.ensures
    (hears_by start going _ _ c.in-Some.told.stops
    (stands_told start _ _ _ going _ _ _ (take c.in-Ok-Some.range.end c.args.self.now.held.held)
    (drop (c.in-Ok-Some.range.end + 1) c.args.self.now.held.held) c.in-Some.told s begins is c.drop_front.new.self.held
    (c.drop_front.ensures.held _ _ begins) (g.K.Sink.taken c.send.new.sink) (g.K.Sink.faults c.send.new.sink)
    c.send.ensures.later sent))
