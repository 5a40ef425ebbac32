use Rattle.std.proofs.Common.{◌≡◌, ◌<◌, ℕ, length, Ok, Err, refl, subst, arith}
use Rattle.std.proofs.lemmas.Bool.Decides.{nat_tests}
use Rattle.dp_outside.specs.declared.Failed.{Failed}
use Rattle.dp_polled.specs.declared.polled.Look.{Look}
use Rattle.dp_polled.specs.declared.polled.Look.TheVariants.{Bytes, End}
use Rattle.dp_polled.specs.Posted.{Tried}
use Rattle.dp_polled.proofs.Giving.{goes_on_and_on}
use Rattle.dp_polled.proofs.Waiting.{quiet_on, waited_err, waited_on, waited_without_room}
use Rattle.dp_polled.proofs.posted.PostedPolled.wait.Goals as goal

pub returns-in_err-answer-clause-waits : goal.returns-in_err-answer-clause-waits
returns-in_err-answer-clause-waits g c =
    let none : length c.args.buf.now ≡ 0 = grind (arith, nat_tests) in
    let failed = c.in_err-answer.field-0.0 in
    let e = c.in_err-answer.ensures in
    waited_err _ _ failed c.from_residual.result _ c.from_residual.ensures.0
    (waited_without_room (length c.args.buf.now) c.args.self.now (Err failed) c.answer.new.self none e.answers e.moved)

pub returns-in_err-try_once-clause-waits : goal.returns-in_err-try_once-clause-waits
returns-in_err-try_once-clause-waits g c =
    let some : 0 < length c.args.buf.now = grind (arith, nat_tests) in
    let failed = c.in_err-try_once.field-0.0 in
    let s = c.tries.self in
    let t = c.try_once.new.self in
    let tried = subst (λ (n : ℕ). Tried n s (Err failed) t) c.tries.auto.buf c.in_err-try_once.ensures.tried in
    waited_err _ _ failed c.from_residual-in_err-try_once.result _ c.from_residual-in_err-try_once.ensures.0
    (waited_on (length c.args.buf.now) c.args.self.now s (Err failed) t some c.tries.invariant tried refl)

pub returns-in_err-try_once-clause-takes : goal.returns-in_err-try_once-clause-takes
returns-in_err-try_once-clause-takes g c = goes_on_and_on _ _ _ c.tries.invariant.goes c.try_once.ensures.seat

pub tries-preserved : goal.tries-preserved
tries-preserved g c =
    let s = c.tries.self in
    let t = c.try_once.new.self in
    quiet_on (length c.tries.buf) c.args.self.now s t c.tries.invariant
    (subst (λ (look : Look). Tried {E = Failed} (length c.tries.buf) s (Ok look) t) c.in-NotYet.is
    c.in_ok-try_once.ensures.tried)

pub returns-in-Bytes-clause-waits : goal.returns-in-Bytes-clause-waits
returns-in-Bytes-clause-waits g c =
    let some : 0 < length c.args.buf.now = grind (arith, nat_tests) in
    let s = c.tries.self in
    let t = c.try_once.new.self in
    let tried = subst (λ (n : ℕ). Tried {E = Failed} n s (Ok c.in_ok-try_once.field-0) t) c.tries.auto.buf
    c.in_ok-try_once.ensures.tried in
    let gave = subst (λ (look : Look). Tried {E = Failed} (length c.args.buf.now) s (Ok look) t) c.in-Bytes.is tried in
    waited_on (length c.args.buf.now) c.args.self.now s (Ok (Bytes c.in-Bytes.count)) t some c.tries.invariant gave refl

pub returns-in-Bytes-clause-takes : goal.returns-in-Bytes-clause-takes
returns-in-Bytes-clause-takes g c = goes_on_and_on _ _ _ c.tries.invariant.goes c.try_once.ensures.seat

pub returns-in-End-clause-waits : goal.returns-in-End-clause-waits
returns-in-End-clause-waits g c =
    let some : 0 < length c.args.buf.now = grind (arith, nat_tests) in
    let s = c.tries.self in
    let t = c.try_once.new.self in
    let tried = subst (λ (n : ℕ). Tried {E = Failed} n s (Ok c.in_ok-try_once.field-0) t) c.tries.auto.buf
    c.in_ok-try_once.ensures.tried in
    let ended = subst (λ (look : Look). Tried {E = Failed} (length c.args.buf.now) s (Ok look) t) c.in-End.is tried in
    waited_on (length c.args.buf.now) c.args.self.now s (Ok End) t some c.tries.invariant ended refl

pub returns-in-End-clause-takes : goal.returns-in-End-clause-takes
returns-in-End-clause-takes g c = goes_on_and_on _ _ _ c.tries.invariant.goes c.try_once.ensures.seat
