-- What a session that was begun does is what one of its program and key does.
use Rattle.std.proofs.Common.{◌≡◌, ℕ, List, Result, subst, ap₂}
use Rattle.dp_audit.specs.Sessions.{session}
use Rattle.dp_engine.specs.Answers.{answer}
use Rattle.dp_engine.specs.Responses.{init_text}
use Rattle.dp_engine.specs.Served.{ending_after, rest_after}
use Rattle.dp_engine.specs.Session.{State, opening}
use Rattle.dp_outside.specs.Changes.{Change}
use Rattle.dp_records.specs.declared.tape_end.TapeEnd.{TapeEnd}
use Rattle.dp_records.specs.declared.verdict.AuditError.{AuditError}
use Rattle.dp_records.specs.declared.verdict.Verdict.{Verdict}
use Rattle.dp_records.specs.Behaviours.{Behaviour, behaviour_of}
use Rattle.dp_records.specs.Tapes.{Tapes}
use Rattle.dp_records.specs.Verdicts.{Judges}
use Rattle.dp_tree.specs.declared.bundle.Bundle.{Bundle}

abbrev by_state : State → List ℕ → Behaviour
by_state state init = behaviour_of answer rest_after ending_after state init

module _ (bundle : Bundle) (bound : ℕ) (key : List ℕ) (state : State) (init : List ℕ)
    (opens : state ≡ opening bundle bound) (begins : init ≡ init_text bundle key) where
  pub judges_so : (bytes : List ℕ) (result : Result Verdict AuditError) → Judges (by_state state init) bytes result
      → Judges (session bundle bound key) bytes result
  judges_so bytes result judged =
      subst (λ (b : Behaviour). Judges b bytes result) (ap₂ by_state opens begins) judged

  pub tapes_so : (end : TapeEnd) (source sink : Change) → Tapes answer state (by_state state init) end source sink
      → Tapes answer (opening bundle bound) (session bundle bound key) end source sink
  tapes_so end source sink taped =
      subst (λ (s : State). Tapes answer s (by_state s (init_text bundle key)) end source sink) opens
      (subst (λ (n : List ℕ). Tapes answer state (by_state state n) end source sink) begins taped)
