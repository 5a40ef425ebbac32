-- What serving a session came to decides the end of `talk`.
use Rattle.std.proofs.Common.{◌≡◌, ◌≤◌, ℕ, List, Option, None, Some, Result, Ok, Err, refl, sym, ap, ◌∙◌, subst, inl, inr, arith}
use Rattle.std.specs.Prelude.{IfOk, IfErr, MatchResult}
use Rattle.dp_outside.specs.Changes.{Change}
use Rattle.dp_tree.specs.declared.bundle.Bundle.{Bundle}
use Rattle.dp_bundle.specs.declared.errors.BundleError.{BundleError}
use Rattle.dp_engine.specs.declared.service.ServeEnd.{ServeEnd}
use Rattle.dp_engine.specs.declared.service.ServeEnd.TheVariants.{Stopped, Detached, LinkEnd, ReadFault, WriteFault, OutFault, BadCommandFrame, ByteLimit, Memory}
use Rattle.dp_engine.specs.declared.service.Served.{Served}
use Rattle.dp_engine.specs.declared.session.SessionEnd.{SessionEnd}
use Rattle.dp_engine.specs.declared.session.SessionEnd.TheVariants.{Finished, Killed, Detached as gone}
use Rattle.dp_engine.specs.Served.{ending_after}
use Rattle.dp_engine.specs.Service.{Serves, ServesTo}
use Rattle.dp_engine.specs.Session.{State, outcome_of}
use Rattle.dp_meaning.proofs.Exits.{exit_small}
use Rattle.dp_program.specs.declared.errors.ProgramError.{ProgramError}
use Rattle.dp_program.specs.Programs.{IsComplete as IsRunComplete, NamesMake, ProgramCaused}
use Rattle.dp_state.specs.declared.moments.Outcome.{Outcome}
use Rattle.dp_state.specs.declared.moments.Outcome.TheVariants as way
use Rattle.dp_top.specs.declared.failures.Failure.{Failure}
use Rattle.dp_top.specs.declared.failures.Failure.TheVariants as failure
use Rattle.dp_top.specs.declared.failures.Refused.{Refused}
use Rattle.dp_words.specs.Words.{Invocation}
use Rattle.dp_top.specs.Runs.{IsProgramReported}
use Rattle.dp_top.specs.inner.Completeness.{IsComplete, IsGood}
use Rattle.dp_top.specs.Seen.{Seen, changed}
use Rattle.dp_top.specs.Talk.{AreIdle, Talks, TalkFails, EndReport, ended, judged_by}
use Rattle.dp_top.specs.inner.Sessions.{ServedSo, UnservedSo, reported_in}

-- ---- no end of a session is a bad source

abbrev pub IsGoodReport : EndReport → Type 0
IsGoodReport (Ok status) = Unit {0}
IsGoodReport (Err why) = IsGood why.0

pub good_end : (ask : Invocation) (outcome : Option Outcome) → IsGoodReport (ended ask outcome)
good_end ask None = ((λ e. omega (arith, e)), (λ e. cc))
good_end ask (Some way.Done) = tt
good_end ask (Some (way.Exit status)) = tt
good_end ask (Some (way.Fatal kind file line)) = ((λ e. omega (arith, e)), (λ e. cc))
good_end ask (Some way.Bound) = ((λ e. omega (arith, e)), (λ e. cc))

pub good_judged : (unsent : Failure) → IsGood unsent → (ask : Invocation) (outcome : Option Outcome) (end : ServeEnd)
    → IsGoodReport (judged_by unsent ask outcome end)
good_judged unsent good ask outcome Stopped = good_end ask outcome
good_judged unsent good ask outcome Detached = good_end ask outcome
good_judged unsent good ask outcome LinkEnd = good_end ask outcome
good_judged unsent good ask outcome ReadFault = ((λ e. omega (arith, e)), (λ e. cc))
good_judged unsent good ask outcome WriteFault = good
good_judged unsent good ask outcome OutFault = ((λ e. omega (arith, e)), (λ e. cc))
good_judged unsent good ask outcome (BadCommandFrame offset) = ((λ e. omega (arith, e)), (λ e. cc))
good_judged unsent good ask outcome ByteLimit = ((λ e. omega (arith, e)), (λ e. cc))
good_judged unsent good ask outcome Memory = ((λ e. omega (arith, e)), (λ e. cc))

pub good_served : (unsent : Failure) → IsGood unsent → (ask : Invocation) (served : Served) (result : Result ℕ Refused)
    → reported_in result ≡ judged_by unsent ask served.outcome served.end → IfErr result (λ why. IsGood why.failure)
good_served unsent good ask served (Ok status) told = tt
good_served unsent good ask served (Err why) told =
    subst IsGoodReport (sym told) (good_judged unsent good ask served.outcome served.end)

-- ---- a status is one of 200

end_small : (ask : Invocation) (state : State) (status : ℕ) (o : Outcome) → outcome_of state ≡ o
    → ended ask (Some o) ≡ Ok status → status ≤ 199
end_small ask state status way.Done is e = let same : 0 ≡ status = cc in omega (arith, same)
end_small ask state status (way.Exit n) is e =
    let same : n ≡ status = cc in omega (arith, same, exit_small state.bundle state.bound state.writes n is)
end_small ask state status (way.Fatal kind file line) is e = absurd (cc)
end_small ask state status way.Bound is e = absurd (cc)

pub ended_small : (ask : Invocation) (ended_by : Option SessionEnd) (state : State) (status : ℕ)
    → ended ask (ending_after ended_by state) ≡ Ok status → status ≤ 199
ended_small ask (Some Killed) state status e = absurd (cc)
ended_small ask (Some gone) state status e = end_small ask state status (outcome_of state) refl e
ended_small ask (Some (Finished o)) state status e = end_small ask state status (outcome_of state) refl e
ended_small ask None state status e = end_small ask state status (outcome_of state) refl e

module _ (unsent : Failure) (ask : Invocation) (served : Served) (program : Bundle) (key : List ℕ)
    (input out err : Change) where
  small : (status : ℕ) (end : ServeEnd) → ServesTo end served program ask.bound key input out err
      → judged_by unsent ask served.outcome end ≡ Ok status → status ≤ 199
  small status Stopped s e = ended_small ask _ _ status (ap (ended ask) (sym s.outcome) ∙ e)
  small status Detached s e = ended_small ask _ _ status (ap (ended ask) (sym s.outcome) ∙ e)
  small status LinkEnd s e = ended_small ask _ _ status (ap (ended ask) (sym s.outcome) ∙ e)
  small status ReadFault s e = absurd (cc)
  small status WriteFault s e = absurd (cc)
  small status OutFault s e = absurd (cc)
  small status (BadCommandFrame offset) s e = absurd (cc)
  small status ByteLimit s e = absurd (cc)
  small status Memory s e = absurd (cc)

  pub small_served : (result : Result ℕ Refused) → reported_in result ≡ judged_by unsent ask served.outcome served.end
      → Serves served program ask.bound key input out err → IfOk result (λ status. status ≤ 199)
  small_served (Ok status) told s = small status served.end s (sym told)
  small_served (Err why) told s = tt

-- ---- a session over the program of the files

module _ (key : List ℕ) (ask : Invocation) (old new : Seen) where
  pub program_served : (program : Bundle) → NamesMake old.shelf.files ask.names (Ok program)
      → (result : Result ℕ Refused)
      → MatchResult result (λ status. ServedSo failure.Output status program key ask (changed old.input new.input)
      (changed old.out new.out) (changed old.err new.err))
      (λ why. UnservedSo failure.Output why.failure why.name.now program key ask (changed old.input new.input)
      (changed old.out new.out) (changed old.err new.err))
      → MatchResult result (λ status. Talks status key ask old new)
      (λ why. TalkFails why.failure why.name.now key ask old new)
  program_served program made (Ok status) h =
      record {
        served = h.served;
        is = record { program = program; made = made; serves = h.serves };
        reported = h.reported;
      }
  program_served program made (Err why) (inl memory) = inl (memory.0, inl memory.1)
  program_served program made (Err why) (inr h) =
      inr (inr (record {
        served = h.served;
        is = record { program = program; made = made; serves = h.serves };
        reported = h.reported;
      }))

  pub none_served : (refused : Refused) (why : ProgramError)
      → ProgramCaused why old.shelf.files old.shelf.faults new.shelf.faults ask.names
      → IsProgramReported refused.failure refused.name.now ask why → AreIdle old new
      → TalkFails refused.failure refused.name.now key ask old new
  none_served refused why caused told idle =
      inr (inl (record { cause = why; caused = caused; reported = told; idle = idle }))

pub complete_served : (asked : Result Bundle BundleError) (program : Bundle) (result : Result ℕ Refused)
    (before after : ℕ)
    → IsRunComplete {A = Bundle} asked (Ok program) before after
    → ((made : Bundle) (b a : ℕ) → IsComplete (Ok made) result b a) → IsComplete asked result before after
complete_served (Ok made) program result before after held good = good made before after
complete_served (Err e) program result before after held good = absurd held
