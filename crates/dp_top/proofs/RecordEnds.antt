-- What taping a session, or judging a record, came to decides the end of `tape` and `audit`.
use Rattle.std.proofs.Common.{◌≡◌, ℕ, ◌≤◌, List, Option, None, Some, Result, Ok, Err, sym, ap, ◌∙◌}
use Rattle.std.specs.Prelude.{IfOk}
use Rattle.dp_conversation.specs.Growth.{served}
use Rattle.dp_outside.specs.Changes.{Change}
use Rattle.dp_audit.specs.Sessions.{session}
use Rattle.dp_engine.specs.Answers.{answer}
use Rattle.dp_engine.specs.Served.{answers, ending}
use Rattle.dp_engine.specs.Session.{opening}
use Rattle.dp_records.specs.declared.tape_end.TapeEnd.{TapeEnd}
use Rattle.dp_records.specs.declared.tape_end.TapeEnd.TheVariants.{Ended, ReadFault, WriteFault, ByteLimit, Memory}
use Rattle.dp_records.specs.Tapes.{EndsTape}
use Rattle.dp_state.specs.declared.moments.Outcome.{Outcome}
use Rattle.dp_tree.specs.declared.bundle.Bundle.{Bundle}
use Rattle.dp_words.specs.Words.{Invocation}
use Rattle.dp_top.specs.declared.failures.Refused.{Refused}
use Rattle.dp_top.specs.Records.{TapesProgram, ended_report, tape_report}
use Rattle.dp_top.specs.Talk.{ended}
use Rattle.dp_top.specs.inner.Sessions.{reported_in}
use Rattle.dp_top.proofs.TalkLaws.{ended_small}

-- ---- `tape`

module _ (ask : Invocation) (program : Bundle) (key : List ℕ) (input out : Change) where
  small_ended : (status : ℕ) (read : List ℕ) (bad : Option ℕ) (outcome : Option Outcome)
      → outcome ≡ ending program ask.bound read
      → ended_report ask bad (ended ask outcome) ≡ Ok status → status ≤ 199
  small_ended status read (Some offset) outcome is e = absurd (cc)
  small_ended status read None outcome is e =
      let reply = answers program ask.bound read in
      ended_small ask reply.ended reply.state status (ap (ended ask) (sym is) ∙ e)

  small : (status : ℕ) (read : List ℕ) (end : TapeEnd)
      → EndsTape end (session program ask.bound key) (served answer (opening program ask.bound) read) read input out
      → tape_report ask end ≡ Ok status → status ≤ 199
  small status read (Ended end) s e = small_ended status read end.bad end.outcome s.outcome e
  small status read ReadFault s e = absurd (cc)
  small status read WriteFault s e = absurd (cc)
  small status read ByteLimit s e = absurd (cc)
  small status read Memory s e = absurd (cc)

  pub small_taped : (end : TapeEnd) (result : Result ℕ Refused) → reported_in result ≡ tape_report ask end
      → TapesProgram end program key ask input out → IfOk result (λ status. status ≤ 199)
  small_taped end (Ok status) told tapes = small status tapes.read end tapes.ends (sym told)
  small_taped end (Err why) told tapes = tt
