-- What serving a gateway came to decides the end of `dap`.
use Rattle.std.proofs.Common.{◌≡◌, ◌≤◌, ℕ, List, Result, Ok, Err, refl, sym, ap, ◌∙◌, inl, inr, arith}
use Rattle.std.specs.Prelude.{IfErr, IfOk, MatchResult}
use Rattle.dp_outside.specs.Changes.{Change}
use Rattle.dp_tree.specs.declared.bundle.Bundle.{Bundle}
use Rattle.dp_dap.specs.Service.{Serves, ServesTo}
use Rattle.dp_engine.specs.declared.service.ServeEnd.{ServeEnd}
use Rattle.dp_engine.specs.declared.service.ServeEnd.TheVariants.{Stopped, Detached, LinkEnd, ReadFault, WriteFault, OutFault, BadCommandFrame, ByteLimit, Memory}
use Rattle.dp_engine.specs.declared.service.Served.{Served}
use Rattle.dp_program.specs.declared.errors.ProgramError.{ProgramError}
use Rattle.dp_program.specs.Programs.{NamesMake, ProgramCaused}
use Rattle.dp_top.specs.declared.failures.Failure.{Failure}
use Rattle.dp_top.specs.declared.failures.Failure.TheVariants as failure
use Rattle.dp_top.specs.declared.failures.Refused.{Refused}
use Rattle.dp_top.specs.Dap.{DapFails, Daps}
use Rattle.dp_top.specs.Runs.{IsProgramReported}
use Rattle.dp_top.specs.Seen.{Seen, changed}
use Rattle.dp_top.specs.Talk.{AreIdle, ended, judged_by}
use Rattle.dp_top.specs.inner.Sessions.{reported_in}
use Rattle.dp_top.specs.inner.Gateways.{GatewayEnds}
use Rattle.dp_top.specs.inner.Completeness.{IsGood}
use Rattle.dp_top.proofs.TalkLaws.{ended_small, good_served}
use Rattle.dp_words.specs.Words.{Invocation}

-- out of memory may come in place of any failure of `dap`
pub dap_starved : (failed : Failure) (name : List ℕ) (ask : Invocation) (old new : Seen)
    → DapFails failed name ask old new → DapFails failure.Memory name ask old new
dap_starved failed name ask old new (inl memory) = inl (refl, memory.1)
dap_starved failed name ask old new (inr (inl u)) = inl (refl, inl u.idle)
dap_starved failed name ask old new (inr (inr h)) = inl (refl, inr (h.served, h.is))

-- no end of a gateway is a bad source
pub good_gateway : (ask : Invocation) (served : Served) (result : Result ℕ Refused)
    → reported_in result ≡ judged_by failure.Output ask served.outcome served.end
    → IfErr result (λ why. IsGood why.failure)
good_gateway ask served result told =
    good_served failure.Output ((λ e. omega (arith, e)), (λ e. cc)) ask served result told

-- ---- a status is one of 200

module _ (ask : Invocation) (served : Served) (program : Bundle) (input out err : Change) where
  small : (status : ℕ) (end : ServeEnd) → ServesTo end served program ask.bound input out err
      → judged_by failure.Output ask served.outcome end ≡ Ok status → status ≤ 199
  small status Stopped s e = ended_small ask _ _ status (ap (ended ask) (sym s.outcome) ∙ e)
  small status Detached s e = ended_small ask _ _ status (ap (ended ask) (sym s.outcome) ∙ e)
  small status LinkEnd s e = ended_small ask _ _ status (ap (ended ask) (sym s.outcome) ∙ e)
  small status ReadFault s e = absurd (cc)
  small status WriteFault s e = absurd (cc)
  small status OutFault s e = absurd (cc)
  small status (BadCommandFrame offset) s e = absurd (cc)
  small status ByteLimit s e = absurd (cc)
  small status Memory s e = absurd (cc)

  pub small_gateway : (result : Result ℕ Refused)
      → reported_in result ≡ judged_by failure.Output ask served.outcome served.end
      → Serves served program ask.bound input out err → IfOk result (λ status. status ≤ 199)
  small_gateway (Ok status) told s = small status served.end s (sym told)
  small_gateway (Err why) told s = tt

  -- what was served is what is told
  pub gateway_told : (result : Result ℕ Refused)
      → reported_in result ≡ judged_by failure.Output ask served.outcome served.end
      → Serves served program ask.bound input out err → GatewayEnds result program ask input out err
  gateway_told (Ok status) told s = record { served = served; serves = s; reported = sym told }
  gateway_told (Err why) told s = inr (record { served = served; serves = s; reported = sym told })

-- ---- a gateway over the program of the files

module _ (ask : Invocation) (old new : Seen) where
  pub program_adapted : (program : Bundle) → NamesMake old.shelf.files ask.names (Ok program)
      → (result : Result ℕ Refused)
      → GatewayEnds result program ask (changed old.input new.input) (changed old.out new.out)
      (changed old.err new.err)
      → MatchResult result (λ status. Daps status ask old new) (λ why. DapFails why.failure why.name.now ask old new)
  program_adapted program made (Ok status) h =
      record {
        served = h.served;
        is = record { program = program; made = made; serves = h.serves };
        reported = h.reported;
      }
  program_adapted program made (Err why) (inl memory) = inl (memory.0, inl memory.1)
  program_adapted program made (Err why) (inr h) =
      inr (inr (record {
        served = h.served;
        is = record { program = program; made = made; serves = h.serves };
        reported = h.reported;
      }))

  pub none_adapted : (refused : Refused) (why : ProgramError)
      → ProgramCaused why old.shelf.files old.shelf.faults new.shelf.faults ask.names
      → IsProgramReported refused.failure refused.name.now ask why → AreIdle old new
      → DapFails refused.failure refused.name.now ask old new
  none_adapted refused why caused told idle =
      inr (inl (record { cause = why; caused = caused; reported = told; idle = idle }))
