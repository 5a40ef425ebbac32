-- What `dap` tells of its program, by how serving the gateway ended.
use Rattle.std.proofs.Common.{◌≡◌, ◌≢◌, Ok, Err, refl, sym, subst}
use Rattle.dp_dap.specs.Service as service
use Rattle.dp_dap_laws.proofs.Shown.{shows_run}
use Rattle.dp_engine.specs.declared.service.ServeEnd.{ServeEnd}
use Rattle.dp_engine.specs.declared.service.ServeEnd.TheVariants.{Stopped, Detached, LinkEnd, ReadFault, WriteFault, OutFault, BadCommandFrame, ByteLimit, Memory}
use Rattle.dp_engine.specs.declared.service.Served.{Served}
use Rattle.dp_headline.specs.Adapted.{ShowsProgram}
use Rattle.dp_top.specs.Dap.{IsServed}
use Rattle.dp_top.specs.Failures.{status_of}
use Rattle.dp_top.specs.Seen.{Seen, changed}
use Rattle.dp_top.specs.Statuses.{memory_status, output_status}
use Rattle.dp_top.specs.Talk.{EndReport, judged}
use Rattle.dp_words.specs.Words.{Invocation}

-- no output failed, and memory sufficed
abbrev pub Suffices : EndReport → Type 0
Suffices (Ok status) = Unit {0}
Suffices (Err why) = (status_of why.0 ≢ output_status) × (status_of why.0 ≢ memory_status)

module _ (served : Served) (ask : Invocation) (old new : Seen) (is : IsServed served ask old new)
    (report : EndReport) (reported : judged ask served ≡ report) (suffices : Suffices report) where
  whole : service.IsServed served is.program ask.bound (changed old.input new.input)
      (changed old.out new.out) (changed old.err new.err) → ShowsProgram report ask old new
  whole s = record {
    program = is.program;
    made = is.made;
    served = served;
    whole = s;
    run = shows_run is.program ask.bound s.texts;
    reported = reported;
  }

  by_end : (end : ServeEnd)
      → service.ServesTo end served is.program ask.bound (changed old.input new.input) (changed old.out new.out)
      (changed old.err new.err) → judged ask (record { end = end; outcome = served.outcome }) ≡ report
      → ShowsProgram report ask old new
  by_end Stopped s e = whole s
  by_end Detached s e = whole s
  by_end LinkEnd s e = whole s
  by_end ReadFault s e = whole s
  by_end (BadCommandFrame offset) s e = whole s
  by_end ByteLimit s e = whole s
  by_end WriteFault s e = absurd ((subst Suffices (sym e) suffices).0 refl)
  by_end OutFault s e = absurd ((subst Suffices (sym e) suffices).0 refl)
  by_end Memory s e = absurd ((subst Suffices (sym e) suffices).1 refl)

  pub shows_program : ShowsProgram report ask old new
  shows_program = by_end served.end is.serves reported
