-- What `async` tells of its program, by how serving its session ended.
use Rattle.std.proofs.Common.{◌≡◌, ℕ, List, refl, sym, subst}
use Rattle.dp_async.specs.declared.service.AsyncServed.{AsyncServed}
use Rattle.dp_async.specs.Served.{HearsTo, Input, IsHeard}
use Rattle.dp_async_laws.proofs.Runs.{heard_alone, heard_run}
use Rattle.dp_engine.specs.declared.service.ServeEnd.{ServeEnd}
use Rattle.dp_engine.specs.declared.service.ServeEnd.TheVariants.{Stopped, Detached, LinkEnd, ReadFault, WriteFault, OutFault, BadCommandFrame, ByteLimit, Memory}
use Rattle.dp_headline.specs.Listened.{IsSound, ShowsHeard}
use Rattle.dp_top.specs.Async.{IsServed, judged, judged_end}
use Rattle.dp_top.specs.Seen.{Seen, changed}
use Rattle.dp_top.specs.Talk.{EndReport}
use Rattle.dp_words.specs.Words.{Address, Invocation}

module _ (served : AsyncServed) (address : Address) (key : List ℕ) (ask : Invocation) (old new : Seen)
    (is : IsServed served address key ask old new) (report : EndReport) (reported : judged ask served ≡ report)
    (sound : IsSound report) where
  whole : (before : Input)
      → IsHeard served is.program ask.bound key before is.attends.input is.sink (changed old.out new.out)
      → ShowsHeard report address key ask old new
  whole before h = record {
    served = served;
    is = is;
    input = before;
    whole = h;
    run = heard_run is.program ask.bound h.heard;
    plain = λ none. heard_alone is.program ask.bound h.heard none;
    reported = reported;
  }

  by_end : (before : Input) (end : ServeEnd)
      → HearsTo end served is.program ask.bound key before is.attends.input is.sink (changed old.out new.out)
      → judged_end ask served.served.outcome end ≡ report → ShowsHeard report address key ask old new
  by_end before Stopped s e = whole before s
  by_end before Detached s e = whole before s
  by_end before LinkEnd s e = whole before s
  by_end before ReadFault s e = whole before s
  by_end before (BadCommandFrame offset) s e = whole before s
  by_end before ByteLimit s e = whole before s
  by_end before WriteFault s e = absurd ((subst IsSound (sym e) sound).1 refl)
  by_end before OutFault s e = absurd ((subst IsSound (sym e) sound).0 refl)
  by_end before Memory s e = absurd ((subst IsSound (sym e) sound).2 refl)

  pub shows_heard : ShowsHeard report address key ask old new
  shows_heard = by_end _ served.served.end is.attends.hears reported
