-- What `dap` tells of its program.
use Rattle.std.specs.Prelude.{◌≡◌, Ok}
use Rattle.dp_dap.specs.Service.{IsServed}
use Rattle.dp_dap_laws.specs.Shown.{ShowsRun}
use Rattle.dp_engine.specs.declared.service.Served.{Served}
use Rattle.dp_program.specs.Programs.{NamesMake}
use Rattle.dp_top.specs.Seen.{Seen, changed}
use Rattle.dp_top.specs.Talk.{EndReport, judged}
use Rattle.dp_tree.specs.declared.bundle.Bundle.{Bundle}
use Rattle.dp_words.specs.Words.{Invocation}

-- The gateway was served whole over the bytes that were read (`IsServed`). The texts of its output
-- events, and what was put on `err` behind them, tell the program's run (`ShowsRun`), and what is
-- reported is how serving it ended.
pub record ShowsProgram (report : EndReport) (ask : Invocation) (old new : Seen) : Type 0 where
  pub program : Bundle
  pub made : NamesMake old.shelf.files ask.names (Ok program)
  pub served : Served
  pub whole : IsServed served program ask.bound
      (changed old.input new.input) (changed old.out new.out) (changed old.err new.err)
  pub run : ShowsRun program ask.bound whole.texts
  pub reported : judged ask served ≡ report
