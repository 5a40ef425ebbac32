use Rattle.std.proofs.Common.{arith, sym}
use Rattle.dp_file_uris.proofs.FoundFiles.{like_below}
use Rattle.dp_file_uris.proofs.files.file_number.Goals as goal

pub returns-in-Err-clause-memory : goal.returns-in-Err-clause-memory
returns-in-Err-clause-memory c =
    omega (
      arith,
      like_below c.args.bundle.now c.args.name.now c.in-Some.number (sym c.in-Some.ensures),
      c.in-Err.ensures,
    )
