use Rattle.std.proofs.Common.{subst, sym, ap, map, ◌∙◌}
use Rattle.dp_bundle.specs.Bundles.{AreForBundle, Given}
use Rattle.dp_tree.specs.FileNames.{AreFileNames}
use Rattle.dp_top.proofs.SoakLaws.{one_file}
use Rattle.dp_top.proofs.soak.soak_program.Goals as goal

pub make_program-requires : goal.make_program-requires
make_program-requires c = subst AreForBundle (sym c.in_ok-files.ensures) one_file

pub returns-in-Ok-clause-named : goal.returns-in-Ok-clause-named
returns-in-Ok-clause-named c =
    subst AreFileNames (sym (c.in-Ok.ensures.named ∙ ap (map (λ (file : Given). file.0)) c.in_ok-files.ensures))
    one_file
