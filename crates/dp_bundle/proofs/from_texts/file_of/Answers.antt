use Rattle.std.proofs.Common.{◌≡◌, List, ℕ, ap, ◌∙◌, subst}
use Rattle.dp_tree.specs.declared.tree.File.{File}
use Rattle.dp_parse.specs.declared.errors.ParseError.TheVariants.{Memory}
use Rattle.dp_parse.specs.Programs.{IsFile}
use Rattle.dp_bundle.specs.inner.Sources.{source_of}
use Rattle.dp_bundle.proofs.MadeFiles.{one_file}
use Rattle.dp_bundle.proofs.from_texts.file_of.Goals as goal

pub returns-in-Ok-clause-only : goal.returns-in-Ok-clause-only
returns-in-Ok-clause-only c =
    one_file c.args.name c.args.text c.in-Ok.tree
    (subst (λ (bytes : List ℕ). (other : File) → IsFile bytes other → c.in-Ok.tree ≡ other) c.as_slice.ensures
    c.in-Ok.ensures.only)

pub returns-in-Err-clause-only : goal.returns-in-Err-clause-only
returns-in-Err-clause-only c = λ file h.
    c.source_of.ensures ∙ ap (source_of c.args.number)
    (subst (λ (bytes : List ℕ). (other : File) → IsFile bytes other → c.in-Err.why ≡ Memory) c.as_slice.ensures
    c.in-Err.ensures.only file.tree h.tree)
