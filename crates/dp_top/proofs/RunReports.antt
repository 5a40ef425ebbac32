-- What is told of files and of the end of a run, by what the files are.
use Rattle.std.proofs.Common.{◌≡◌, ℕ, ◌+◌, false, List, Result, Ok, Err, length, take, refl, sym, ap, ◌∙◌, subst, inl, inr, arith}
use Rattle.std.specs.Prelude.{⊤, Option, None, Some}
use Rattle.std.proofs.lemmas.List.{take_all}
use Rattle.dp_outside.specs.Reports.{grown}
use Rattle.dp_tree.specs.declared.bundle.Bundle.{Bundle}
use Rattle.dp_bundle.specs.declared.errors.BundleError.{BundleError}
use Rattle.dp_bundle.specs.declared.errors.BundleError.TheVariants as unmade
use Rattle.dp_lexer.specs.declared.errors.LexError.TheVariants as lex
use Rattle.dp_parse.specs.declared.errors.ParseError.{ParseError}
use Rattle.dp_parse.specs.declared.errors.ParseError.TheVariants as parse
use Rattle.dp_program.proofs.GrownNames.{grown_by_none}
use Rattle.dp_program.specs.declared.errors.ProgramError.{ProgramError}
use Rattle.dp_program.specs.declared.errors.ProgramError.TheVariants as none
use Rattle.dp_program.specs.declared.errors.RunError.{RunError}
use Rattle.dp_program.specs.declared.errors.RunError.TheVariants as run
use Rattle.dp_program.specs.Programs.{IsComplete as IsRunComplete, RequestedNames, RequestsFiles, is_bad_file, refusal}
use Rattle.dp_program.specs.Runs.{of_program}
use Rattle.dp_top.specs.declared.failures.Refused.{Refused}
use Rattle.dp_words.specs.Words.{Invocation}
use Rattle.dp_top.specs.Runs.{IsFetched, failure_of, program_failure}
use Rattle.dp_top.specs.inner.Completeness.{IsBadSource, IsComplete, IsGood}
use Rattle.dp_top.specs.Sources.{failure_of as failure_of_source}

good : (why : ProgramError) → is_bad_file why ≡ false → IsGood (program_failure why)
good (none.Shelf file) h = ((λ e. omega (arith, e)), (λ e. cc))
good (none.Missing file) h = absurd (cc)
good (none.TooLong file) h = absurd (cc)
good (none.Source file why) h = absurd (cc)
good none.Memory h = ((λ e. omega (arith, e)), (λ e. cc))

pub bad_source : (why : ParseError) → IsBadSource (failure_of_source why)
bad_source (parse.Lex (lex.BadByte offset)) = inl refl
bad_source (parse.Lex (lex.OpenString offset)) = inl refl
bad_source (parse.Lex (lex.OpenComment offset)) = inl refl
bad_source (parse.Lex (lex.WideNumber offset)) = inl refl
bad_source (parse.Lex lex.Memory) = inr refl
bad_source (parse.Unexpected token) = inl refl
bad_source (parse.TooDeep token) = inl refl
bad_source (parse.DoubleFunction name) = inl refl
bad_source parse.Memory = inr refl

bad : (e : BundleError) → IsBadSource (program_failure (refusal e))
bad (unmade.Source file why) = bad_source why
bad (unmade.TooLong file) = inl refl
bad unmade.Memory = inr refl

pub complete_failure : (A : Type 0) (asked : Result Bundle BundleError) (why : ProgramError) (refused : Refused)
    (before after : ℕ) → refused.failure ≡ program_failure why
    → IsRunComplete {A = A} asked (Err why) before after → IsComplete {A = ℕ} asked (Err refused) before after
complete_failure A (Ok program) why refused before after told h = subst IsGood (sym told) (good why h)
complete_failure A (Err e) why refused before after told (inl same) =
    inl (subst IsBadSource (sym (told ∙ ap program_failure same)) (bad e))
complete_failure A (Err e) why refused before after told (inr (inl memory)) = inl
    (inr (told ∙ ap program_failure memory))
complete_failure A (Err e) why refused before after told (inr (inr rose)) = inr rose

-- a run that was made of a program is no bad source
complete_good : (asked : Result Bundle BundleError) (refused : Refused) (before after : ℕ) → IsGood refused.failure
    → IsRunComplete {A = ⊤} asked (Ok tt) before after → IsComplete {A = ℕ} asked (Err refused) before after
complete_good (Ok program) refused before after is h = is
complete_good (Err e) refused before after is h = absurd h

pub complete_status : (asked : Result Bundle BundleError) (status before after : ℕ)
    → IsRunComplete {A = ⊤} asked (Ok tt) before after → IsComplete {A = ℕ} asked (Ok status) before after
complete_status (Ok program) status before after h = tt
complete_status (Err e) status before after h = h

pub complete_run : (bound : ℕ) (asked : Result Bundle BundleError) (why : RunError) (refused : Refused)
    (before after : ℕ)
    → refused.failure ≡ failure_of bound why
    → IsRunComplete {A = ⊤} asked (of_program {A = ℕ} (Err why)) before after
    → IsComplete {A = ℕ} asked (Err refused) before after
complete_run bound asked (run.Program why) refused before after told h =
    complete_failure ⊤ asked why refused before after told h
complete_run bound asked (run.Fatal kind file line) refused before after told h =
    complete_good asked refused before after (subst IsGood (sym told) ((λ e. omega (arith, e)), (λ e. cc))) h
complete_run bound asked run.Bound refused before after told h =
    complete_good asked refused before after (subst IsGood (sym told) ((λ e. omega (arith, e)), (λ e. cc))) h
complete_run bound asked run.OutFault refused before after told h =
    complete_good asked refused before after (subst IsGood (sym told) ((λ e. omega (arith, e)), (λ e. cc))) h
complete_run bound asked run.Memory refused before after told h =
    complete_good asked refused before after (subst IsGood (sym told) ((λ e. omega (arith, e)), (λ e. cc))) h

-- ---- what was fetched

-- all names are the first of them
all_fetched : (before after : RequestedNames) (names : List (List ℕ)) → after ≡ grown before names
    → (count : ℕ) × (after ≡ grown before (take count names))
all_fetched before after names e =
    (length names, e ∙ ap (grown before) (sym (take_all (length names) names (omega arith))))

pub fetched : (A : Type 0) (result : Result A ProgramError) (before after : RequestedNames) (ask : Invocation)
    → RequestsFiles result before after ask.names → IsFetched (Some ask) before after
fetched A (Ok a) before after ask e = all_fetched before after ask.names e
fetched A (Err (none.Shelf file)) before after ask e = (file + 1, e)
fetched A (Err (none.Missing file)) before after ask e = (file + 1, e)
fetched A (Err (none.TooLong file)) before after ask e = all_fetched before after ask.names e
fetched A (Err (none.Source file why)) before after ask e = all_fetched before after ask.names e
fetched A (Err none.Memory) before after ask e = e

-- nothing was
pub nothing_fetched : (asked : Option Invocation) (told : RequestedNames) → IsFetched asked told told
nothing_fetched None told = refl
nothing_fetched (Some ask) told = (0, grown_by_none told)
