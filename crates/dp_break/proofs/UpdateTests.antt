-- Why a breakpoint_update command is refused: by its words, or by what is held.
use Rattle.std.proofs.Common.{◌≡◌, sym, subst, refl, Bool, Option, Some, None}
use Rattle.std.specs.Prelude.{IfErr, IfSome, IsErrAnd, Result, Ok, Err}
use Rattle.std.specs.Option.{option_map_or, option_or}
use Rattle.dp_break.specs.Changes.{held_as}
use Rattle.dp_break.specs.Refusals.{change_kept}
use Rattle.dp_break.specs.Refusals as held
use Rattle.dp_break.specs.Tables.{Table}
use Rattle.dp_break.specs.declared.breakpoint.BreakChange.{BreakChange}
use Rattle.dp_break.specs.declared.breakpoint.Breakpoint.{Breakpoint}
use Rattle.dp_command.specs.Tests.{first_code}
use Rattle.dp_command.specs.declared.command.BreakpointUpdate.{BreakpointUpdate}
use Rattle.dp_packet.specs.Messages.{code_in}
use Rattle.dp_packet.specs.declared.error_codes.ErrorCode.{ErrorCode}
use Rattle.dp_packet.specs.declared.error_codes.ErrorCode.TheVariants.{NoSuchBreakpoint}
use Rattle.dp_tree.specs.declared.bundle.Bundle.{Bundle}
use Rattle.dp_break.specs.Causes.{IsCause, IsCode, answer_of}
use Rattle.dp_break.specs.Commands.{change_refused, update_refusal}
use Rattle.dp_break.specs.Updates.{change, change_tests}
use Rattle.dp_break.specs.declared.errors.BreakError.{BreakError}
use Rattle.dp_break.specs.declared.errors.BreakError.TheVariants.{Code, Memory}
use Rattle.dp_break.proofs.RequestTests.{done, failed}

-- ---- an error that is handed on

-- what is handed on has its cause
pub handed_cause : {A : Type 0} (refusal : Option ErrorCode) (e : BreakError) → IsCode refusal e
    → (result : Result A BreakError) → IsErrAnd result (λ x. x ≡ e) → IfErr result (IsCause refusal)
handed_cause refusal e h (Ok a) told = absurd told
handed_cause refusal e h (Err x) told = caused x (subst (IsCode refusal) (sym told) h) where
  caused : (x : BreakError) → IsCode refusal x → IsCause refusal x
  caused (Code code) h = h
  caused Memory h = tt

-- and the refusal is what is handed on
pub handed_surely : {A : Type 0} (refusal : Option ErrorCode) (e : BreakError) → IsCode refusal e
    → (result : Result A BreakError) → IsErrAnd result (λ x. x ≡ e)
    → IfSome refusal (λ code. result ≡ Err (Code code))
handed_surely refusal e h (Ok a) told = absurd told
handed_surely {A} refusal e h (Err x) told = by x (subst (IsCode refusal) (sym told) h) where
  by : (x : BreakError) → IsCode refusal x → IfSome refusal (λ code. failed {A = A} x ≡ Err (Code code))
  by (Code code) h =
      subst (λ (o : Option ErrorCode). IfSome o (λ c. failed {A = A} (Code code) ≡ Err (Code c))) (sym h) refl
  by Memory h = absurd h

-- an answer that is an error has its code
code_of : {A : Type 0} (refusal : Option ErrorCode) (value : A) (e : BreakError) → failed e ≡ answer_of refusal value
    → IsCode refusal e
code_of None value e h = absurd cc
code_of (Some code) value e h = let same : e ≡ Code code = cc in subst (IsCode (Some code)) (sym same) refl

-- ---- what a change is refused with

module _ (resolve : Bool) (bundle : Bundle) (t : Table) (update : BreakpointUpdate) (b : Breakpoint)
    (found : Some b ≡ held_as t.held update.id) where
  of_found : (e : BreakError) → IsCode (change_refused resolve bundle update b) e
      → IsCode (update_refusal resolve bundle t update) e
  of_found e h =
      subst (λ (o : Option Breakpoint). IsCode (option_map_or (change_refused resolve bundle update) o
      (Some NoSuchBreakpoint)) e) found h

  -- a change whose words are refused is refused so
  pub words_told : (e : BreakError) → failed e ≡ answer_of (first_code (change_tests b.kind update)) (change update)
      → IsCode (update_refusal resolve bundle t update) e
  words_told e h = of_found e (by (first_code (change_tests b.kind update)) h) where
    by : (o : Option ErrorCode) → failed e ≡ answer_of o (change update)
        → IsCode (option_or o (code_in (change_kept resolve bundle (change update) b))) e
    by None h = absurd cc
    by (Some code) h = code_of (Some code) (change update) e h

  -- one whose words are accepted is refused by what is held
  pub change_told : (c : BreakChange) (e : BreakError)
      → done c ≡ answer_of (first_code (change_tests b.kind update)) (change update)
      → failed {A = Unit {0}} e ≡ answer_of (held.update_refusal resolve bundle c (held_as t.held update.id)) tt
      → IsCode (update_refusal resolve bundle t update) e
  change_told c e words h = of_found e (by (first_code (change_tests b.kind update)) words) where
    told : IsCode (code_in (change_kept resolve bundle c b)) e
    told =
        code_of {A = Unit {0}} (code_in (change_kept resolve bundle c b)) tt e (subst (λ (o : Option Breakpoint).
        failed {A = Unit {0}} e ≡ answer_of (held.update_refusal resolve bundle c o) tt) (sym found) h)

    by : (o : Option ErrorCode) → done c ≡ answer_of o (change update)
        → IsCode (option_or o (code_in (change_kept resolve bundle (change update) b))) e
    by None words =
        let same : c ≡ change update = cc in
        subst (λ (x : BreakChange). IsCode (code_in (change_kept resolve bundle x b)) e) same told
    by (Some code) words = absurd cc
