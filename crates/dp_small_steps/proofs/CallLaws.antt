-- Calls and inclusions, by what they call and the file that they name.
use Rattle.std.proofs.Common.{◌≡◌, ℕ, List, Option, Some, Result, refl, sym, ap, ◌∙◌, subst}
use Rattle.dp_value.specs.declared.value.Value.{Value}
use Rattle.dp_tree.specs.declared.tree.Expression.{Expression}
use Rattle.dp_tree.specs.declared.tree.Expression.TheVariants as tree
use Rattle.dp_tree.specs.declared.tree.Inclusion.{Inclusion}
use Rattle.dp_state.specs.declared.state.State.{State}
use Rattle.dp_actions.specs.Expressions.{evaluation, evaluations}
use Rattle.dp_tree.specs.declared.bundle.Bundle.{Bundle}
use Rattle.dp_actions.specs.Calls.{Callee, call_run, callee}
use Rattle.dp_value.specs.Value.{data_of}
use Rattle.dp_actions.specs.Run.{Run, ◌>>=◌}
use Rattle.dp_actions.specs.Setting.{Setting}
use Rattle.dp_actions.proofs.Runs.{and_then-assoc}
use Rattle.dp_actions.proofs.Layers as layer
use Rattle.dp_actions.specs.declared.halt.Halt.{Halt}
use Rattle.dp_actions.specs.declared.signal.Signal.{Signal}
use Rattle.dp_small_steps.specs.declared.work.Next.{Next as NextWork}
use Rattle.dp_small_steps.specs.Parts.{Follows, to_value}
use Rattle.dp_small_steps.specs.Rest.{next_rest}
use Rattle.dp_small_steps.specs.Leads.{Leads}
use Rattle.dp_operations.specs.Text.{text_of}
use Rattle.dp_tree.specs.Files.{file_named}
use Rattle.dp_tree.specs.declared.tree.Inclusion.TheVariants.{Include, Require}
use Rattle.dp_actions.specs.Calls.{include_run, inclusion_run}

module _ (setting : Setting) (k : Follows) (s : State) where
  pub begins-Call : (name : List ℕ) (arguments : List Expression)
      → (evaluation (tree.Call name arguments) setting s >>= to_value k)
      ≡ (call_run (callee setting.bundle name s) (evaluations arguments) setting s >>= to_value k)
  begins-Call name arguments = ap (λ z. z.value setting s >>= to_value k) (layer.run-Call name arguments)

  pub begins-Include : (how : Inclusion) (file : Expression)
      → (evaluation (tree.Include how file) setting s >>= to_value k)
      ≡ (evaluation file setting s >>= λ v t. include_run how v setting t >>= to_value k)
  begins-Include how file =
      ap (λ z. z.value setting s >>= to_value k) (layer.run-Include how file) ∙ and_then-assoc _ _ _

-- the call of a name, by what it calls
pub called-as : (setting : Setting) (k : Follows) (s : State) (bundle : Bundle) → setting.bundle ≡ bundle
    → (name : List ℕ) (found : Option Callee)
    → callee bundle name s ≡ found → (arguments : List Expression)
    → (call_run (callee setting.bundle name s) (evaluations arguments) setting s >>= to_value k)
    ≡ (call_run found (evaluations arguments) setting s >>= to_value k)
called-as setting k s bundle same name found is arguments =
    ap (λ b. call_run (callee b name s) (evaluations arguments) setting s >>= to_value k) same
    ∙ ap (λ o. call_run o (evaluations arguments) setting s >>= to_value k) is

-- a call, by the call of its name
pub by_call : (setting : Setting) (s : State) (name : List ℕ) (arguments : List Expression)
    (next : Result NextWork Halt) (t : State)
    → Leads (next_rest setting) (λ k. call_run (callee setting.bundle name s) (evaluations arguments) setting s
    >>= to_value k) next
    t
    → Leads (next_rest setting) (λ k. evaluation (tree.Call name arguments) setting s >>= to_value k) next t
by_call setting s name arguments next t h =
    subst (λ (part : Follows → Run Signal). Leads (next_rest setting) part next t)
    (λ i k. sym (begins-Call setting k s name arguments) i) h

-- an inclusion, by the file that it names
module _ (setting : Setting) (bundle : Bundle) (same : setting.bundle ≡ bundle) (how : Inclusion) (name : Value)
    (s : State) where
  included-is : (file : Option ℕ) → file_named bundle (text_of (data_of name)) ≡ file
      → include_run how name setting s ≡ inclusion_run how file setting s
  included-is file is =
      ap (λ b. inclusion_run how (file_named b (text_of (data_of name))) setting s) same
      ∙ ap (λ o. inclusion_run how o setting s) is

  pub included-as : (file : Option ℕ) → file_named bundle (text_of (data_of name)) ≡ file → (k : Follows)
      → (include_run how name setting s >>= to_value k) ≡ (inclusion_run how file setting s >>= to_value k)
  included-as file is k = ap (λ r. r >>= to_value k) (included-is file is)

pub included-file : (setting : Setting) (how : Inclusion) (file : ℕ) (s : State) (k : Follows)
    → (inclusion_run how (Some file) setting s >>= to_value k) ≡ (setting.include file s >>= to_value k)
included-file setting Include file s k = refl
included-file setting Require file s k = refl
