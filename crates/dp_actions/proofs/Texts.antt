-- Texts that are joined, and texts that grow in a variable.
use Rattle.std.proofs.Common.{◌≡◌, ℕ, Bool, true, false, not, cond, nat_le, List, ◌++◌, length, Option, Ok, Err}
use Rattle.dp_value.specs.declared.errors.ValueError.TheVariants.{TooHeavy}
use Rattle.dp_value.specs.declared.key.Key.{Key}
use Rattle.dp_value.specs.declared.value.Value.{Value}
use Rattle.dp_value.specs.declared.value.Value.TheVariants.{Text}
use Rattle.dp_value.specs.Data.{text}
use Rattle.dp_value.specs.Table.{weight_limit}
use Rattle.dp_value.specs.Value.{data_of}
use Rattle.dp_operations.specs.Text.{light_text, text_of}
use Rattle.dp_state.specs.declared.moments.FatalKind.TheVariants as kind
use Rattle.dp_state.specs.declared.state.Fault.{Fault}
use Rattle.dp_state.specs.declared.state.Fault.TheVariants as fault
use Rattle.dp_state.specs.declared.state.State.{State}
use Rattle.dp_state.specs.Places.{assigned}
use Rattle.dp_state.specs.States.{IsCause, IsFatal}
use Rattle.dp_actions.specs.AtOnce.{AtOnce, halt_of}
use Rattle.dp_actions.specs.inner.Keyed.{keyed_write}
use Rattle.dp_actions.specs.Run.{Run, and_then}
use Rattle.dp_actions.specs.Values.{value_run}
use Rattle.dp_actions.proofs.AtOnceLaws.{gives, ends, wants_memory, breaks_off, goes_on}
use Rattle.dp_actions.proofs.Tails.{step-ok, step-err}

module _ (bytes : List ℕ) (s : State) where
  light-by : (b : Bool) → not b ≡ false
      → AtOnce (value_run (cond b (Ok (text bytes)) (Err TooHeavy)) s) (Ok (Text bytes)) s
  light-by true h = gives
  light-by false h = absurd (cc)

  heavy-by : (b : Bool) → not b ≡ true
      → AtOnce (value_run (cond b (Ok (text bytes)) (Err TooHeavy)) s) (Err (halt_of (fault.Fatal kind.TooHeavy) s)) s
  heavy-by true h = absurd (cc)
  heavy-by false h = ends

-- a text with a piece behind it
module _ (v : Value) (bytes piece : List ℕ) (s : State) (is : bytes ≡ text_of (data_of v)) where
  pub joins : not (nat_le (length (bytes ++ piece)) weight_limit) ≡ false
      → AtOnce (value_run (light_text (text_of (data_of v) ++ piece)) s) (Ok (Text (bytes ++ piece))) s
  joins h =
      rw is (light-by (text_of (data_of v) ++ piece) s (nat_le (length (text_of (data_of v) ++ piece)) weight_limit)
      (rw is at h))

  pub joins-not : not (nat_le (length (bytes ++ piece)) weight_limit) ≡ true
      → AtOnce (value_run (light_text (text_of (data_of v) ++ piece)) s) (Err (halt_of (fault.Fatal kind.TooHeavy) s)) s
  joins-not h =
      heavy-by (text_of (data_of v) ++ piece) s (nat_le (length (text_of (data_of v) ++ piece)) weight_limit)
      (rw is at h)

-- too heavy a text
pub heavy : (bytes : List ℕ) (s : State) → not (nat_le (length bytes) weight_limit) ≡ true
    → AtOnce (value_run (light_text bytes) s) (Err (halt_of (fault.Fatal kind.TooHeavy) s)) s
heavy bytes s h = heavy-by bytes s (nat_le (length bytes) weight_limit) h

-- a place that gets a text with a piece behind it
module _ (name : List ℕ) (keys : List (Option Key)) (bytes piece : List ℕ) (s u : State)
    (fits : not (nat_le (length (bytes ++ piece)) weight_limit) ≡ false) where
  abbrev grown : Run Value
  grown = and_then (value_run (light_text (bytes ++ piece)) s) (λ new w. keyed_write name keys false new w)

  joined : AtOnce (value_run (light_text (bytes ++ piece)) s) (Ok (Text (bytes ++ piece))) s
  joined = light-by (bytes ++ piece) s (nat_le (length (bytes ++ piece)) weight_limit) fits

  pub grows : assigned 0 name keys false (Text (bytes ++ piece)) s ≡ Ok u
      → AtOnce grown (Ok (Text (bytes ++ piece))) u
  grows ok = goes_on _ joined (goes_on _ (step-ok s _ u ok) gives)

  -- refused, and the state is as before where it is not that memory ran out
  pub grows-not : (why : Fault) → IsCause (assigned 0 name keys false (Text (bytes ++ piece)) s) why
      → (IsFatal {A = Value} (Err why) → u ≡ s) → AtOnce grown (Err (halt_of why u)) u
  grows-not fault.Memory refused same = wants_memory
  grows-not (fault.Fatal k) refused same =
      rw (same tt) (goes_on _ joined (breaks_off _ (step-err s _ (fault.Fatal k) refused)))
