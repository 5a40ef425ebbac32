-- What constants are there, and what a definition leaves.
use Rattle.std.proofs.Common.{◌≡◌, Bool, true, false, if◌then◌else◌, List, ℕ, Option, Some, None, is_some, option_map, refl, sym, ap, ◌∙◌}
use Rattle.std.specs.Map.{lookup}
use Rattle.std.specs.Option.{option_or}
use Rattle.std.specs.Str.{bytes_eq}
use Rattle.dp_value.specs.declared.value.Value.{Value}
use Rattle.dp_state.specs.declared.constants.Standing.{Standing}
use Rattle.dp_state.specs.declared.state.State.{State}
use Rattle.dp_state.specs.declared.vars.Slot.TheVariants.{Held}
use Rattle.dp_state.specs.Constants.{constant, standing, with_constant}
use Rattle.dp_state.specs.inner.Standing.{value_of}
use Rattle.dp_state.specs.Variables.{Variables, slot_of, value_held, with_slot}

-- ---- which are there

pub some_map : {A B : Type 0} (f : A → B) (o : Option A) → is_some (option_map f o) ≡ is_some o
some_map f None = refl
some_map f (Some a) = refl

-- whether one of this name is there from the start
pub named_there : (found : Option Standing) (there : Option Value) → option_map value_of found ≡ there
    → is_some found ≡ is_some there
named_there found there is = sym (some_map value_of found) ∙ ap (λ (o : Option Value). is_some o) is

module _ (name : List ℕ) (s : State) where
  -- one that is there from the start
  pub from_the_start : (found : Option Standing) (k : Standing) → found ≡ Some k
      → option_map value_of found ≡ lookup (bytes_eq name) standing → Some (value_of k) ≡ constant name s
  from_the_start found k some is =
      ap (λ (o : Option Value). option_or o (value_held (slot_of s.constants name)))
      (sym (ap (λ (o : Option Standing). option_map value_of o) some) ∙ is)

  -- one that the program has defined, or none
  pub of_the_program : (found : Option Standing) (v : Option Value) → found ≡ None
      → option_map value_of found ≡ lookup (bytes_eq name) standing → v ≡ value_held (slot_of s.constants name)
      → v ≡ constant name s
  of_the_program found v none is held =
      held ∙ ap (λ (o : Option Value). option_or o (value_held (slot_of s.constants name)))
      (sym (ap (λ (o : Option Standing). option_map value_of o) none) ∙ is)

  -- whether there is one: where the program has defined it, and where it has not
  pub defined_there : (v : Value) → Some v ≡ value_held (slot_of s.constants name) → true ≡ is_some (constant name s)
  defined_there v found = by (lookup (bytes_eq name) standing)
    where
      by : (o : Option Value) → true ≡ is_some (option_or o (value_held (slot_of s.constants name)))
      by (Some w) = refl
      by None = ap (λ (o : Option Value). is_some o) found

  pub standing_there : (b : Bool) → None ≡ value_held (slot_of s.constants name)
      → b ≡ is_some (lookup (bytes_eq name) standing) → b ≡ is_some (constant name s)
  standing_there b none is =
      is ∙ by (lookup (bytes_eq name) standing)
      ∙ ap (λ (o : Option Value). is_some (option_or (lookup (bytes_eq name) standing) o)) none
    where
      by : (o : Option Value) → is_some o ≡ is_some (option_or o None)
      by (Some w) = refl
      by None = refl

-- ---- what a definition leaves

module _ (name : List ℕ) (v : Value) (s : State) where
  by_test : (b : Bool) → is_some (constant name s) ≡ b
      → (if b then s else record s { constants = with_slot s.constants name (Held v) }) ≡ with_constant name v s
  by_test b is =
      ap (λ t. if t then s else record s { constants = with_slot s.constants name (Held v) }) (sym is)

  pub stays : is_some (constant name s) ≡ true → s ≡ with_constant name v s
  stays there = by_test true there

  pub gets : (constants : Variables) → is_some (constant name s) ≡ false
      → constants ≡ with_slot s.constants name (Held v) → record s { constants = constants } ≡ with_constant name v s
  gets constants missing set = ap (λ (vs : Variables). record s { constants = vs }) set ∙ by_test false missing
