-- What is done to a variable that holds a value of its own: it gets an integer in the place of that value.
use Rattle.std.proofs.Common.{◌≡◌, ℕ, ℤ, ◌+ℤ◌, Bool, true, false, if◌then◌else◌, cond, List, [], Option, Some, None, Result, Ok, Err, is_some, refl, sym, ap, ◌∙◌}
use Rattle.std.specs.Prelude.{IfSome, unwrap_or}
use Rattle.std.specs.Option.{option_map_or}
use Rattle.std.proofs.lemmas.Option.{cond_some}
use Rattle.dp_operations.specs.Binary.{binary_of}
use Rattle.dp_operations.specs.Numbers.{whole}
use Rattle.dp_operations.specs.Unary.{unary_of}
use Rattle.dp_state.specs.declared.moments.FatalKind.{FatalKind}
use Rattle.dp_state.specs.declared.state.State.{State}
use Rattle.dp_state.specs.declared.vars.Slot.{Slot}
use Rattle.dp_state.specs.declared.vars.Slot.TheVariants.{Held, Bound}
use Rattle.dp_state.specs.Places.{assigned, is_bound, with_variables}
use Rattle.dp_state.specs.States.{read, variables_at}
use Rattle.dp_state.specs.Variables.{slot_of, sum_in, value_held, value_through, with_slot}
use Rattle.dp_tree.specs.declared.operators.BinaryOp.{BinaryOp}
use Rattle.dp_tree.specs.declared.operators.UnaryOp.{UnaryOp}
use Rattle.dp_tree.specs.declared.tree.Order.{Order}
use Rattle.dp_value.specs.declared.errors.ValueError.{ValueError}
use Rattle.dp_value.specs.declared.errors.ValueError.TheVariants.{Overflow}
use Rattle.dp_value.specs.declared.value.Value.{Value}
use Rattle.dp_value.specs.declared.value.Value.TheVariants as variant
use Rattle.dp_value.specs.Data.{Data, integer}
use Rattle.dp_bytes.specs.IntText.{is_in_64_bits}
use Rattle.dp_value.specs.Value.{data_of}
use Rattle.dp_actions.specs.AtOnce.{AtOnce}
use Rattle.dp_actions.specs.Places.{assign_run, compound_under, step_under}
use Rattle.dp_actions.specs.Run.{Done, and_then, given_up, taken}
use Rattle.dp_actions.specs.Setting.{Part, Setting}
use Rattle.dp_actions.proofs.AtOnceLaws.{first_done}
use Rattle.dp_actions.proofs.GivenUp.{assign-given_up, step-given_up}
use Rattle.dp_actions.proofs.Tails.{value-ok}

not_bound : (o : Option Slot) → is_some (value_held o) ≡ true → is_bound o ≡ false
not_bound None h = refl
not_bound (Some Bound) h = absurd cc
not_bound (Some (Held v)) h = refl

-- an integer that fits is the sum or the difference
fitting : (k n : ℤ) → cond (is_in_64_bits k) (Some k) None ≡ Some n → whole k ≡ Ok (integer n)
fitting k n e =
    let p = cond_some (is_in_64_bits k) k n e in
    ap (λ (b : Bool). let r : Result Data ValueError = cond b (Ok (integer k)) (Err Overflow) in r) p.0
    ∙ ap (λ (x : ℤ). let r : Result Data ValueError = Ok (integer x) in r) p.1

-- a sum is that of an integer which is held
summed : (by : ℤ) (o : Option Slot) (n : ℤ) → sum_in by o ≡ Some n
    → (m : ℤ) × (o ≡ Some (Held (variant.Int m))) × (whole (m +ℤ by) ≡ Ok (integer n))
summed by None n e = absurd cc
summed by (Some Bound) n e = absurd cc
summed by (Some (Held variant.Null)) n e = absurd cc
summed by (Some (Held (variant.Bool b))) n e = absurd cc
summed by (Some (Held (variant.Int m))) n e = (m, refl, fitting (m +ℤ by) n e)
summed by (Some (Held (variant.Text bytes))) n e = absurd cc
summed by (Some (Held (variant.Array table))) n e = absurd cc

module _ (name : List ℕ) (s : State) where
  abbrev own : Option Slot
  own = slot_of (variables_at s 0) name

  abbrev with_integer : ℤ → State
  with_integer n = with_variables 0 (with_slot (variables_at s 0) name (Held (variant.Int n))) s

  pub assigned_held : (n : ℤ) → is_some (value_held own) ≡ true
      → assigned 0 name [] false (variant.Int n) s ≡ Ok (with_integer n)
  assigned_held n held =
      ap (λ (bound : Bool). let r : Result State FatalKind = Ok (if bound
      then record s { globals = with_slot s.globals name (Held (variant.Int n)) } else with_integer n) in r)
      (not_bound own held)

  stepped_held : (op : UnaryOp) (m n : ℤ) (order : Order) → own ≡ Some (Held (variant.Int m))
      → unary_of op (integer m) ≡ Ok (integer n)
      → and_then (step_under op order name [] s) given_up ≡ Done tt (with_integer n)
  stepped_held op m n order is table =
      let found : read s name ≡ Some (variant.Int m) =
      ap (λ (o : Option Slot). value_through o (value_held (slot_of s.globals name))) is in
      step-given_up op order name [] s
      ∙ first_done _ (value-ok s _ (variant.Int m) (ap (λ (o : Option Value). let r : Result Data ValueError =
      Ok (data_of (unwrap_or o variant.Null)) in r) found))
      ∙ first_done _ (value-ok s _ (variant.Int n) table)
      ∙ assign-given_up name [] false (variant.Int n) s
      ∙ ap (λ (r : Result State FatalKind). taken r s)
      (assigned_held n (ap (λ (o : Option Slot). is_some (value_held o)) is))

  -- what an operator makes of an integer that is held and of another one is written
  pub combined_held : (op : BinaryOp) (right : Part Value) (setting : Setting) (old m n : ℤ)
      → read s name ≡ Some (variant.Int old) → AtOnce (right setting s) (Ok (variant.Int m)) s
      → binary_of op (integer old) (integer m) ≡ Ok (integer n)
      → compound_under op name right [] setting s ≡ assign_run name [] false (variant.Int n) s
  combined_held op right setting old m n found operand table =
      first_done _ (value-ok s _ (variant.Int old) (ap (λ (o : Option Value). let r : Result Data ValueError =
      Ok (data_of (unwrap_or o variant.Null)) in r) found))
      ∙ first_done _ operand
      ∙ first_done _ (value-ok s _ (variant.Int n) table)

  pub added_held : (op : UnaryOp) (by : ℤ) (t : State) (r : Option ℤ)
      → ((m : ℤ) → unary_of op (integer m) ≡ whole (m +ℤ by))
      → r ≡ sum_in by own → t ≡ option_map_or with_integer r s
      → IfSome r (λ n. (order : Order) → and_then (step_under op order name [] s) given_up ≡ Done tt t)
  added_held op by t None table sum new = tt
  added_held op by t (Some n) table sum new = λ order.
      let held = summed by own n (sym sum) in
      stepped_held op held.0 n order held.1 (table held.0 ∙ held.2) ∙ ap (λ (u : State). Done tt u) (sym new)
