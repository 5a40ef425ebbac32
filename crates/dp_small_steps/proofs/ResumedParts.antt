-- What a part that waited does, in the meaning's words.
use Rattle.std.proofs.Common.{◌≡◌, ℕ, true, false, List, [], ◌∷◌, ◌++◌, Ok, sym, ap, ◌∙◌, append_assoc}
use Rattle.std.specs.Prelude.{if◌then◌else◌}
use Rattle.dp_tree.specs.declared.tree.Expression.{Expression}
use Rattle.dp_tree.specs.declared.operators.BinaryOp.{BinaryOp}
use Rattle.dp_value.specs.declared.value.Value.{Value}
use Rattle.dp_state.specs.declared.state.State.{State}
use Rattle.dp_actions.specs.AtOnce.{AtOnce}
use Rattle.dp_actions.specs.Expressions.{evaluation, evaluations}
use Rattle.dp_actions.specs.Places.{assign_run, assigned_under, coalescing_under, combined, compound_from, compound_under, found_run, read_run}
use Rattle.dp_actions.specs.Run.{Done, and_then, ◌>>=◌}
use Rattle.dp_actions.specs.Setting.{Setting}
use Rattle.dp_actions.specs.Values.{is_missing}
use Rattle.dp_actions.proofs.Runs.{and_then-assoc}
use Rattle.dp_small_steps.specs.declared.work.Given.TheVariants as given
use Rattle.dp_small_steps.specs.Parts.{Follows, to_value}
use Rattle.dp_small_steps.proofs.AtOnce.{then_done}

-- values and one more, before others
pub more : (setting : Setting) (rest : List Expression) (before : List Value) (v : Value) (s : State) (k : Follows)
    → (evaluations rest setting s >>= λ values t. k (given.Values (before ++ v ∷ values)) t)
    ≡ (evaluations rest setting s >>= λ values t. k (given.Values ((before ++ v ∷ []) ++ values)) t)
more setting rest before v s k =
    λ i. evaluations rest setting s >>= λ values t. k (given.Values (sym (append_assoc before (v ∷ []) values) i)) t

module _ (setting : Setting) (k : Follows) (s : State) where
  -- a compound assignment whose old value is read
  pub compounds : (op : BinaryOp) (name : List ℕ) (indices : List Value) (right : Expression) (old : Value)
      → AtOnce (read_run name indices s) (Ok old) s
      → (compound_under op name (evaluation right) indices setting s >>= to_value k)
      ≡ (evaluation right setting s >>= λ v t. combined op name indices old v t >>= to_value k)
  compounds op name indices right old h =
      and_then-assoc _ _ _
      ∙ then_done (read_run name indices s) old s (λ old t. compound_from op name
      (evaluation right) indices old setting t >>= to_value k) h
      ∙ and_then-assoc _ _ _

  -- a `??=` whose place is read
  pub coalesces : (name : List ℕ) (indices : List Value) (right : Expression) (old : Value)
      → AtOnce (found_run name indices s) (Ok old) s
      → (coalescing_under name (evaluation right) indices setting s >>= to_value k)
      ≡ ((if is_missing old then assigned_under false name (evaluation right) indices setting s else Done old s)
      >>= to_value k)
  coalesces name indices right old h = and_then-assoc _ _ _ ∙ then_done (found_run name indices s) old s (λ old t.
      (if is_missing old then assigned_under false name (evaluation right) indices setting t else Done old t)
      >>= to_value k) h

  module _ (name : List ℕ) (indices : List Value) (right : Expression) (old : Value) where
    pub or_assign-there : (given : Value) → is_missing old ≡ false → old ≡ given → to_value k given s
        ≡ ((if is_missing old then assigned_under false name (evaluation right) indices setting s else Done old s)
        >>= to_value k)
    unfolding and_then
    or_assign-there given absent same =
        sym (ap (λ b. (if b then assigned_under false name (evaluation right) indices setting s else Done old s)
        >>= to_value k) absent ∙ ap (λ v. to_value k v s) same)

    pub or_assign-missing : is_missing old ≡ true
        → (evaluation right setting s >>= λ v t. assign_run name indices false v t >>= to_value k)
        ≡ ((if is_missing old then assigned_under false name (evaluation right) indices setting s else Done old s)
        >>= to_value k)
    or_assign-missing missing =
        sym (ap (λ b. (if b then assigned_under false name (evaluation right) indices setting s else Done old s)
        >>= to_value k) missing ∙ and_then-assoc _ _ _)
