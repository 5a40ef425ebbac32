-- What a link gives whose operand is known, and the list of one element.
use Rattle.std.proofs.Common.{◌≡◌, ℤ, ◌≤◌, ◌<◌, List, [], ◌∷◌, length, get_or, Ok, ap, ◌∙◌}
use Rattle.std.proofs.Math.ListN.{drop_of_length-le}
use Rattle.dp_operations.specs.Binary.{binary_of}
use Rattle.dp_state.specs.declared.state.State.{State}
use Rattle.dp_tree.specs.declared.operators.BinaryOp.{BinaryOp}
use Rattle.dp_tree.specs.declared.tree.Link.{Link}
use Rattle.dp_tree.specs.declared.tree.Operator.TheVariants.{Of}
use Rattle.dp_value.specs.declared.value.Value.{Value}
use Rattle.dp_value.specs.declared.value.Value.TheVariants.{Int}
use Rattle.dp_value.specs.Data.{integer}
use Rattle.dp_value.specs.Value.{data_of}
use Rattle.dp_actions.specs.AtOnce.{AtOnce}
use Rattle.dp_actions.specs.Expressions.{expression_run, link_run}
use Rattle.dp_actions.specs.Setting.{Setting}
use Rattle.dp_actions.proofs.AtOnceLaws.{goes_on}
use Rattle.dp_actions.proofs.Layers.{run-link}
use Rattle.dp_actions.proofs.ObservedValues.{front}
use Rattle.dp_actions.proofs.Tails.{value-ok}

pub linked : (link : Link) (op : BinaryOp) (a b x y : ℤ) (v : Value) (setting : Setting) (s : State)
    → link.operator ≡ Of op → AtOnce ((expression_run link.operand).value setting s) (Ok (Int b)) s → x ≡ a → y ≡ b
    → binary_of op (integer x) (integer y) ≡ Ok (data_of v) → AtOnce (link_run link (Int a) setting s) (Ok v) s
linked link op a b x y v setting s is operand first second table =
    let same : binary_of op (integer a) (integer b) ≡ Ok (data_of v) = rw (← first, ← second) table in
    rw (run-link, is) (goes_on _ operand (value-ok s _ v same))

pub only : {X : Type 0} (xs : List X) (x : X) → 0 < length xs → length xs ≤ 1 → x ≡ get_or xs 0 x → xs ≡ x ∷ []
only xs x some one is = front xs 0 x some is ∙ ap (λ rest. x ∷ rest) (drop_of_length-le xs one)
