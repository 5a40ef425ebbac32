-- Of a list of breakpoints that is read one by one.
use Rattle.std.proofs.Common.{◌≡◌, List, [], ◌∷◌, ◌++◌, Option, Some, None, option_map, refl, ap, append_assoc}
use Rattle.dp_dap_messages.specs.declared.arguments.Asked.{Asked}
use Rattle.dp_dap_messages.specs.Arguments.{both}

-- one breakpoint more stands behind those that were read
pub one_more : (front : List Asked) (asked : Asked) (rest : Option (List Asked))
    → option_map (λ r. (front ++ asked ∷ []) ++ r) rest
    ≡ option_map (λ r. front ++ r) (both (λ a l. a ∷ l) (Some asked) rest)
one_more front asked None = refl
one_more front asked (Some r) = ap Some (append_assoc front (asked ∷ []) r)
