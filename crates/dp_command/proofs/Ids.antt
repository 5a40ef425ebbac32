-- A transaction id that is not empty is one.
use Rattle.std.proofs.Common.{◌≡◌, ℕ, Bool, true, false, cond, ◌==◌, List, [], length, Option, Some, None, refl}
use Rattle.dp_command.specs.Refusals.{is_id, id_in}

pub has_id : (o : Option (List ℕ)) → (length (id_in o) == 0) ≡ false → is_id (id_in o) ≡ true
has_id None e = cc
has_id (Some v) e = go (is_id v) refl e
  where
    go : (b : Bool) → is_id v ≡ b → (length (cond b v []) == 0) ≡ false → is_id (cond b v []) ≡ true
    go true is e = is
    go false is e = cc
