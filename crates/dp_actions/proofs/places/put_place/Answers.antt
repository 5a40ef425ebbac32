use Rattle.std.proofs.Common.{◌≡◌, [], ◌∷◌, arith}
use Rattle.dp_actions.proofs.GivenUp.{assign-given_up}
use Rattle.dp_actions.proofs.LinkedValues.{only}
use Rattle.dp_actions.proofs.places.put_place.Goals as goal

pub returns-in-len1 : goal.returns-in-len1
returns-in-len1 c =
    let indices = c.args.indices.now in
    let one : indices ≡ c.index-item.result ∷ [] = only indices _ (omega arith) (omega arith) c.index-item.is in
    rw (one, assign-given_up) (rw (c.from_ref.ensures.value, c.in_ok-key.ensures) at c.write_keyed.ensures)

pub returns : goal.returns
returns c = rw assign-given_up (rw (c.as_slice.ensures.value, c.in_ok-keys.ensures) at c.write_keyed-2.ensures)
