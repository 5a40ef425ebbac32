-- A gate and its twins.
use Rattle.std.proofs.Common.{◌+◌, List, [], ◌∷◌, ◌++◌, refl, ◌∙◌, arith}
use Rattle.dp_crews.specs.Gates.{Gating}
use Rattle.dp_crews.specs.Twins.{Each, IsAtRest, IsTwinGate}

pub still : (a : Gating) → IsAtRest a a
still a =
    record {
      port = refl;
      later = omega arith;
      returned = refl;
      accepts = refl;
      accepted = refl;
      retired = refl;
    }

pub each_more : {X : Type 0} (P : X → Type 0) (xs : List X) (x : X) → Each P xs → P x → Each P (xs ++ x ∷ [])
each_more P [] x all one = (one, tt)
each_more P (y ∷ xs) x all one = (all.0, each_more P xs x all.1 one)

-- the gate rests as it did, when another twin was asked for
pub rests : (a b c : Gating) → IsAtRest a b → IsAtRest b c → IsAtRest a c
rests a b c p q =
    record {
      port = q.port ∙ p.port;
      later = omega (arith, p.later, q.later);
      returned = q.returned ∙ p.returned;
      accepts = q.accepts ∙ p.accepts;
      accepted = q.accepted ∙ p.accepted;
      retired = q.retired ∙ p.retired;
    }

-- a twin of the gate that rests is one of the gate as it was
pub twin_of : (a b t : Gating) → IsAtRest a b → IsTwinGate b t → IsTwinGate a t
twin_of a b t p q =
    record {
      port = q.port ∙ p.port;
      faults = q.faults;
      returned = q.returned;
      accepts = q.accepts;
      accepted = q.accepted;
      retired = q.retired;
    }
