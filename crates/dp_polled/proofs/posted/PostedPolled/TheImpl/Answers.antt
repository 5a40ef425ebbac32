use Rattle.std.proofs.Common.{Bool, List, ℕ, Some, ap, refl}
use Rattle.atomic_table.specs.Seated.{TableId}
use Rattle.dp_polled.proofs.posted.PostedPolled.TheImpl.Goals as goal

pub wait-tells : goal.wait-tells
wait-tells g c =
    let e = c.ensures in
    record {
      bound = e.bound;
      left = refl;
      given = ap (λ (l : List ℕ). Some l) e.given;
      end = λ _. tt;
      over = ap (λ (b : Bool). Some b) e.over;
      post = ap (λ (z : TableId). Some z) e.post;
      looks = e.looks;
      held = e.held;
      cause = e.cause;
    }
