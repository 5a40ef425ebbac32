-- Writes leave the number of moments alone.
use Rattle.std.proofs.Common.{◌≡◌, ℕ, false, Option, Some, None, refl, ◌∙◌}
use Rattle.dp_state.specs.declared.state.State.{State}
use Rattle.dp_state.specs.Places.{given_keys}
use Rattle.dp_value.specs.declared.value.Value.{Value}
use Rattle.dp_meaning.specs.declared.writes.Write.{Write}
use Rattle.dp_meaning.specs.declared.writes.Write.TheVariants.{Place, Evaluate}
use Rattle.dp_actions.specs.Expressions.{evaluation}
use Rattle.dp_actions.specs.Setting.{Setting}
use Rattle.dp_meaning.specs.Writes.{Writes, alone, evaluation_limit, left_by, one_write, recounted, written}
use Rattle.dp_meaning.proofs.Apart.{part-assigned}
use Rattle.dp_meaning.proofs.Steady.{apart, moments_of}
use Rattle.dp_meaning.proofs.WrittenStates.{place-leaves, writes-keep}

moments-left : (o : Option (Value × State)) (s : State) → (left_by s (recounted s.moments o)).moments ≡ s.moments
moments-left None s = refl
moments-left (Some end) s = refl

moments-one : (setting : Setting) (w : Write) (s : State) → (one_write setting w s).moments ≡ s.moments
moments-one setting (Place level context path value) s =
    place-leaves (λ t. t.moments ≡ s.moments) s refl (λ level path v t e.
    part-assigned moments_of apart level path.name (given_keys path.keys) false v s t e) level context path value
moments-one setting (Evaluate e) s =
    moments-left (alone evaluation_limit (evaluation e setting (record s { moments = 0 }))) s

pub moments-written : (writes : Writes) (n : ℕ) (s : State) → (written writes n s).moments ≡ s.moments
moments-written writes n s =
    writes-keep writes.setting (λ t. t.moments ≡ s.moments) (λ w t p. moments-one writes.setting w t ∙ p)
    writes.list n s refl
