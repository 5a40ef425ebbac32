-- How the value of one attribute of the root is read: as `head_of` reads a head, but of each
-- attribute only its name is kept, and the one value that is sought.
use Rattle.std.specs.Prelude.{ℕ, Bool, true, false, ◌||◌, ◌==◌, if◌then◌else◌, [], ◌∷◌, ◌++◌, Option, Some, None, codes}
use Rattle.std.specs.declared.ops.ControlFlow.{ControlFlow}
use Rattle.std.specs.declared.ops.ControlFlow.TheVariants.{Continue, Break}
use Rattle.dp_markup.specs.declared.sought.Sought.{Sought}
use Rattle.dp_markup.specs.Rules.{passing}
use Rattle.dp_markup.specs.Classes.{is_white, is_quote}
use Rattle.dp_markup.specs.Grammar.{Text, same_text}
use Rattle.dp_markup.specs.inner.Names.{is_unseen}
use Rattle.dp_markup.specs.inner.Input.{head, next, Reader, ◌>>=◌, ◌>>◌, made, refuse, one, mark, word, tested, closed}
use Rattle.dp_markup.specs.inner.Readers.{same, name, spaced_mark, value_byte, spaced_value, prolog}

-- ---- values that are passed

unfoldable pub pass_step : ℕ → Unit {0} → Reader (ControlFlow (Unit {0}) (Unit {0}))
pass_step quote u ts =
    if next (same quote) (head ts) then made (made (mark quote) (λ _. tt)) Break ts
    else made (made (value_byte quote) (λ _. tt)) Continue ts

unfoldable pub pass_quoted : ℕ → Reader (Unit {0})
pass_quoted quote = closed (pass_step quote) tt

unfoldable pub pass_value : Reader (Unit {0})
pass_value = one (passing is_quote) >>= pass_quoted

unfoldable pub spaced_pass_step : Unit {0} → Reader (ControlFlow (Unit {0}) (Unit {0}))
spaced_pass_step u ts =
    if next is_quote (head ts) then made pass_value Break ts
    else made (made (one (passing is_white)) (λ _. tt)) Continue ts

unfoldable pub spaced_pass : Reader (Unit {0})
spaced_pass = closed spaced_pass_step tt

-- ---- start tags

unfoldable pub sought_value : Bool → Reader (Option Text)
sought_value true = made spaced_value Some
sought_value false = made spaced_pass (λ _. None)

-- the new value, where there is one
abbrev pub kept : Option Text → Option Text → Option Text
kept old None = old
kept old (Some v) = Some v

-- one more attribute
abbrev pub noted : Sought → Text → Option Text → Sought
noted s n v =
    record { names = s.names ++ (n, tt) ∷ []; value = kept s.value v; apart = false }

unfoldable pub sought_attribute : Text → Sought → Reader Sought
sought_attribute wanted s =
    name >>= tested (is_unseen s.names)
    >>= (λ n. spaced_mark 61 >> made (sought_value (same_text n wanted)) (noted s n))

abbrev pub white_in_sought : Sought → Sought
white_in_sought s = record { names = s.names; value = s.value; apart = true }

unfoldable pub sought_piece : Text → Sought → Reader Sought
sought_piece wanted s ts =
    if next is_white (head ts) then made (one (passing is_white)) (λ _. white_in_sought s) ts
    else if s.apart then sought_attribute wanted s ts
    else refuse ts

abbrev pub sought_of : Bool → Sought → Option Text
sought_of is_root s = if is_root then s.value else None

unfoldable pub sought_end : Bool → Sought → Reader (Option Text)
sought_end is_root s ts =
    if next (same 62) (head ts) then made (mark 62) (λ _. sought_of is_root s) ts
    else made (word (codes "/>")) (λ _. sought_of is_root s) ts

unfoldable pub sought_step : Bool → Text → Sought → Reader (ControlFlow (Option Text) Sought)
sought_step is_root wanted s ts =
    if next (λ b. b == 62 || b == 47) (head ts) then made (sought_end is_root s) Break ts
    else made (sought_piece wanted s) Continue ts

abbrev pub nothing_sought : Sought
nothing_sought = record { names = []; value = None; apart = false }

unfoldable pub sought_head : Text → Text → Reader (Option Text)
sought_head root wanted =
    prolog >> (name >>= (λ n. closed (sought_step (same_text n root) wanted) nothing_sought))
