-- What a request asks for, by its arguments: Debug Adapter Protocol, "Requests". Arguments that are
-- not named here are not used.
use Rattle.std.specs.Prelude.{ℕ, ◌==◌, Bool, true, false, List, [], ◌∷◌, Option, Some, None, option_map, option_and_then, if◌then◌else◌, codes}
use Rattle.std.specs.Option.{option_map_or}
use Rattle.serde_json.specs.Data.{Data, Items, no_items, item}
use Rattle.serde_json.specs.Find.{get, as_bool, as_str, as_array}
use Rattle.dp_bodies.specs.Requests.{whole}
use Rattle.dp_bodies.specs.Texts.{php_text}
use Rattle.dp_command.specs.declared.command.Continuation.TheVariants as going
use Rattle.dp_command.specs.Numbers.{greatest}
use Rattle.dp_bytes.specs.Decimals.{decimal_in}
use Rattle.dp_dap_messages.specs.declared.arguments.Hits.{Hits}
use Rattle.dp_dap_messages.specs.declared.arguments.Hits.TheVariants.{Any, On, Bad}
use Rattle.dp_dap_messages.specs.declared.arguments.Asked.{Asked}
use Rattle.dp_dap_messages.specs.declared.arguments.Wish.{Wish}
use Rattle.dp_dap_messages.specs.declared.arguments.Wish.TheVariants as wish
use Rattle.dp_dap_messages.specs.declared.table.RequestName.{RequestName}
use Rattle.dp_dap_messages.specs.declared.table.RequestName.TheVariants as name

-- ---- arguments

-- the argument of this name, if it is given
abbrev pub given : List ℕ → Option Data → Option Data
given name arguments = option_and_then (get name) arguments

-- one that has to be given, as it is read
abbrev pub needed : {A : Type 0} → (Data → Option A) → List ℕ → Option Data → Option A
needed read name arguments = option_and_then read (given name arguments)

-- one that may be missing: it is this then
abbrev pub optional : {A : Type 0} → A → (Data → Option A) → List ℕ → Option Data → Option A
optional missing read name arguments = option_map_or read (given name arguments) (Some missing)

-- a text without a character above U+00FF
abbrev pub text : Data → Option (List ℕ)
text value = option_and_then php_text (as_str value)

abbrev pub some_text : Data → Option (Option (List ℕ))
some_text value = option_map Some (text value)

-- it is given, and this truth value
abbrev pub is_flag : Bool → List ℕ → Option Data → Bool
is_flag true name arguments = option_map_or (λ b. b) (needed as_bool name arguments) false
is_flag false name arguments =
    option_map_or (λ b. if b then false else true) (needed as_bool name arguments) false

-- where both are read
abbrev pub both : {A B C : Type 0} → (A → B → C) → Option A → Option B → Option C
both f (Some a) (Some b) = Some (f a b)
both f (Some a) None = None
both f None b = None

-- ---- breakpoints

-- the hit at which it stops: a decimal; another text is a mistake of this one breakpoint
abbrev pub hits_of : Option (List ℕ) → Hits
hits_of None = Any
hits_of (Some words) = option_map_or On (decimal_in greatest words) Bad

abbrev pub with_parts : Option ℕ → Option (Option (List ℕ)) → Option (Option (List ℕ))
    → Option Asked
with_parts (Some line) (Some condition) (Some hits) =
    Some (record { line = line; condition = condition; hits = hits_of hits })
with_parts (Some line) (Some condition) None = None
with_parts (Some line) None hits = None
with_parts None condition hits = None

abbrev pub breakpoint_in : Data → Option Asked
breakpoint_in value =
    with_parts (needed whole (codes "line") (Some value))
    (optional None some_text (codes "condition") (Some value))
    (optional None some_text (codes "hitCondition") (Some value))

abbrev pub breakpoints_in : Items → Option (List Asked)
breakpoints_in no_items = Some []
breakpoints_in (item value rest) = both (λ a l. a ∷ l) (breakpoint_in value) (breakpoints_in rest)

abbrev pub breakpoints : Data → Option (List Asked)
breakpoints value = option_and_then breakpoints_in (as_array value)

-- ---- requests

-- frames are numbered from 1, and an expression is evaluated in the first one
abbrev pub is_first_frame : Option Data → Bool
is_first_frame arguments =
    option_map_or (λ value. option_map_or (λ n. n == 1) (whole value) false)
    (given (codes "frameId") arguments) true

-- what a request asks for, if its arguments are such as it needs
abbrev pub wish_of : RequestName → Option Data → Option Wish
wish_of name.Initialize a = Some wish.Initialize
wish_of name.Launch a = Some (wish.Launch (is_flag true (codes "stopOnEntry") a))
wish_of name.ConfigurationDone a = Some wish.ConfigurationDone
wish_of name.SetExceptionBreakpoints a = Some wish.SetExceptionBreakpoints
wish_of name.SetBreakpoints a =
    both wish.SetBreakpoints (needed text (codes "path") (given (codes "source") a))
    (optional [] breakpoints (codes "breakpoints") a)
wish_of name.Threads a = Some wish.Threads
wish_of name.StackTrace a =
    both wish.StackTrace (optional 0 whole (codes "startFrame") a)
    (optional 0 whole (codes "levels") a)
wish_of name.Scopes a = option_map wish.Scopes (needed whole (codes "frameId") a)
wish_of name.Variables a = option_map wish.Variables (needed whole (codes "variablesReference") a)
wish_of name.Continue a = Some (wish.GoOn going.Run)
wish_of name.Next a = Some (wish.GoOn going.StepOver)
wish_of name.StepIn a = Some (wish.GoOn going.StepInto)
wish_of name.StepOut a = Some (wish.GoOn going.StepOut)
wish_of name.Evaluate a =
    if is_first_frame a then option_map wish.Evaluate (needed text (codes "expression") a) else None
wish_of name.Disconnect a =
    Some (wish.Disconnect (is_flag false (codes "terminateDebuggee") a))
