-- The write that property_set or eval asks for, or why it is none: DBGp 1.0, "property_set",
-- "eval". Which types there are, how their values are spelled, and the order of the codes are this
-- engine's own.
use Rattle.std.specs.Prelude.{ℕ, ◌==◌, nat_le, Bool, true, false, if◌then◌else◌, List, length, codes, Option, Some, None, ok_or, option_map, Result, Ok, Err}
use Rattle.std.specs.Option.{option_map_or}
use Rattle.std.specs.Str.{bytes_eq}
use Rattle.dp_command.specs.declared.command.PropertyPlace.{PropertyPlace}
use Rattle.dp_command.specs.declared.command.PropertySet.{PropertySet}
use Rattle.dp_command.specs.declared.command.WriteRequest.{WriteRequest}
use Rattle.dp_command.specs.declared.command.WriteRequest.TheVariants as request
use Rattle.dp_meaning.specs.declared.writes.Write.{Write}
use Rattle.dp_meaning.specs.declared.writes.Write.TheVariants as write
use Rattle.dp_parse.specs.ExpressionIn.{expression_in}
use Rattle.dp_token_rules.specs.Terminals.{is_superglobal}
use Rattle.dp_state.specs.declared.moments.Path.{Path}
use Rattle.dp_state.specs.declared.state.State.{State}
use Rattle.dp_tree.specs.declared.tree.Expression.{Expression}
use Rattle.dp_value.specs.declared.value.Value.{Value}
use Rattle.dp_value.specs.declared.value.Value.TheVariants as variant
use Rattle.dp_bytes.specs.IntText.{int_of_text}
use Rattle.dp_packet.specs.declared.error_codes.ErrorCode.{ErrorCode}
use Rattle.dp_packet.specs.declared.error_codes.ErrorCode.TheVariants.{InvalidOptions, ErrorEvaluatingCode, CannotGetProperty}
use Rattle.dp_view.specs.Answers.{and_then}
use Rattle.dp_view.specs.Named.{named_path}
use Rattle.dp_wire.specs.Frames.{command_limit}

-- ---- values from their bytes

abbrev pub bool_in : List ℕ → Option Value
bool_in bytes =
    if bytes_eq bytes (codes "0") then Some (variant.Bool false)
    else if bytes_eq bytes (codes "1") then Some (variant.Bool true) else None

abbrev pub int_in : List ℕ → Option Value
int_in bytes = option_map (λ n. variant.Int n) (int_of_text bytes)

abbrev pub null_in : List ℕ → Option Value
null_in bytes = if length bytes == 0 then Some variant.Null else None

-- the value of this type that these bytes spell, if it spells one
abbrev pub value_as : List ℕ → List ℕ → Option Value
value_as kind bytes =
    if bytes_eq kind (codes "string") then Some (variant.Text bytes)
    else if bytes_eq kind (codes "int") then int_in bytes
    else if bytes_eq kind (codes "bool") then bool_in bytes
    else if bytes_eq kind (codes "null") then null_in bytes else None

-- the same where the type may be missing: then it is string
abbrev pub value_given : Option (List ℕ) → List ℕ → Option Value
value_given None bytes = Some (variant.Text bytes)
value_given (Some kind) bytes = value_as kind bytes

-- the length that is given, if one is, is theirs
abbrev pub has_length : Option ℕ → List ℕ → Bool
has_length given bytes = option_map_or (λ n. n == length bytes) given true

-- the value that a property is to have
abbrev pub requested_value : PropertySet → Option Value
requested_value set =
    if has_length set.length set.value then value_given set.kind set.value else None

-- ---- places

-- a path whose variable a program may name: to no other one anything is written
abbrev pub unreserved : Path → Result Path ErrorCode
unreserved path = if is_superglobal path.name then Err CannotGetProperty else Ok path

-- the path that is to be written, where there are its level and its context, and the name is one
-- and not reserved
abbrev pub requested_path : State → PropertyPlace → Result Path ErrorCode
requested_path s place = and_then unreserved (named_path s place.level place.context place.name)

abbrev pub write_at : PropertyPlace → Value → Path → Write
write_at place value path = write.Place place.level place.context path value

-- ---- writes

-- the write of a property: where there is such a value, then where there is its path
abbrev pub property_write : State → PropertySet → Result Write ErrorCode
property_write s set =
    and_then
    (λ value. and_then (λ path. Ok (write_at set.place value path)) (requested_path s set.place))
    (ok_or (requested_value set) InvalidOptions)

-- the tree of a text that is an expression; no command has one that is longer
abbrev pub tree_of : List ℕ → Option Expression
tree_of text = if nat_le (length text) command_limit then expression_in text else None

-- the write of an evaluation, where the text is an expression
abbrev pub evaluation_write : List ℕ → Result Write ErrorCode
evaluation_write text = ok_or
    (option_map (λ e. write.Evaluate e) (tree_of text)) ErrorEvaluatingCode

-- the write that a command asks for in a state, or the code of its refusal
unfoldable pub requested_write : State → WriteRequest → Result Write ErrorCode
requested_write s (request.PropertySet set) = property_write s set
requested_write s (request.Eval text) = evaluation_write text
