-- What an IDE may ask of a proxy, in the grammar of command lines: DBGp 1.0, "Debugger Engine
-- Proxies". `proxyinit -p PORT -k KEY [-m 0|1] [-i ID]` and `proxystop -k KEY [-i ID]`.
use Rattle.std.specs.Prelude.{ℕ, zero, suc, ◌-◌, ◌^◌, ◌==◌, Bool, true, false, not, ◌&&◌, if◌then◌else◌}
use Rattle.std.specs.Prelude.{List, [], ◌∷◌, Option, Some, None, is_none, codes}
use Rattle.std.specs.Prelude.{option_map, option_and_then}
use Rattle.std.specs.List.{list_all, list_any}
use Rattle.std.specs.Option.{option_map_or}
use Rattle.std.specs.Str.{bytes_eq}
use Rattle.dp_outside.specs.Names.{is_name, key_limit}
use Rattle.dp_bytes.specs.Decimals.{decimal_in}
use Rattle.dp_command.specs.declared.line.Line.{Line}
use Rattle.dp_command.specs.Letters.{i, m, p}
use Rattle.dp_command.specs.Lines.{line_of}
use Rattle.dp_command.specs.Options.{Options, given, has_duplicate}
use Rattle.dp_proxy.specs.declared.calls.Call.{Call}
use Rattle.dp_proxy.specs.declared.calls.Call.TheVariants.{Register, Stop}

-- ---- options

abbrev pub k : ℕ
k = 107

-- the key of an IDE
abbrev pub is_key : List ℕ → Bool
is_key bytes = is_name key_limit bytes

abbrev pub key_in : Options → Option (List ℕ)
key_in options =
    option_and_then (λ key. if is_key key then Some key else None) (given k options)

abbrev pub not_zero : ℕ → Option ℕ
not_zero zero = None
not_zero (suc n) = Some (suc n)

-- the greatest port, of 16 bits
abbrev pub greatest_port : ℕ
greatest_port = 2 ^ 16 - 1

-- a decimal from 1 to the greatest port
abbrev pub port_in : Options → Option ℕ
port_in options =
    option_and_then not_zero (option_and_then (decimal_in greatest_port) (given p options))

abbrev pub flag_of : List ℕ → Option Bool
flag_of value =
    if bytes_eq value (codes "0") then Some false
    else (if bytes_eq value (codes "1") then Some true else None)

-- whether several sessions at a time are taken: not, where the options do not say it
abbrev pub multiple_in : Options → Option Bool
multiple_in options = option_map_or flag_of (given m options) (Some false)

-- each option has one of these letters, and no letter stands twice
abbrev pub fits : List ℕ → Options → Bool
fits letters options =
    list_all (λ o. list_any (λ letter. letter == o.0) letters) options
    && not (has_duplicate options)

-- ---- calls

abbrev pub register_in : Options → Option Call
register_in options =
    option_and_then
    (λ port. option_and_then
    (λ key. option_map (λ multiple. Register port key multiple) (multiple_in options))
    (key_in options))
    (port_in options)

abbrev pub stop_in : Options → Option Call
stop_in options = option_map Stop (key_in options)

abbrev pub registers : Line → Bool
registers line = bytes_eq line.name (codes "proxyinit") && fits (i ∷ k ∷ m ∷ p ∷ []) line.options

abbrev pub stops : Line → Bool
stops line = bytes_eq line.name (codes "proxystop") && fits (i ∷ k ∷ []) line.options

abbrev pub call_by : Line → Option Call
call_by line =
    if registers line then register_in line.options
    else (if stops line then stop_in line.options else None)

abbrev pub call_on : Line → Option Call
call_on line = if is_none line.payload then call_by line else None

-- the call that a command names, if it names one
unfoldable pub call_of : List ℕ → Option Call
call_of command = option_and_then call_on (line_of command)

-- the command is a line that asks to stop, be it well formed or not
unfoldable pub is_stopping : List ℕ → Bool
is_stopping command =
    option_map_or (λ line. bytes_eq line.name (codes "proxystop")) (line_of command) false
