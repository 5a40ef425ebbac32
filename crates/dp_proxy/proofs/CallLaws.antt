-- A call that a command names has a key, and a port of 16 bits.
use Rattle.std.proofs.Common.{◌≡◌, ℕ, zero, suc, ◌≤◌, Bool, true, false, ◌&&◌, nat_le, if◌then◌else◌, List, Option, Some, None, option_map, option_and_then, codes}
use Rattle.std.proofs.Common.{refl, sym, ap, subst, arith}
use Rattle.std.proofs.lemmas.Bool.{and_parts, leb-true}
use Rattle.std.proofs.lemmas.Option.{same_Some, cond_some, option_and_then_some}
use Rattle.std.specs.Option.{IfSome, option_map_or}
use Rattle.std.specs.Str.{bytes_eq}
use Rattle.std.specs.Str.Parse.{digits_value}
use Rattle.dp_command.specs.declared.line.Line.{Line}
use Rattle.dp_command.specs.Letters.{p}
use Rattle.dp_command.specs.Lines.{line_of}
use Rattle.dp_command.specs.Options.{Options, given}
use Rattle.dp_outside.specs.Names.{IsKey}
use Rattle.dp_bytes.specs.Decimals.{is_decimal, decimal_in}
use Rattle.dp_proxy.specs.declared.calls.Call.{Call}
use Rattle.dp_proxy.specs.declared.calls.Call.TheVariants.{Register, Stop}
use Rattle.dp_proxy.specs.Calls.{greatest_port, k, is_key, key_in, not_zero, port_in, multiple_in, register_in, stop_in, registers, stops, call_by, call_on, call_of, is_stopping}
use Rattle.dp_proxy.specs.Replies.{IsKeyed}
use Rattle.dp_proxy.proofs.KeyLaws.{key_is}

abbrev pub IsSmall : Call → Type 0
IsSmall (Register port key multiple) = IsKey key × (port ≤ greatest_port)
IsSmall (Stop key) = IsKey key × Unit {0}

key_small : (options : Options) (key : List ℕ) → key_in options ≡ Some key → IsKey key
key_small options key e =
    option_and_then_some (λ key. if is_key key then Some key else None) (given k options) key e (λ text q f.
    let parts = cond_some (is_key text) text key f in
    subst IsKey parts.1 (key_is text parts.0))

number_small : (most n : ℕ) (text : List ℕ) → decimal_in most text ≡ Some n → n ≤ most
unfolding decimal_in
number_small most n text e =
    let parts = cond_some (is_decimal text && nat_le (digits_value 10 text) most) (digits_value 10 text) n e in
    let within : digits_value 10 text ≤ most = leb-true _ _ (and_parts (is_decimal text)
    (nat_le (digits_value 10 text) most) parts.0).1 in
    let same = parts.1 in
    omega arith

same_not_zero : (m n : ℕ) → not_zero m ≡ Some n → m ≡ n
same_not_zero zero n e = absurd cc
same_not_zero (suc m) n e = same_Some (suc m) n e

port_small : (options : Options) (port : ℕ) → port_in options ≡ Some port → port ≤ greatest_port
port_small options port e =
    option_and_then_some not_zero (option_and_then (decimal_in greatest_port) (given p options)) port e (λ n q f.
    option_and_then_some (decimal_in greatest_port) (given p options) n q (λ text r g.
    let within = number_small greatest_port n text g in
    let same = same_not_zero n port f in
    omega arith))

register_small : (options : Options) (call : Call) → register_in options ≡ Some call → IsSmall call
register_small options call e = option_and_then_some
    (λ port. option_and_then (λ key. option_map (λ multiple. Register port key multiple) (multiple_in options))
    (key_in options)) (port_in options) call e (λ port q f.
    option_and_then_some (λ key. option_map (λ multiple. Register port key multiple) (multiple_in options))
    (key_in options) call f (λ key r g.
    by port key (key_small options key r) (port_small options port q) (multiple_in options) g))
  where
    by : (port : ℕ) (key : List ℕ) → IsKey key → port ≤ greatest_port → (o : Option Bool)
        → option_map (λ multiple. Register port key multiple) o ≡ Some call → IsSmall call
    by port key is small None g = absurd cc
    by port key is small (Some multiple) g = subst IsSmall (same_Some (Register port key multiple) call g) (is, small)

stop_small : (options : Options) (call : Call) → stop_in options ≡ Some call → IsSmall call
stop_small options call e = by (key_in options) refl e where
  by : (o : Option (List ℕ)) → key_in options ≡ o → option_map Stop o ≡ Some call → IsSmall call
  by None q f = absurd cc
  by (Some key) q f = subst IsSmall (same_Some (Stop key) call f) (key_small options key q, tt)

line_small : (line : Line) (call : Call) → call_by line ≡ Some call → IsSmall call
line_small line call e = by (registers line) (stops line) refl refl e where
  by : (t u : Bool) → registers line ≡ t → stops line ≡ u → call_by line ≡ Some call → IsSmall call
  by true u q r e = register_small line.options call (rw q at e)
  by false true q r e = stop_small line.options call (rw (q, r) at e)
  by false false q r e = let clash : None ≡ Some call = rw (q, r) at e in absurd cc

pub call_small : (command : List ℕ) (call : Call) → call_of command ≡ Some call → IsSmall call
unfolding call_of
call_small command call e =
    option_and_then_some call_on (line_of command) call e (λ line q f. by line line.payload refl f) where
      by : (line : Line) (o : Option (List ℕ)) → line.payload ≡ o → call_on line ≡ Some call → IsSmall call
      by line None q f = line_small line call (rw q at f)
      by line (Some payload) q f = let clash : None ≡ Some call = rw q at f in absurd cc

small_keyed : (call : Call) → IsSmall call → IsKeyed call
small_keyed (Register port key multiple) h = h.0
small_keyed (Stop key) h = h.0

pub call_keyed : (command : List ℕ) (call : Call) → call_of command ≡ Some call → IsKeyed call
call_keyed command call e = small_keyed call (call_small command call e)

-- ---- a command that is read

module _ (command : List ℕ) where
  pub called : (line : Line) → line_of command ≡ Some line → call_on line ≡ call_of command
  unfolding call_of
  called line e = sym (ap (option_and_then call_on) e)

  pub uncalled : line_of command ≡ None → None ≡ call_of command
  unfolding call_of
  uncalled e = sym (ap (option_and_then call_on) e)

  pub keyed : (o : Option Call) → o ≡ call_of command → IfSome o IsKeyed
  keyed None e = tt
  keyed (Some call) e = call_keyed command call (sym e)

  pub stopping : (line : Line) → line_of command ≡ Some line
      → bytes_eq line.name (codes "proxystop") ≡ is_stopping command
  unfolding is_stopping
  stopping line e =
      sym (ap (λ (o : Option Line). option_map_or (λ (l : Line). bytes_eq l.name (codes "proxystop")) o false) e)

  pub not_stopping : line_of command ≡ None → false ≡ is_stopping command
  unfolding is_stopping
  not_stopping e =
      sym (ap (λ (o : Option Line). option_map_or (λ (l : Line). bytes_eq l.name (codes "proxystop")) o false) e)
