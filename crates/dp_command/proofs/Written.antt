-- What is written is spelt so.
use Rattle.std.proofs.Common.{◌≡◌, ℕ, Bool, true, false, cond, not, ◌||◌, ◌==◌, List, [], ◌∷◌, ◌++◌, length, Option, Some, None, refl, sym, ap, ◌∙◌, append_assoc, arith, inl, inr}
use Rattle.std.specs.List.{flat_map, AllByRecursion}
use Rattle.std.specs.Prelude.{IfSome}
use Rattle.std.proofs.lemmas.Bool.{and_parts}
use Rattle.std.proofs.lemmas.List.{append-nil}
use Rattle.base64.specs.Engines.{standard}
use Rattle.base64.specs.GeneralPurpose.{encode_of, IsBytes}
use Rattle.dp_bytes.specs.Quotes.{in_quotes}
use Rattle.dp_command.specs.declared.line.Line.{Line}
use Rattle.dp_command.specs.Sorts.{is_letter, is_bare, Each}
use Rattle.dp_command.specs.Grammar.{InQuotes, Repeated, Value, Given, Ending, spelt}
use Rattle.dp_grammar.proofs.Runs.{not_zero}
use Rattle.dp_command.specs.Canonical.{all_bare, needs_quotes, quoted, canonical_value, canonical_option, canonical_payload, canonical, IsWellFormed}

inner_written : (value : List ℕ) → Repeated InQuotes value (flat_map in_quotes value)
inner_written [] = refl
inner_written (b ∷ t) =
    record { front = in_quotes b; back = flat_map in_quotes t; whole = refl; first = refl; second = inner_written t }

all_bare_each : (value : List ℕ) → all_bare value ≡ true → Each is_bare value
all_bare_each [] e = tt
all_bare_each (b ∷ t) e = let both = and_parts (is_bare b) (all_bare t) e in (both.0, all_bare_each t both.1)

not_false : (b : Bool) → not b ≡ false → b ≡ true
not_false true e = refl
not_false false e = absurd cc

value_cases : (value : List ℕ) (u : Bool) → needs_quotes value ≡ u → Value value (cond u (quoted value) value)
value_cases value true e = inr (record {
  front = 34 ∷ [];
  back = flat_map in_quotes value ++ 34 ∷ [];
  whole = refl;
  first = refl;
  second =
      record {
        front = flat_map in_quotes value;
        back = 34
            ∷ [];
        whole = refl;
        first = inner_written value;
        second = refl;
      };
})
value_cases [] false e = absurd cc
value_cases (b ∷ t) false e =
    let some : (length (b ∷ t) == 0) ≡ false = not_zero (length (b ∷ t)) (omega arith) in
    let bare : not (all_bare (b ∷ t)) ≡ false = sym (ap (λ c. c || not (all_bare (b ∷ t))) some) ∙ e in
    inl (all_bare_each (b ∷ t) (not_false (all_bare (b ∷ t)) bare), omega arith, refl)

option_written : (o : ℕ × List ℕ) → is_letter o.0 ≡ true → Given o (canonical_option o)
option_written o e = record {
  front = 32 ∷ [];
  back = 45 ∷ o.0 ∷ 32 ∷ canonical_value o.1;
  whole = refl;
  first = ((refl, tt), omega arith);
  second = (
    e,
    record {
      front = 45 ∷ o.0 ∷ [];
      back = 32 ∷ canonical_value o.1;
      whole = refl;
      first = refl;
      second =
          record {
            front = 32
                ∷ [];
            back = canonical_value o.1;
            whole = refl;
            first = ((refl, tt), omega arith);
            second = value_cases o.1
                (needs_quotes o.1) refl;
          };
    },
  );
}

options_written : (os : List (ℕ × List ℕ)) → AllByRecursion (λ o. is_letter o.0 ≡ true) os
    → Repeated Given os (flat_map canonical_option os)
options_written [] all = refl
options_written (o ∷ os) all =
    record {
      front = canonical_option o;
      back = flat_map canonical_option os;
      whole = refl;
      first = option_written o
          all.0;
      second = options_written os all.1;
    }

payload_written : (payload : Option (List ℕ)) → IfSome payload IsBytes → Ending payload (canonical_payload payload)
payload_written None fits = tt
payload_written (Some p) fits = record {
  front = 32 ∷ [];
  back = 45 ∷ 45 ∷ 32 ∷ encode_of standard p;
  whole = refl;
  first = ((refl, tt), omega arith);
  second = record {
    front = 45 ∷ 45 ∷ [];
    back = 32 ∷ encode_of standard p;
    whole = refl;
    first = refl;
    second = record {
      front = 32 ∷ [];
      back = encode_of standard p;
      whole = refl;
      first = ((refl, tt), omega arith);
      second =
          record {
            front = encode_of standard p;
            back = [];
            whole = sym (append-nil (encode_of standard p));
            first =
                (fits, refl);
            second = tt;
          };
    };
  };
}

pub written_is : (line : Line) → IsWellFormed line → spelt (canonical line) line
written_is line fits = record {
  front = line.name;
  back = flat_map canonical_option line.options ++ canonical_payload line.payload;
  whole = append_assoc line.name (flat_map canonical_option line.options) (canonical_payload line.payload);
  first = (fits.name, refl);
  second = record {
    front = flat_map canonical_option line.options;
    back = canonical_payload line.payload;
    whole = refl;
    first = options_written line.options fits.letters;
    second = payload_written line.payload fits.payload;
  };
}
