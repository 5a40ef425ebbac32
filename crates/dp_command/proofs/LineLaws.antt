-- Reading from left to right gives exactly the line that the bytes spell.
use Rattle.std.proofs.Common.{◌≡◌, ℕ, List, ◌++◌, Option, Some, None, Result, Ok, Err, refl, sym, ap, subst, ◌∙◌}
use Rattle.std.specs.Prelude.{IfOk, MatchResult, option_map}
use Rattle.base64.specs.Engines.{standard}
use Rattle.base64.specs.GeneralPurpose.{decoded_of, IsBytes}
use Rattle.dp_command.specs.declared.line.Line.{Line}
use Rattle.dp_command.specs.declared.errors.LineError.{LineError}
use Rattle.dp_command.specs.declared.errors.LineError.TheVariants as errors
use Rattle.dp_command.specs.Grammar.{Ending, spelt}
use Rattle.dp_command.specs.Lines.{Gives, line_with, with_text, line_of}
use Rattle.dp_command.specs.inner.Parts.{◌>>=◌, parts_at}
use Rattle.dp_grammar.proofs.Runs.{some_is, bind_some}
use Rattle.dp_command.proofs.Found.{parts_found, some_found, none_found}
use Rattle.dp_command.proofs.Again.{parts_again, text_of}
use Rattle.dp_command.proofs.Decoded.{front_is, back_is, decoded_is, encoded_is}

abbrev Parts : Type 0
Parts = List ℕ × List (ℕ × List ℕ) × Option (List ℕ)

-- ---- what is spelt is read

payload_again : (name : List ℕ) (options : List (ℕ × List ℕ)) (payload : Option (List ℕ)) (back : List ℕ)
    → Ending payload back → with_text name options (text_of payload) ≡ Some (line_with name options payload)
payload_again name options None back j = refl
payload_again name options (Some p) back j =
    ap (λ (found : Option (List ℕ)). option_map (λ q. line_with name options (Some q)) found)
    (encoded_is p j.second.second.second.first.0)

pub line_again : (bytes : List ℕ) (line : Line) → spelt bytes line → line_of bytes ≡ Some line
unfolding line_of
line_again bytes line s =
    ap (λ (r : Option Parts). r >>= λ parts. with_text parts.0 parts.1 parts.2)
    (parts_again bytes line.name line.options line.payload s)
    ∙ payload_again line.name line.options line.payload s.second.back s.second.second

-- ---- what is read is spelt

map_some : {A B : Type 0} (f : A → B) (r : Option A) (y : B) → option_map f r ≡ Some y
    → (x : A) × (r ≡ Some x) × (f x ≡ y)
map_some f None y e = absurd cc
map_some f (Some x) y e = (x, refl, some_is (f x) y e)

-- a part of the bytes is bytes
part_is : (bytes front back : List ℕ) → IsBytes bytes → bytes ≡ front ++ back → IsBytes front × IsBytes back
part_is bytes front back all e = let both = subst IsBytes e all in (front_is front back both, back_is front back both)

parts_spelt : (bytes name : List ℕ) (options : List (ℕ × List ℕ)) (text : Option (List ℕ)) (line : Line) → IsBytes bytes
    → parts_at bytes ≡ Some (name, options, text)
    → with_text name options text ≡ Some line → spelt bytes line
parts_spelt bytes name options None line all e with =
    subst (spelt bytes) (some_is (line_with name options None) line with) (none_found bytes name options e)
parts_spelt bytes name options (Some text) line all e with =
    let parts : Parts = (name, options, Some text) in
    let j = parts_found bytes parts e in
    let o = j.second in
    let d = o.second in
    let t = d.second.second in
    let back = (part_is bytes j.front j.back all j.whole).1 in
    let ending = (part_is j.back o.front o.back back o.whole).1 in
    let behind = (part_is o.back d.front d.back ending d.whole).1 in
    let spaced = (part_is d.back d.second.front d.second.back behind d.second.whole).1 in
    let texts = (part_is d.second.back t.front t.back spaced t.whole).1 in
    let is_text = subst IsBytes t.second.first (part_is t.back t.second.front t.second.back texts t.second.whole).0 in
    let m = map_some (λ q. line_with name options (Some q)) (decoded_of standard text) line with in
    let found = decoded_is text m.0 is_text m.1 in
    subst (spelt bytes) m.2 (some_found bytes name text m.0 options e found.0 found.1)

pub line_found : (bytes : List ℕ) (line : Line) → IsBytes bytes → line_of bytes ≡ Some line → spelt bytes line
unfolding line_of
line_found bytes line all e =
    let p = bind_some (parts_at bytes) (λ parts. with_text parts.0 parts.1 parts.2) line e in
    parts_spelt bytes p.0.0 p.0.1 p.0.2 line all p.1 p.2

-- ---- what a function that reads answers

pub read_found : (bytes : List ℕ) (result : Result Line LineError) → IsBytes bytes
    → Gives (λ line. line) result (line_of bytes) → IfOk result (λ line. spelt bytes line)
read_found bytes (Ok line) all e = line_found bytes line all e
read_found bytes (Err e) all f = tt

pub read_only : (bytes : List ℕ) (result : Result Line LineError) (line : Line)
    → Gives (λ line. line) result (line_of bytes) → spelt bytes line
    → MatchResult result (λ read. read ≡ line) (λ e. e ≡ errors.Memory)
read_only bytes (Ok read) line e s = some_is read line (sym e ∙ line_again bytes line s)
read_only bytes (Err errors.Memory) line e s = refl
read_only bytes (Err errors.Parse) line e s = let p : None ≡ Some line = sym e ∙ line_again bytes line s in absurd cc

-- a line that is spelt is never refused
pub never_parse : (result : Result Line LineError) (line : Line) → result ≡ Err errors.Parse
    → MatchResult result (λ read. read ≡ line) (λ e. e ≡ errors.Memory) → ⊥
never_parse (Ok read) line e m = absurd cc
never_parse (Err errors.Memory) line e m = absurd cc
never_parse (Err errors.Parse) line e m = absurd cc
