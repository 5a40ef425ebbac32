-- Scripts of the IDE: one instruction a line. Empty lines and lines that begin with `#` do nothing.
use Rattle.std.specs.Prelude.{◌≡◌, ◌≢◌, ◌⊎◌, ℕ, ◌+◌, ◌*◌, ◌≤◌, true, List, [], ◌∷◌, ◌++◌, length, Option, Some, codes}
use Rattle.dp_command.specs.declared.line.Line.{Line}
use Rattle.dp_command.specs.Grammar.{spelt}
use Rattle.dp_command.specs.Letters as letter
use Rattle.dp_command.specs.Options.{given}
use Rattle.dp_grammar.specs.Lines as lines
use Rattle.dp_grammar.specs.Lines.{LineRule, Say, has_no_blank, is_idle, lines_of}
use Rattle.dp_grammar.specs.Parts.{Part, ◌>>◌, Mark, Repeated}
use Rattle.dp_grammar.specs.Prefixes.{◌>>=◌}
use Rattle.dp_grammar.specs.Texts.{hexadecimal_behind}
use Rattle.dp_reply.specs.Contents.{most_16}
use Rattle.dp_bytes.specs.Decimals.{decimal_in}
use Rattle.dp_wire.specs.Frames.{IsCommand}
use Rattle.dp_ide.specs.declared.instruction.Act.{Act}
use Rattle.dp_ide.specs.declared.instruction.Act.TheVariants.{Send, Attr, Code, Prop, Out, Print}
use Rattle.dp_ide.specs.declared.instruction.Instruction.{Instruction}

-- ---- names and texts

-- NAME: at least one byte and no space
pub record Name (name bytes : List ℕ) : Type 0 where
  pub same : bytes ≡ name
  pub some_byte : 1 ≤ length name
  pub whole : has_no_blank name ≡ true

-- the number that a hexadecimal digit is, of either case
abbrev pub digit_of : ℕ → Option ℕ
digit_of digit = hexadecimal_behind 0 digit

-- the byte that two of them make
abbrev pub byte_of : ℕ → ℕ → Option ℕ
byte_of high low = digit_of high >>= λ h. digit_of low >>= λ l. Some (h * 16 + l)

-- `\xHH`
pub record InHexadecimal (byte : ℕ) (bytes : List ℕ) : Type 0 where
  pub high : ℕ
  pub low : ℕ
  pub whole : bytes ≡ codes "\\x" ++ high ∷ low ∷ []
  pub digits : byte_of high low ≡ Some byte

-- A byte stands for itself, but for a backslash: `\n` is a line feed, `\\` a backslash, and `\xHH`
-- any byte.
abbrev pub InText : ℕ → Part ℕ
InText byte bytes =
    ((byte ≢ 92) × (bytes ≡ byte ∷ []))
    ⊎ ((byte ≡ 10) × (bytes ≡ codes "\\n"))
    ⊎ ((byte ≡ 92) × (bytes ≡ codes "\\\\"))
    ⊎ InHexadecimal byte bytes

-- TEXT, which may be empty
abbrev pub Text : List ℕ → Part ℕ
Text text = Repeated InText text

-- [ SP TEXT ]
abbrev pub Behind : List ℕ → Part ℕ
Behind text bytes = ((text ≡ []) × (bytes ≡ [])) ⊎ (Mark (codes " ") >> Text text) bytes

-- N: a decimal up to 65,535
abbrev pub Number : ℕ → Part ℕ
Number n bytes = decimal_in most_16 bytes ≡ Some n

-- LINE: a command line with an `-i`; the id is the value of the first one, whatever it is
pub record Command (line id bytes : List ℕ) : Type 0 where
  pub same : bytes ≡ line
  pub is_command : IsCommand line
  pub parts : Line
  pub is_spelt : spelt line parts
  pub asks : given letter.i parts.options ≡ Some id

-- ---- instructions

-- the line of this act
abbrev pub ActLine : Act → Part ℕ
ActLine (Send line id) = Mark (codes "send ") >> Command line id
ActLine (Attr name text) = Mark (codes "attr ") >> Name name >> Behind text
ActLine (Code n) = Mark (codes "code ") >> Number n
ActLine (Prop name text) = Mark (codes "prop ") >> Name name >> Behind text
ActLine (Out text) = Mark (codes "out") >> Behind text
ActLine Print = Mark (codes "print")

-- the line of this number says nothing, or one instruction
abbrev pub Says : ℕ → List ℕ → List Instruction → Type 0
Says number line [] = is_idle line ≡ true
Says number line (one ∷ []) = (one.line ≡ number) × ActLine one.act line
Says number line (one ∷ other ∷ more) = ⊥

-- the same behind whatever was said before
abbrev pub SaysAt : LineRule Instruction
SaysAt before number line said = Says number line said

-- the bytes are a script of these instructions
abbrev pub IsScript : List ℕ → List Instruction → Type 0
IsScript bytes instructions = Say SaysAt (lines_of bytes) instructions

-- some bytes are a script of these instructions
abbrev pub IsOfSomeScript : List Instruction → Type 0
IsOfSomeScript instructions = (bytes : List ℕ) × IsScript bytes instructions

-- the line of this number, counted from 1, is the first with which no script begins
abbrev pub IsFirstBad : List ℕ → ℕ → Type 0
IsFirstBad bytes number = lines.IsFirstBad SaysAt bytes number
