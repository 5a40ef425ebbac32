-- The words of the grammar, and the words that name nothing. Neither has a case.
use Rattle.std.specs.Prelude.{ℕ, if◌then◌else◌, List, [], ◌∷◌, codes, Option, Some, None, is_some, Bool, ◌||◌}
use Rattle.std.specs.List.{list_any}
use Rattle.std.specs.Option.{option_or}
use Rattle.std.specs.Str.{str_eq_ignore_ascii_case}
use Rattle.dp_lexer.specs.declared.token.TokenKind.{TokenKind}
use Rattle.dp_lexer.specs.declared.token.TokenKind.TheVariants as kind
use Rattle.dp_lexer.specs.declared.token.Word.{Word}
use Rattle.dp_lexer.specs.declared.token.Word.TheVariants as word

abbrev pub look_up_word : List ℕ → List (List ℕ × Word) → Option Word
look_up_word name [] = None
look_up_word name (row ∷ rows) =
    if str_eq_ignore_ascii_case name row.0 then Some row.1 else look_up_word name rows

-- the keywords that begin or join statements
abbrev pub statement_words : List (List ℕ × Word)
statement_words =
    (codes "as", word.As) ∷ (codes "break", word.Break) ∷ (codes "continue", word.Continue)
    ∷ (codes "die", word.Die) ∷ (codes "do", word.Do) ∷ (codes "echo", word.Echo)
    ∷ (codes "else", word.Else) ∷ (codes "elseif", word.ElseIf) ∷ (codes "exit", word.Exit)
    ∷ (codes "for", word.For) ∷ (codes "foreach", word.Foreach) ∷ (codes "function", word.Function)
    ∷ (codes "global", word.Global) ∷ (codes "if", word.If) ∷ (codes "return", word.Return)
    ∷ (codes "unset", word.Unset) ∷ (codes "while", word.While) ∷ []

-- the keywords of expressions
abbrev pub expression_words : List (List ℕ × Word)
expression_words =
    (codes "array", word.Array) ∷ (codes "false", word.False) ∷ (codes "include", word.Include)
    ∷ (codes "isset", word.Isset) ∷ (codes "null", word.Null) ∷ (codes "require", word.Require)
    ∷ (codes "true", word.True) ∷ []

-- the keyword that a name is, in any case of letters
abbrev pub keyword_of : List ℕ → Option Word
keyword_of name =
    option_or (look_up_word name statement_words) (look_up_word name expression_words)

-- what a name is: a keyword or itself
abbrev pub name_or : Option Word → List ℕ → TokenKind
name_or None name = kind.Name name
name_or (Some w) name = kind.Word w

abbrev pub word_of : List ℕ → TokenKind
word_of name = name_or (keyword_of name) name

-- the words that PHP keeps for itself and that are no tokens of their own
abbrev pub other_words : List (List ℕ)
other_words =
    codes "abstract" ∷ codes "and" ∷ codes "as" ∷ codes "callable" ∷ codes "case" ∷ codes "catch"
    ∷ codes "class" ∷ codes "clone" ∷ codes "const" ∷ codes "declare" ∷ codes "default"
    ∷ codes "empty" ∷ codes "enddeclare" ∷ codes "endfor" ∷ codes "endforeach" ∷ codes "endif"
    ∷ codes "endswitch" ∷ codes "endwhile" ∷ codes "eval" ∷ codes "extends" ∷ codes "final"
    ∷ codes "finally" ∷ codes "fn" ∷ codes "goto" ∷ codes "implements" ∷ codes "instanceof"
    ∷ codes "insteadof" ∷ codes "interface" ∷ codes "list" ∷ codes "match" ∷ codes "namespace"
    ∷ codes "new" ∷ codes "or" ∷ codes "print" ∷ codes "private" ∷ codes "protected"
    ∷ codes "public" ∷ codes "readonly" ∷ codes "static" ∷ codes "switch" ∷ codes "throw"
    ∷ codes "trait" ∷ codes "try" ∷ codes "use" ∷ codes "var" ∷ codes "xor" ∷ codes "yield"
    ∷ codes "int" ∷ codes "integer" ∷ codes "bool" ∷ codes "boolean" ∷ codes "float"
    ∷ codes "double" ∷ codes "real" ∷ codes "string" ∷ codes "object" ∷ codes "binary"
    ∷ codes "include_once" ∷ codes "require_once" ∷ codes "__halt_compiler" ∷ codes "__class__"
    ∷ codes "__dir__" ∷ codes "__file__" ∷ codes "__function__" ∷ codes "__line__"
    ∷ codes "__method__" ∷ codes "__namespace__" ∷ codes "__trait__" ∷ []

-- a word that names no function and no constant, in any case of letters
abbrev pub is_reserved : List ℕ → Bool
is_reserved name =
    is_some (keyword_of name) || list_any (λ word. str_eq_ignore_ascii_case name word) other_words
