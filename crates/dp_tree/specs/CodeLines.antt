-- The lines on which a moment before a statement, a test or a binding may stand.
use Rattle.std.specs.Prelude.{ℕ, Bool, nat_eq, List, [], ◌∷◌, ◌++◌}
use Rattle.std.specs.Option.{option_map_or}
use Rattle.std.specs.List.{list_any, flat_map}
use Rattle.dp_tree.specs.declared.tree.Statement.{Statement, fold-Statement}
use Rattle.dp_tree.specs.declared.tree.StatementKind.TheOpen.{Statement-F, StatementKind-F, Arm-F}
use Rattle.dp_tree.specs.declared.tree.Function.{Function}
use Rattle.dp_tree.specs.declared.tree.File.{File}

abbrev pub Lines : Type 0
Lines = List ℕ

-- what a statement does has its lines from the line of the statement's first token
abbrev pub LinesFrom : Type 0
LinesFrom = ℕ → Lines

-- each layer of a tree, where the lines of its parts are known

abbrev pub statement_layer : Statement-F LinesFrom Lines Lines → Lines
statement_layer statement = statement.kind statement.line

abbrev pub kind_layer : StatementKind-F LinesFrom Lines Lines → LinesFrom
kind_layer (StatementKind-F.Expression value) line = line ∷ []
kind_layer (StatementKind-F.Echo values) line = line ∷ []
kind_layer (StatementKind-F.Block all) line = flat_map (λ lines. lines) all
kind_layer StatementKind-F.Empty line = []
kind_layer (StatementKind-F.If arms otherwise) line =
    flat_map (λ lines. lines) arms ++ option_map_or (λ lines. lines) otherwise []
kind_layer (StatementKind-F.While test body) line = line ∷ body
kind_layer (StatementKind-F.DoWhile body end test) line = body ++ end ∷ []
kind_layer (StatementKind-F.For before tests after body) line = line ∷ body
kind_layer (StatementKind-F.Foreach subject bound body) line = line ∷ body
kind_layer (StatementKind-F.Break loops) line = line ∷ []
kind_layer (StatementKind-F.Continue loops) line = line ∷ []
kind_layer (StatementKind-F.Return value) line = line ∷ []
kind_layer (StatementKind-F.Global names) line = line ∷ []
kind_layer (StatementKind-F.Unset places) line = line ∷ []
kind_layer (StatementKind-F.Constants all) line = line ∷ []
kind_layer (StatementKind-F.Exit value) line = line ∷ []

-- a test stands on the line of its `if`, `elseif` or `else if`
abbrev pub arm_layer : Arm-F LinesFrom Lines Lines → Lines
arm_layer arm = arm.line ∷ arm.body

abbrev pub lines_of : Statement → Lines
lines_of = fold-Statement LinesFrom Lines Lines kind_layer arm_layer statement_layer

abbrev pub body_lines : List Statement → Lines
body_lines all = flat_map lines_of all

-- the lines of a file: those of its statements and of its functions' bodies
abbrev pub file_lines : File → Lines
file_lines file =
    body_lines file.body ++ flat_map (λ (f : Function). body_lines f.body) file.functions

abbrev pub has_line : Lines → ℕ → Bool
has_line lines line = list_any (λ other. nat_eq other line) lines
