-- How large the parts of a program are. The evaluator's recursion ends by it: a part is larger than
-- its parts, and a frame of a bundle is larger than each body in it.
use Rattle.std.specs.Prelude.{ℕ, ◌+◌, ◌*◌, List, [], ◌∷◌, Option, map}
use Rattle.std.specs.Option.{option_map_or}
use denote.Param.Weighed.{most}
use Rattle.dp_tree.specs.declared.bundle.Bundle.{Bundle}
use Rattle.dp_tree.specs.declared.bundle.BundleFile.{BundleFile}
use Rattle.dp_tree.specs.declared.tree.Arm.{Arm, fold-Arm}
use Rattle.dp_tree.specs.declared.tree.Definition.{Definition}
use Rattle.dp_tree.specs.declared.tree.Expression.{Expression, size-Expression}
use Rattle.dp_tree.specs.declared.tree.Function.{Function}
use Rattle.dp_tree.specs.declared.tree.Place.{size-Place}
use Rattle.dp_tree.specs.declared.tree.Statement.{Statement, fold-Statement}
use Rattle.dp_tree.specs.declared.tree.StatementKind.{StatementKind, fold-StatementKind}
use Rattle.dp_tree.specs.declared.tree.StatementKind.TheOpen.{Statement-F, StatementKind-F, Arm-F}

-- ---- expressions, by how deep they nest

abbrev pub expression_size : Expression → ℕ
expression_size e = 5 * size-Expression e

abbrev pub expressions_size : List Expression → ℕ
expressions_size es = 5 * most size-Expression es + 2

abbrev pub optional_size : Option Expression → ℕ
optional_size o = option_map_or expression_size o 0

abbrev pub definitions_size : List Definition → ℕ
definitions_size ds = 5 * most (λ (d : Definition). size-Expression d.value) ds

-- ---- statements, by all that is in them

abbrev pub sizes_sum : List ℕ → ℕ
sizes_sum [] = 1
sizes_sum (n ∷ ns) = n + 1 + sizes_sum ns

abbrev pub statement_layer : Statement-F ℕ ℕ ℕ → ℕ
statement_layer statement = statement.kind + 1

abbrev pub arm_layer : Arm-F ℕ ℕ ℕ → ℕ
arm_layer arm = expression_size arm.test + arm.body + 1

abbrev pub kind_layer : StatementKind-F ℕ ℕ ℕ → ℕ
kind_layer (StatementKind-F.Expression e) = expression_size e + 2
kind_layer (StatementKind-F.Echo operands) = expressions_size operands + 2
kind_layer (StatementKind-F.Block statements) = sizes_sum statements + 1
kind_layer StatementKind-F.Empty = 1
kind_layer (StatementKind-F.If arms otherwise) =
    sizes_sum arms + option_map_or (λ n. n) otherwise 0 + 2
kind_layer (StatementKind-F.While test body) = expressions_size (test ∷ []) + body + 8
kind_layer (StatementKind-F.DoWhile body end test) = expression_size test + body + 4
kind_layer (StatementKind-F.For before tests after body) =
    expressions_size before + expressions_size tests + expressions_size after + body + 4
kind_layer (StatementKind-F.Foreach subject binding body) = expression_size subject + body + 4
kind_layer (StatementKind-F.Break loops) = 1
kind_layer (StatementKind-F.Continue loop) = 1
kind_layer (StatementKind-F.Return value) = optional_size value + 4
kind_layer (StatementKind-F.Global names) = 1
kind_layer (StatementKind-F.Unset places) = 5 * most size-Place places + 4
kind_layer (StatementKind-F.Constants all) = definitions_size all + 4
kind_layer (StatementKind-F.Exit value) = optional_size value + 4

unfoldable pub statement_size : Statement → ℕ
statement_size = fold-Statement ℕ ℕ ℕ kind_layer arm_layer statement_layer

unfoldable pub kind_size : StatementKind → ℕ
kind_size = fold-StatementKind ℕ ℕ ℕ kind_layer arm_layer statement_layer

unfoldable pub arm_size : Arm → ℕ
arm_size = fold-Arm ℕ ℕ ℕ kind_layer arm_layer statement_layer

abbrev pub body_size : List Statement → ℕ
body_size statements = sizes_sum (map statement_size statements)

-- ---- bundles

abbrev pub functions_size : List Function → ℕ
functions_size [] = 0
functions_size (f ∷ fs) = body_size f.body + functions_size fs

abbrev pub files_size : List BundleFile → ℕ
files_size [] = 3
files_size (file ∷ files) =
    body_size file.tree.body + functions_size file.tree.functions + files_size files

unfoldable pub frame_size : Bundle → ℕ
frame_size bundle = files_size bundle.files
