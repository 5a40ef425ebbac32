-- How large a statement is, by how large its parts are; and that each body of a bundle fits into a frame of it.
use Rattle.std.proofs.Common.{◌≡◌, ℕ, zero, suc, ◌+◌, ◌-◌, ◌*◌, ◌<◌, ◌≤◌, List, [], ◌∷◌, length, get_or, map, Option, Some, None, refl, sym, ap, ◌∙◌, subst, arith}
use Rattle.std.specs.Prelude.{slice_get}
use Rattle.std.specs.Option.{option_map_or}
use denote.Param.Weighed.{at_most, most}
use Rattle.dp_tree.specs.declared.bundle.Bundle.{Bundle}
use Rattle.dp_tree.specs.declared.bundle.BundleFile.{BundleFile}
use Rattle.dp_tree.specs.declared.bundle.FunctionRef.{FunctionRef}
use Rattle.dp_tree.specs.Files.{function_at}
use Rattle.dp_state.specs.declared.state.State.{State}
use Rattle.dp_state.specs.Functions.{declared_function}
use Rattle.dp_tree.specs.declared.tree.Arm.{Arm}
use Rattle.dp_tree.specs.declared.tree.Binding.{Binding}
use Rattle.dp_tree.specs.declared.tree.Definition.{Definition}
use Rattle.dp_tree.specs.declared.tree.Expression.{Expression, size-Expression as measure}
use Rattle.dp_tree.specs.declared.tree.Function.{Function}
use Rattle.dp_tree.specs.declared.tree.Place.{Place, size-Place}
use Rattle.dp_tree.specs.declared.tree.Statement.{Statement}
use Rattle.dp_tree.specs.declared.tree.StatementKind.{StatementKind}
use Rattle.dp_tree.specs.declared.tree.StatementKind.TheFolds.{fold-roll-StatementKind, fold_out-Arm, fold_out-Statement}
use Rattle.dp_tree.specs.declared.tree.StatementKind.TheOpen.{StatementKind-F}
use Rattle.dp_tree.specs.declared.tree.StatementKind.TheVariants as kind
use Rattle.dp_tree.specs.Builtins.{builtin_of as builtin_named}
use Rattle.dp_tree.specs.declared.operators.Native.{Native}
use Rattle.dp_actions.specs.Calls.{BuiltIn, Declared, callee, declared_callee}
use Rattle.dp_actions.specs.Bodies.{statements_of}
use Rattle.dp_meaning.specs.inner.Sizes.{arm_layer, arm_size, body_size, definitions_size, expression_size, files_size, frame_size, functions_size, kind_layer, kind_size, sizes_sum, statement_layer, statement_size}

-- ---- statements

pub size-Expression : (e : Expression) → kind_size (kind.Expression e) ≡ kind_layer (StatementKind-F.Expression e)
unfolding kind_size arm_size statement_size
size-Expression e = ap kind_size (sym (kind.rolls-Expression e))
    ∙ fold-roll-StatementKind ℕ ℕ ℕ kind_layer arm_layer statement_layer (StatementKind-F.Expression e)

pub size-Echo : (operands : List Expression)
    → kind_size (kind.Echo operands) ≡ kind_layer (StatementKind-F.Echo operands)
unfolding kind_size arm_size statement_size
size-Echo operands = ap kind_size (sym (kind.rolls-Echo operands))
    ∙ fold-roll-StatementKind ℕ ℕ ℕ kind_layer arm_layer statement_layer (StatementKind-F.Echo operands)

pub size-Block : (statements : List Statement) → kind_size (kind.Block statements)
    ≡ kind_layer (StatementKind-F.Block (map statement_size statements))
unfolding kind_size arm_size statement_size
size-Block statements = ap kind_size (sym (kind.rolls-Block statements))
    ∙ fold-roll-StatementKind ℕ ℕ ℕ kind_layer arm_layer statement_layer (StatementKind-F.Block statements)

pub size-While : (test : Expression) (body : Statement) → kind_size (kind.While test body)
    ≡ kind_layer (StatementKind-F.While test (statement_size body))
unfolding kind_size arm_size statement_size
size-While test body = ap kind_size (sym (kind.rolls-While test body))
    ∙ fold-roll-StatementKind ℕ ℕ ℕ kind_layer arm_layer statement_layer (StatementKind-F.While test body)

pub size-DoWhile : (body : Statement) (end : ℕ) (test : Expression)
    → kind_size (kind.DoWhile body end test) ≡ kind_layer (StatementKind-F.DoWhile (statement_size body) end test)
unfolding kind_size arm_size statement_size
size-DoWhile body end test = ap kind_size (sym (kind.rolls-DoWhile body end test))
    ∙ fold-roll-StatementKind ℕ ℕ ℕ kind_layer arm_layer statement_layer (StatementKind-F.DoWhile body end test)

pub size-For : (before tests after : List Expression) (body : Statement)
    → kind_size (kind.For before tests after body) ≡ kind_layer
    (StatementKind-F.For before tests after (statement_size body))
unfolding kind_size arm_size statement_size
size-For before tests after body = ap kind_size (sym (kind.rolls-For before tests after body))
    ∙ fold-roll-StatementKind ℕ ℕ ℕ kind_layer arm_layer statement_layer (StatementKind-F.For before tests after body)

pub size-Foreach : (subject : Expression) (binding : Binding) (body : Statement)
    → kind_size (kind.Foreach subject binding body) ≡ kind_layer
    (StatementKind-F.Foreach subject binding (statement_size body))
unfolding kind_size arm_size statement_size
size-Foreach subject binding body = ap kind_size (sym (kind.rolls-Foreach subject binding body))
    ∙ fold-roll-StatementKind ℕ ℕ ℕ kind_layer arm_layer statement_layer (StatementKind-F.Foreach subject binding body)

pub size-Return : (value : Option Expression)
    → kind_size (kind.Return value) ≡ kind_layer (StatementKind-F.Return value)
unfolding kind_size arm_size statement_size
size-Return value = ap kind_size (sym (kind.rolls-Return value))
    ∙ fold-roll-StatementKind ℕ ℕ ℕ kind_layer arm_layer statement_layer (StatementKind-F.Return value)

pub size-Unset : (places : List Place) → kind_size (kind.Unset places) ≡ kind_layer (StatementKind-F.Unset places)
unfolding kind_size arm_size statement_size
size-Unset places = ap kind_size (sym (kind.rolls-Unset places))
    ∙ fold-roll-StatementKind ℕ ℕ ℕ kind_layer arm_layer statement_layer (StatementKind-F.Unset places)

pub size-Constants : (all : List Definition)
    → kind_size (kind.Constants all) ≡ kind_layer (StatementKind-F.Constants all)
unfolding kind_size arm_size statement_size
size-Constants all = ap kind_size (sym (kind.rolls-Constants all))
    ∙ fold-roll-StatementKind ℕ ℕ ℕ kind_layer arm_layer statement_layer (StatementKind-F.Constants all)

pub size-Exit : (value : Option Expression) → kind_size (kind.Exit value) ≡ kind_layer (StatementKind-F.Exit value)
unfolding kind_size arm_size statement_size
size-Exit value = ap kind_size (sym (kind.rolls-Exit value))
    ∙ fold-roll-StatementKind ℕ ℕ ℕ kind_layer arm_layer statement_layer (StatementKind-F.Exit value)

pub size-If-None : (arms : List Arm)
    → kind_size (kind.If arms None) ≡ kind_layer (StatementKind-F.If (map arm_size arms) None)
unfolding kind_size arm_size statement_size
size-If-None arms = ap kind_size (sym (kind.rolls-If arms None))
    ∙ fold-roll-StatementKind ℕ ℕ ℕ kind_layer arm_layer statement_layer (StatementKind-F.If arms None)

pub size-If-Some : (arms : List Arm) (otherwise : Statement) → kind_size (kind.If arms (Some otherwise))
    ≡ kind_layer (StatementKind-F.If (map arm_size arms) (Some (statement_size otherwise)))
unfolding kind_size arm_size statement_size
size-If-Some arms otherwise = ap kind_size (sym (kind.rolls-If arms (Some otherwise)))
    ∙ fold-roll-StatementKind ℕ ℕ ℕ kind_layer arm_layer statement_layer (StatementKind-F.If arms (Some otherwise))

pub size-If : (arms : List Arm) (otherwise : Option Statement)
    → kind_size (kind.If arms otherwise) ≡ sizes_sum (map arm_size arms) + option_map_or statement_size otherwise 0 + 2
size-If arms None = size-If-None arms
size-If arms (Some otherwise) = size-If-Some arms otherwise

pub size-statement : (statement : Statement) → statement_size statement ≡ kind_size statement.kind + 1
unfolding kind_size arm_size statement_size
size-statement statement = fold_out-Statement ℕ ℕ ℕ kind_layer arm_layer statement_layer statement

-- a statement of a kind, where it is known how large the kind is
pub sized : (statement : Statement) {k : StatementKind} → statement.kind ≡ k → {n : ℕ} → kind_size k ≡ n
    → statement_size statement ≡ n + 1
sized statement is size = size-statement statement ∙ ap (λ (k : StatementKind). kind_size k + 1) is
    ∙ ap (λ (n : ℕ). n + 1) size

pub size-arm : (arm : Arm) → arm_size arm ≡ expression_size arm.test + statement_size arm.body + 1
unfolding kind_size arm_size statement_size
size-arm arm = fold_out-Arm ℕ ℕ ℕ kind_layer arm_layer statement_layer arm

-- how large arms and places are, all of them
abbrev pub arms_size : List Arm → ℕ
arms_size arms = sizes_sum (map arm_size arms)

abbrev pub places_size : List Place → ℕ
places_size places = most size-Place places

-- ---- lists

pub size-in : {X : Type 0} (size : X → ℕ) (xs : List X) (i : ℕ) (x : X) → i < length xs → x ≡ get_or xs i x
    → size x < sizes_sum (map size xs)
size-in size [] i x h e = absurd (omega arith)
size-in size (y ∷ xs) zero x h e = let f : size x ≡ size y = ap size e in omega arith
size-in size (y ∷ xs) (suc i) x h e =
    let f : size x < sizes_sum (map size xs) = size-in size xs i x (omega arith) e in omega arith

pub size-some : {X : Type 0} (size : X → ℕ) (o : Option X) (x : X) → o ≡ Some x → option_map_or size o 0 ≡ size x
size-some size o x e = ap (λ o. option_map_or size o 0) e

pub size-definition : (ds : List Definition) (i : ℕ) (d : Definition) → i < length ds → d ≡ get_or ds i d
    → expression_size d.value ≤ definitions_size ds
size-definition ds i d within is =
    let least : measure (get_or ds i d).value ≤ most (λ (d : Definition). measure d.value) ds
    = at_most (λ (d : Definition). measure d.value) ds i d within in
    let same : measure d.value ≡ measure (get_or ds i d).value = ap (λ (d : Definition). measure d.value) is in
    omega arith

-- ---- bundles

functions-hold : (fs : List Function) (i : ℕ) (f : Function) → slice_get fs i ≡ Some f
    → body_size f.body ≤ functions_size fs
functions-hold [] i f e = absurd (cc)
functions-hold (g ∷ fs) zero f e = let same : g ≡ f = cc in let h : body_size f.body
    ≡ body_size g.body = ap (λ (f : Function). body_size f.body) (sym same) in omega arith
functions-hold (g ∷ fs) (suc i) f e =
    let h : body_size f.body ≤ functions_size fs = functions-hold fs i f e in omega arith

files-least : (files : List BundleFile) → 3 ≤ files_size files
files-least [] = omega arith
files-least (g ∷ files) = let h : 3 ≤ files_size files = files-least files in omega arith

files-hold : (files : List BundleFile) (i : ℕ) (file : BundleFile) → slice_get files i ≡ Some file
    → body_size file.tree.body + functions_size file.tree.functions + 2 ≤ files_size files
files-hold [] i file e = absurd (cc)
files-hold (g ∷ files) zero file e =
    let same : g ≡ file = cc in
    let h : body_size file.tree.body + functions_size file.tree.functions ≡ body_size g.tree.body + functions_size
    g.tree.functions =
    ap (λ (f : BundleFile). body_size f.tree.body + functions_size f.tree.functions) (sym same) in
    let k : 3 ≤ files_size files = files-least files in
    omega arith
files-hold (g ∷ files) (suc i) file e =
    let h : body_size file.tree.body + functions_size file.tree.functions + 2 ≤ files_size files = files-hold files i
    file e in omega arith

pub frame-function : (bundle : Bundle) (reference : FunctionRef) (f : Function) → function_at bundle reference ≡ Some f
    → body_size f.body + 1 < frame_size bundle
unfolding frame_size
frame-function bundle reference f e = go (slice_get bundle.files reference.file) refl e
  where
    go : (o : Option BundleFile) → slice_get bundle.files reference.file ≡ o
        → option_map_or (λ file. slice_get file.tree.functions reference.function) o None ≡ Some f
        → body_size f.body + 1 < files_size bundle.files
    go None h e = absurd (cc)
    go (Some file) h e =
        let k : body_size file.tree.body + functions_size file.tree.functions + 2 ≤ files_size bundle.files = files-hold
        bundle.files
        reference.file file h in
        let l : body_size f.body ≤ functions_size file.tree.functions = functions-hold file.tree.functions
        reference.function f e in
        omega arith

pub frame-file : (bundle : Bundle) (file : ℕ) → body_size (statements_of bundle file) + 1 < frame_size bundle
unfolding frame_size
frame-file bundle file = go (slice_get bundle.files file) refl
  where
    go : (o : Option BundleFile) → slice_get bundle.files file ≡ o
        → body_size (option_map_or (λ f. f.tree.body) o []) + 1 < files_size bundle.files
    go None h = let k : 3 ≤ files_size bundle.files = files-least bundle.files in omega arith
    go (Some f) h =
        let k : body_size f.tree.body + functions_size f.tree.functions + 2 ≤ files_size bundle.files = files-hold
        bundle.files file f
        h in omega arith

-- the body of a declared callee fits into a frame
pub frame-callee : (bundle : Bundle) (name : List ℕ) (s : State) (file : ℕ) (f : Function)
    → callee bundle name s ≡ Some (Declared file f)
    → body_size f.body + 1 < frame_size bundle
frame-callee bundle name s file f e = go (builtin_named name) (declared_function bundle name s.declared) e
  where
    found : (reference : FunctionRef) (o : Option Function) → function_at bundle reference ≡ o
        → option_map_or (λ g. Some (Declared reference.file g)) o None ≡ Some (Declared file f)
        → body_size f.body + 1 < frame_size bundle
    found reference None h e = absurd (cc)
    found reference (Some g) h e =
        let same : g ≡ f = cc in subst (λ (f : Function). body_size f.body + 1 < frame_size bundle) same
        (frame-function bundle reference g h)

    go : (o : Option Native) (r : Option FunctionRef)
        → option_map_or (λ b. Some (BuiltIn b)) o (option_map_or (declared_callee bundle) r None) ≡ Some
        (Declared file f)
        → body_size f.body + 1 < frame_size bundle
    go None None e = absurd (cc)
    go None (Some reference) e = found reference (function_at bundle reference) refl e
    go (Some b) r e = absurd (cc)

-- a frame less makes room for a body
pub frame_less : (depth frame body : ℕ) → (depth ≡ 0 → ⊥) → body + 1 < frame
    → (depth - 1) * frame + (body + 1) < depth * frame
frame_less zero frame body h k = absurd (h refl)
frame_less (suc depth) frame body h k =
    let e : suc depth - 1 ≡ depth = omega arith in
    subst (λ d. d * frame + (body + 1) < suc depth * frame) (sym e) (omega arith)
