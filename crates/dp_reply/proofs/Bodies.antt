-- What stands in a response is read as it was written.
use Rattle.std.proofs.Common.{◌≡◌, ℕ, Bool, true, false, List, [], ◌∷◌, Some, None, refl, ap, ◌∙◌, map, codes, decimal, nat_le, arith}
use Rattle.std.proofs.lemmas.Bool.{and_parts}
use Rattle.std.specs.List.{list_all, AllByRecursion}
use Rattle.std.specs.Option.{option_or}
use Rattle.dp_markup.specs.declared.tree.Element.{Element}
use Rattle.dp_markup.specs.declared.tree.Node.TheVariants as node
use Rattle.dp_markup.specs.Grammar.{limit}
use Rattle.dp_markup.specs.Readable.{AreNodes, IsReadable}
use Rattle.dp_packet.specs.declared.packet.Body.{Body}
use Rattle.dp_packet.specs.declared.packet.Body.TheVariants as body
use Rattle.dp_packet.specs.declared.packet.StackLine.{StackLine}
use Rattle.dp_packet.specs.declared.packet.BreakLine.{BreakLine}
use Rattle.dp_packet.specs.declared.property.Property.{Property}
use Rattle.dp_packet.specs.Parts.{Text, element}
use Rattle.dp_packet.specs.Messages.{message_of}
use Rattle.dp_packet.specs.Packets.{body_nodes, message_node}
use Rattle.dp_reply.specs.Contents.{◌>>=◌, is_named, is_foreign, words, elements, most_16}
use Rattle.dp_reply.specs.Readings.{stack_in, context_in, property_in, property_within, breakpoint_in, fault_in, stacks_in, contexts_in, properties_in, breakpoints_in, rows_in, list_in, body_of}
use Rattle.dp_reply.specs.Norm.{norm_body, is_body, is_stack_line, is_context, is_break_line}
use Rattle.dp_reply.proofs.Leaves.{number_is}
use Rattle.dp_reply.proofs.Nodes.{words_text, elements_text, words_none, elements_all, each_is}
use Rattle.dp_reply.proofs.Lines.{stack_element, stack_is, context_element, context_is, breakpoint_element, breakpoint_is}
use Rattle.dp_reply.proofs.Values.{around, property_element, nodes_are, property_again, nested_are}

-- each of a list that passes a test
all_are : {A : Type 0} (test : A → Bool) (P : A → Type 0) → ((a : A) → test a ≡ true → P a) → (all : List A)
    → list_all test all ≡ true → AllByRecursion P all
all_are test P is [] sound = tt
all_are test P is (a ∷ all) sound =
    let parts = and_parts (test a) (list_all test all) sound in
    (is a parts.0, all_are test P is all parts.1)

-- an element of another name is no error
no_fault : (e : Element) (all : List Element) → is_named (codes "error") e ≡ false → fault_in (e ∷ all) ≡ None
no_fault e [] other = rw other refl
no_fault e (next ∷ all) other = refl

stacks_are : (line : StackLine) (lines : List StackLine) → list_all is_stack_line (line ∷ lines) ≡ true
    → list_in (map stack_element (line ∷ lines)) ≡ Some (body.Stacks (line ∷ lines))
unfolding list_in stack_element
stacks_are line lines sound =
    let all = line ∷ lines in
    let found = each_is stack_in stack_element all (all_are is_stack_line
    (λ s. stack_in (stack_element s) ≡ Some s) stack_is all sound) in
    ap (λ fault. option_or fault (option_or (stacks_in (map stack_element all)) (rows_in (map stack_element all))))
    (no_fault (stack_element line) (map stack_element lines) refl)
    ∙ ap (λ r. option_or (r >>= λ lines. Some (body.Stacks lines)) (rows_in (map stack_element all))) found

no_stacks : (e : Element) (all : List Element) → is_named (codes "stack") e ≡ false → stacks_in (e ∷ all) ≡ None
unfolding stack_in
no_stacks e all other = rw other refl

no_contexts : (e : Element) (all : List Element) → is_named (codes "context") e ≡ false → contexts_in (e ∷ all) ≡ None
unfolding context_in
no_contexts e all other = rw other refl

no_properties : (e : Element) (all : List Element) → is_named (codes "property") e ≡ false
    → properties_in (e ∷ all) ≡ None
unfolding property_within limit
no_properties e all other = rw other refl

-- elements that are neither an error nor stack lines
rows : (e : Element) (all : List Element) → is_named (codes "error") e ≡ false → is_named (codes "stack") e ≡ false
    → list_in (e ∷ all) ≡ rows_in (e ∷ all)
unfolding list_in
rows e all x y =
    ap (λ fault. option_or fault (option_or (stacks_in (e ∷ all)) (rows_in (e ∷ all)))) (no_fault e all x)
    ∙ ap (λ stacks. option_or stacks (rows_in (e ∷ all))) (no_stacks e all y)

contexts_are : (c : Text × ℕ) (cs : List (Text × ℕ)) → list_all is_context (c ∷ cs) ≡ true
    → list_in (map context_element (c ∷ cs)) ≡ Some (body.Contexts (c ∷ cs))
unfolding rows_in context_element
contexts_are c cs sound =
    let all = c ∷ cs in
    let es = map context_element all in
    let found = each_is context_in context_element all (all_are is_context
    (λ c. context_in (context_element c) ≡ Some c) context_is all sound) in
    rows (context_element c) (map context_element cs) refl refl
    ∙ ap (λ r. option_or (r >>= λ cs. Some (body.Contexts cs)) (option_or (properties_in es) (breakpoints_in es))) found

properties_are : (p : Property) (ps : List Property)
    → AllByRecursion (λ p. property_in (property_element p) ≡ Some p) (p ∷ ps)
    → list_in (map property_element (p ∷ ps)) ≡ Some (body.Properties (p ∷ ps))
unfolding rows_in property_element around
properties_are p ps is =
    let all = p ∷ ps in
    let es = map property_element all in
    let found = each_is property_in property_element all is in
    rows (property_element p) (map property_element ps) refl refl
    ∙ ap (λ contexts. option_or contexts (option_or (properties_in es) (breakpoints_in es)))
    (no_contexts (property_element p) (map property_element ps) refl)
    ∙ ap (λ r. option_or (r >>= λ ps. Some (body.Properties ps)) (breakpoints_in es)) found

breakpoints_are : (b : BreakLine) (bs : List BreakLine) → list_all is_break_line (b ∷ bs) ≡ true
    → list_in (map breakpoint_element (b ∷ bs)) ≡ Some (body.Breakpoints (b ∷ bs))
unfolding rows_in breakpoint_element
breakpoints_are b bs sound =
    let all = b ∷ bs in
    let es = map breakpoint_element all in
    let found = each_is breakpoint_in breakpoint_element all (all_are is_break_line
    (λ b. breakpoint_in (breakpoint_element b) ≡ Some b) breakpoint_is all sound) in
    rows (breakpoint_element b) (map breakpoint_element bs) refl refl
    ∙ ap (λ contexts. option_or contexts (option_or (properties_in es) (breakpoints_in es)))
    (no_contexts (breakpoint_element b) (map breakpoint_element bs) refl)
    ∙ ap (λ properties. option_or properties (breakpoints_in es)) (no_properties (breakpoint_element b)
    (map breakpoint_element bs) refl)
    ∙ ap (λ r. r >>= λ bs. Some (body.Breakpoints bs)) found

-- ---- an error

error_element : ℕ → Element
error_element code = element (codes "error") ((codes "code", decimal code) ∷ []) (message_node (message_of code) ∷ [])

fault_is : (code : ℕ) → nat_le code most_16 ≡ true → list_in (error_element code ∷ []) ≡ Some (body.Fault code)
unfolding list_in error_element
fault_is code sound =
    let es = error_element code ∷ [] in
    ap (λ n. option_or (n >>= λ code. Some (body.Fault code)) (option_or (stacks_in es) (rows_in es)))
    (number_is most_16 code sound (omega arith))

-- ---- bodies

property_own : (p : Property) → is_foreign (property_element p).name ≡ false
unfolding property_element around
property_own p = refl

-- elements, and no text
listed : {A : Type 0} (f : A → Element) (a : A) (all : List A) (b : Body)
    → elements (map (λ a. node.Child (f a)) (a ∷ all)) ≡ map f (a ∷ all)
    → words (map (λ a. node.Child (f a)) (a ∷ all)) ≡ []
    → list_in (map f (a ∷ all)) ≡ Some b
    → body_of (elements (map (λ a. node.Child (f a)) (a ∷ all)))
    (words (map (λ a. node.Child (f a)) (a ∷ all))) ≡ Some b
unfolding body_of
listed f a all b es ws is = (λ i. body_of (es i) (ws i)) ∙ is

pub body_is : (b : Body) → is_body b ≡ true → AreNodes (IsReadable 63) false (body_nodes b)
    → body_of (elements (body_nodes b)) (words (body_nodes b)) ≡ Some (norm_body b)
unfolding body_of error_element stack_element context_element breakpoint_element limit
body_is body.Nothing sound readable = refl
body_is (body.Plain []) sound readable = refl
body_is (body.Plain (b ∷ text)) sound readable = λ i. body_of (elements_text (b ∷ text) i) (words_text (b ∷ text) i)
body_is (body.Fault code) sound readable =
    listed error_element code [] (body.Fault code) (elements_all error_element (λ _. refl) (code ∷ []))
    (words_none error_element (λ _. refl) (code ∷ [])) (fault_is code sound)
body_is (body.Stacks []) sound readable = refl
body_is (body.Stacks (line ∷ lines)) sound readable =
    let all = line ∷ lines in
    listed stack_element line lines (body.Stacks all) (elements_all stack_element (λ _. refl) all)
    (words_none stack_element (λ _. refl) all) (stacks_are line lines sound)
body_is (body.Contexts []) sound readable = refl
body_is (body.Contexts (c ∷ cs)) sound readable =
    let all = c ∷ cs in
    listed context_element c cs (body.Contexts all) (elements_all context_element (λ _. refl) all)
    (words_none context_element (λ _. refl) all) (contexts_are c cs sound)
body_is (body.Properties []) sound readable = refl
body_is (body.Properties (p ∷ ps)) sound readable =
    let all = p ∷ ps in
    let is = nested_are 63 property_in (property_again 63) false all sound readable in
    ap (λ nodes. body_of (elements nodes) (words nodes)) (nodes_are all)
    ∙ listed property_element p ps (body.Properties all) (elements_all property_element property_own all)
    (words_none property_element property_own all) (properties_are p ps is)
body_is (body.Breakpoints []) sound readable = refl
body_is (body.Breakpoints (b ∷ bs)) sound readable =
    let all = b ∷ bs in
    listed breakpoint_element b bs (body.Breakpoints all) (elements_all breakpoint_element (λ _. refl) all)
    (words_none breakpoint_element (λ _. refl) all) (breakpoints_are b bs sound)
