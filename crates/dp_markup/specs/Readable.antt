-- The elements that are read back as they were written.
use Rattle.std.specs.Prelude.{◌≡◌, ℕ, zero, suc, ◌<◌, Bool, true, false, List, [], ◌∷◌, ◌++◌}
use Rattle.dp_markup.specs.declared.tree.Element.{Element}
use Rattle.dp_markup.specs.declared.tree.Node.{Node}
use Rattle.dp_markup.specs.declared.tree.Node.TheOpen.{Node-F}
use Rattle.dp_markup.specs.declared.tree.Node.TheViews.{out-Node}
use Rattle.dp_markup.specs.Classes.{is_name}
use Rattle.dp_markup.specs.Grammar.{Text, Attributes, is_new}

-- as each byte string of a program is
abbrev pub AreBytes : Text → Type 0
AreBytes [] = Unit {0}
AreBytes (b ∷ bytes) = (b < 256) × AreBytes bytes

-- names, none of which stands twice, neither there nor among those found before
abbrev pub AreAttributes : Attributes → Attributes → Type 0
AreAttributes found [] = Unit {0}
AreAttributes found (a ∷ rest) =
    (is_name a.0 ≡ true) × (is_new found a.0 ≡ true) × AreBytes a.1
    × AreAttributes (found ++ a ∷ []) rest

-- a text that is not empty
abbrev pub IsText : Text → Type 0
IsText [] = ⊥
IsText (b ∷ bytes) = AreBytes (b ∷ bytes)

abbrev pub is_text : Node-F Node Element → Bool
is_text (Node-F.Text text) = true
is_text (Node-F.Child child) = false

-- no text stands directly behind a text
abbrev pub FitsBehind : (Element → Type 0) → Bool → Node-F Node Element → Type 0
FitsBehind inner behind_text (Node-F.Text text) = (behind_text ≡ false) × IsText text
FitsBehind inner behind_text (Node-F.Child child) = inner child

abbrev pub AreNodes : (Element → Type 0) → Bool → List Node → Type 0
AreNodes inner behind_text [] = Unit {0}
AreNodes inner behind_text (n ∷ nodes) =
    FitsBehind inner behind_text (out-Node n) × AreNodes inner (is_text (out-Node n)) nodes

-- an element with at most so many levels, with names, no attribute twice, no empty text and no two
-- texts side by side
abbrev pub IsReadable : ℕ → Element → Type 0
IsReadable zero e = ⊥
IsReadable (suc level) e =
    (is_name e.name ≡ true) × AreAttributes [] e.attributes
    × AreNodes (IsReadable level) false e.children
