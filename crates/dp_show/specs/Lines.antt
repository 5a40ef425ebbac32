-- The lines that packets are shown as.
use Rattle.std.specs.Prelude.{List, [], ◌∷◌, ◌++◌, ℕ, codes, flat_map}
use Rattle.dp_markup.specs.declared.tree.Element.{Element}
use Rattle.dp_markup.specs.Grammar.{IsMarkup}
use Rattle.dp_markup.specs.Texts.{written}

-- an element's line: its canonical text and a line feed
abbrev pub line_of : Element → List ℕ
line_of e = written e ++ codes "\n"

abbrev pub lines_of : List Element → List ℕ
lines_of elements = flat_map line_of elements

-- each text is a markup of the element in its place, within 64 levels
abbrev pub AreMarkup : List (List ℕ) → List Element → Type 0
AreMarkup [] [] = Unit {0}
AreMarkup [] (e ∷ elements) = ⊥
AreMarkup (text ∷ texts) [] = ⊥
AreMarkup (text ∷ texts) (e ∷ elements) = IsMarkup text e × AreMarkup texts elements

-- the text is a markup of no element within 64 levels
abbrev pub IsNoMarkup : List ℕ → Type 0
IsNoMarkup text = (e : Element) → IsMarkup text e → ⊥
