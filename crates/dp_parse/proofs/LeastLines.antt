-- The least line of parts of a program.
use Rattle.std.proofs.Common.{◌≡◌, ℕ, suc, ◌+◌, ◌<◌, ◌≤◌, ◌&&◌, List, [], ◌∷◌, ◌++◌, length, get_or, drop, drop-cons, add-one, Option, Some, None, refl, sym, ap, ◌∙◌, arith, min}
use Rattle.std.specs.Prelude.{nat_le, filter}
use Rattle.std.specs.List.{flat_map}
use Rattle.std.proofs.Math.ListN.{drop_of_length-le}
use Rattle.std.proofs.lemmas.List.Elements.{filter-append}
use Rattle.dp_tree.specs.CodeLines.{Lines, LinesFrom, arm_layer, kind_layer, lines_of, statement_layer}
use Rattle.dp_tree.specs.declared.tree.Arm.{Arm}
use Rattle.dp_tree.specs.declared.tree.StatementKind.{StatementKind}
use Rattle.dp_tree.specs.declared.tree.StatementKind.TheFolds.{fold-roll-StatementKind, fold_out-Arm}
use Rattle.dp_tree.specs.declared.tree.StatementKind.TheOpen.{StatementKind-F}
use Rattle.dp_tree.specs.declared.tree.StatementKind.TheVariants as tree
use Rattle.dp_tree.specs.inner.Parts.{arm_lines, kind_lines}
use Rattle.dp_parse.specs.NextCode.{least, least_between, lesser}

min_three : (x y z : ℕ) → min (min x y) z ≡ min x (min y z)
min_three x y z = omega arith

pub lesser_joins : (a b c : Option ℕ) → lesser (lesser a b) c ≡ lesser a (lesser b c)
lesser_joins None b c = refl
lesser_joins (Some x) None c = refl
lesser_joins (Some x) (Some y) None = refl
lesser_joins (Some x) (Some y) (Some z) = ap (λ (n : ℕ). Some n) (min_three x y z)

pub lesser_none : (a : Option ℕ) → lesser a None ≡ a
lesser_none None = refl
lesser_none (Some x) = refl

least_both : (a b : Lines) → least (a ++ b) ≡ lesser (least a) (least b)
least_both [] b = refl
least_both (n ∷ a) b = ap (lesser (Some n)) (least_both a b) ∙ sym (lesser_joins (Some n) (least a) (least b))

pub between_both : (from to : ℕ) (a b : Lines)
    → least_between from to (a ++ b) ≡ lesser (least_between from to a) (least_between from to b)
unfolding least_between
between_both from to a b =
    ap least (filter-append (λ n. nat_le from n && nat_le n to) a b)
    ∙ least_both (filter (λ n. nat_le from n && nat_le n to) a) (filter (λ n. nat_le from n && nat_le n to) b)

-- the first line and the others
pub between_more : (from to line : ℕ) (lines : Lines)
    → least_between from to (line ∷ lines) ≡ lesser (least_between from to (line ∷ [])) (least_between from to lines)
between_more from to line lines = between_both from to (line ∷ []) lines

pub between_none : (from to : ℕ) → least_between from to [] ≡ None
unfolding least_between
between_none from to = refl

-- ---- the lines of parts

pub empty_lines : (kind : StatementKind) (first : ℕ) → kind ≡ tree.Empty → kind_lines kind first ≡ []
empty_lines kind first is =
    ap (λ k. kind_lines k first) (is ∙ sym tree.rolls-Empty)
    ∙ ap (λ lines. lines first) (fold-roll-StatementKind LinesFrom Lines Lines kind_layer arm_layer statement_layer
    StatementKind-F.Empty)

pub arm_parts : (arm : Arm) → arm_lines arm ≡ arm.line ∷ lines_of arm.body
arm_parts arm = fold_out-Arm LinesFrom Lines Lines kind_layer arm_layer statement_layer arm

-- ---- one part after another

front : {X : Type 0} (xs : List X) (i : ℕ) (x : X) → i < length xs → x ≡ get_or xs i x → drop i xs ≡ x ∷ drop (i + 1) xs
front xs i x within is = rw (add-one, drop-cons xs i x) (ap (λ y. y ∷ drop (suc i) xs) (sym is))

module _ {X : Type 0} (from to : ℕ) (f : X → Lines) (xs : List X) (i : ℕ) (next : Option ℕ) where
  abbrev least_of : List X → Option ℕ
  least_of part = least_between from to (flat_map f part)

  pub all_met : length xs ≤ i → least_of xs ≡ lesser next (least_of (drop i xs)) → next ≡ least_of xs
  all_met end so_far =
      sym (so_far
      ∙ ap (λ (l : List X). lesser next (least_of l)) (drop_of_length-le xs end)
      ∙ ap (lesser next) (between_none from to)
      ∙ lesser_none next)

  pub one_more : (x : X) (here now : Option ℕ) → i < length xs → x ≡ get_or xs i x
      → least_of xs ≡ lesser next (least_of (drop i xs))
      → here ≡ least_between from to (f x) → now ≡ lesser next here
      → least_of xs ≡ lesser now (least_of (drop (i + 1) xs))
  one_more x here now within is so_far met made =
      so_far
      ∙ ap (λ (l : List X). lesser next (least_of l)) (front xs i x within is)
      ∙ ap (lesser next) (between_both from to (f x) (flat_map f (drop (i + 1) xs)))
      ∙ sym (lesser_joins next (least_between from to (f x)) (least_of (drop (i + 1) xs)))
      ∙ ap (λ n. lesser n (least_of (drop (i + 1) xs))) (ap (lesser next) (sym met) ∙ sym made)
