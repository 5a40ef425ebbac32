-- What a change leaves of the breakpoints that are held.
use Rattle.std.proofs.Common.{◌≡◌, ℕ, ◌==◌, Bool, true, false, cond, ◌&&◌, List, [], ◌∷◌, length, map, Option, Some, None, refl, sym, ap, subst, ◌∙◌, arith}
use Rattle.std.specs.Prelude.{All, is_some, Err, Ok}
use Rattle.std.proofs.lemmas.List.{length-map}
use Rattle.std.proofs.lemmas.List.Elements.{All-cons, All-head, All-nil, All-tail}
use Rattle.dp_tree.specs.declared.bundle.Bundle.{Bundle}
use Rattle.dp_packet.specs.declared.error_codes.ErrorCode.TheVariants.{InvalidOptions}
use Rattle.dp_packet.specs.declared.packet.BreakKind.{BreakKind}
use Rattle.dp_packet.specs.declared.packet.BreakKind.TheVariants.{Line, Call, Return, Conditional}
use Rattle.dp_break.specs.declared.breakpoint.BreakChange.{BreakChange}
use Rattle.dp_break.specs.declared.breakpoint.Breakpoint.{Breakpoint}
use Rattle.dp_break.specs.Changes.{changed, changed_to, held_as, line_given_or, with_change}
use Rattle.dp_break.specs.Hits.{is_of_function}
use Rattle.dp_break.specs.Lines.{line_in, requested_line}
use Rattle.dp_break.specs.Refusals.{change_kept, update_kept}
use Rattle.dp_break.specs.Tables.{IsSound, IsTable, has_parts}
use Rattle.dp_break.proofs.Lookups.{same_changed, with_changed}
use Rattle.dp_break.proofs.TableLaws.{Ascend-map, table}

-- ---- soundness

parts_kept : (kind : BreakKind) (given line : Option ℕ) (function expression : Option (List ℕ))
    → (is_of_function kind && is_some given) ≡ false
    → has_parts kind line function expression ≡ true
    → has_parts kind (line_given_or given line) function expression ≡ true
parts_kept Line None line function expression free parts = parts
parts_kept Line (Some given) line function expression free parts = refl
parts_kept Call None line function expression free parts = parts
parts_kept Call (Some given) line function expression free parts = absurd cc
parts_kept Return None line function expression free parts = parts
parts_kept Return (Some given) line function expression free parts = absurd cc
parts_kept Conditional given line function expression free parts = parts

-- no line is kept of a change of a breakpoint on a function
none_kept : (resolve : Bool) (bundle : Bundle) (kind : BreakKind) (file asked : Option ℕ)
    → (is_of_function kind && is_some (line_in (cond (is_of_function kind && is_some asked) (Err InvalidOptions)
    (requested_line resolve bundle file asked)))) ≡ false
none_kept resolve bundle Line file asked = refl
none_kept resolve bundle Call None None = refl
none_kept resolve bundle Call (Some file) None = refl
none_kept resolve bundle Call file (Some asked) = refl
none_kept resolve bundle Return None None = refl
none_kept resolve bundle Return (Some file) None = refl
none_kept resolve bundle Return file (Some asked) = refl
none_kept resolve bundle Conditional file asked = refl

module _ (resolve : Bool) (bundle : Bundle) (id : ℕ) (c : BreakChange) where
  changed_sound : (b : Breakpoint) → IsSound b → IsSound (changed resolve bundle c b)
  changed_sound b s = record {
    parts =
        parts_kept b.kind (line_in (change_kept resolve bundle c b)) b.line b.function b.expression
        (none_kept resolve bundle b.kind b.file c.line) s.parts;
    placed = s.placed;
    named = s.named;
    tree = s.tree;
    formed = s.formed;
  }

  abbrev change_one : Breakpoint → Breakpoint
  change_one b = cond (b.id == id) (changed resolve bundle c b) b

  one_sound : (b : Breakpoint) → IsSound b → IsSound (change_one b)
  one_sound b s = by (b.id == id) where
    by : (t : Bool) → IsSound (cond t (changed resolve bundle c b) b)
    by true = changed_sound b s
    by false = s

  one_id : (b : Breakpoint) → (change_one b).id ≡ b.id
  one_id b = by (b.id == id) where
    by : (t : Bool) → (cond t (changed resolve bundle c b) b).id ≡ b.id
    by true = refl
    by false = refl

  all_sound : (held : List Breakpoint) → All IsSound held → All IsSound (map change_one held)
  all_sound [] s = All-nil IsSound
  all_sound (b ∷ held) s =
      All-cons IsSound (change_one b) (map change_one held) (one_sound b (All-head IsSound b held s))
      (all_sound held (All-tail IsSound b held s))

  -- ---- what is left

  pub record IsChanged (held : List Breakpoint) (next : ℕ) (items : List Breakpoint) : Type 0 where
    pub left : table items next ≡ with_change resolve bundle id c (table held next)
    pub sound : IsTable (table items next)
    pub long : length items ≡ length held

  pub are_changed : (held : List Breakpoint) (next : ℕ) (line : Option ℕ) (items : List Breakpoint)
      → IsTable (table held next) → update_kept resolve bundle c (held_as held id) ≡ Ok line
      → items ≡ with_changed id (changed_to c line resolve) held → IsChanged held next items
  are_changed held next line items t kept is = record {
    left = ap (λ l. table l next) are;
    sound = subst (λ l. IsTable (table l next)) (sym are) (record {
      few = let few = t.few in omega (arith, length-map held change_one);
      ascend = Ascend-map change_one one_id 1 held next t.ascend;
      last = t.last;
      sound = all_sound held t.sound;
    });
    long = ap length are ∙ length-map held change_one;
  } where
    same : (b : Breakpoint) → held_as held id ≡ Some b → changed_to c line resolve b ≡ changed resolve bundle c b
    same b found =
        ap (λ r. changed_to c (line_in r) resolve b)
        (sym kept ∙ ap (λ o. update_kept resolve bundle c o) found)

    are : items ≡ map change_one held
    are = is ∙ same_changed id (changed_to c line resolve) (changed resolve bundle c) 1 held next t.ascend same
