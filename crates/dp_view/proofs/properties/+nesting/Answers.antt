use Rattle.std.proofs.Common.{◌≡◌, ◌-◌, List, IfOk, subst, sym, ap, ◌∙◌}
use Rattle.dp_packet.specs.declared.property.Property.{Property}
use Rattle.dp_value.specs.declared.value.Value.{Value}
use Rattle.dp_value.specs.Value.{data_of}
use Rattle.dp_view.specs.Properties.{nested, shape_of}
use Rattle.dp_view.specs.inner.Keyed.{AreKeyed, HoldsWithin, IsKeyed, pairs_in}
use Rattle.dp_view.specs.inner.Additions.{property_in}
use Rattle.dp_view.proofs.DistinctKeys.{array_keyed, bare_keyed, on_ok, on_page, within_less, within_more}
use Rattle.dp_view.proofs.Levels.{array_shape, nested_page}
use Rattle.dp_view.proofs.Steps.{front_all, front_step}
use Rattle.dp_view.proofs.properties.+nesting.Goals as goal

pub entries-loop-at-preserved : goal.entries-loop-at-preserved
entries-loop-at-preserved t c = record {
  made =
      front_step (property_in c.args.p.now c.args.levels c.args.full.now) c.args.array.now.pairs c.loop-at.made.items
      c.put_entry.new.made.items _ c.loop-at.at c.args.end
      c.loop-at-test.true c.loop-at.invariant.made c.in_ok-put_entry.ensures.made;
  keyed =
      within_more (IsKeyed c.args.p.now.children 0 c.args.levels) c.args.array.now.pairs c.args.start c.loop-at.at
      c.loop-at.invariant.keyed c.in_ok-put_entry.ensures.keyed;
}

pub entries-returns-clause-made : goal.entries-returns-clause-made
entries-returns-clause-made t c =
    front_all (property_in c.args.p.now c.args.levels c.args.full.now) c.args.array.now.pairs c.loop-at.made.items _
    c.loop-at.at c.args.end
    c.loop-at-test.false c.loop-at.invariant.made

pub entries-returns-clause-keyed : goal.entries-returns-clause-keyed
entries-returns-clause-keyed t c =
    within_less (IsKeyed c.args.p.now.children 0 c.args.levels) c.args.array.now.pairs c.args.start c.args.end
    c.loop-at.at c.loop-at-test.false c.loop-at.invariant.keyed

pub nested-returns-clause-made : goal.nested-returns-clause-made
nested-returns-clause-made t c =
    subst (λ (list : List Property). IfOk c.entries.result (λ made. made.items ≡ list))
    (nested_page c.args.p.now c.args.page c.args.levels c.args.full.now c.args.array.now.pairs c.page_start-start.result
    c.page_end-end.result
    c.if-levels-eq0.false c.page_start-start.ensures c.page_end-end.ensures)
    c.entries.ensures.made

pub nested-returns-clause-keyed : goal.nested-returns-clause-keyed
nested-returns-clause-keyed t c =
    let size = c.args.p.now.children in
    let pairs = c.args.array.now.pairs in
    on_ok (HoldsWithin (IsKeyed size 0 (c.args.levels - 1)) pairs c.page_start-start.result c.page_end-end.result)
    (AreKeyed size c.args.page c.args.levels pairs)
    (λ all. on_page size c.args.page c.args.levels pairs c.page_start-start.result c.page_end-end.result
    c.if-levels-eq0.false c.page_start-start.ensures c.page_end-end.ensures all)
    c.entries.result c.entries.ensures.keyed

pub shape-returns-in_ok-nested-in-Array-clause-made : goal.shape-returns-in_ok-nested-in-Array-clause-made
shape-returns-in_ok-nested-in-Array-clause-made t c =
    array_shape c.args.p.now c.args.page c.args.levels c.args.full.now c.in-Array.array c.len-in-Array.result
    c.of.result
    c.len-in-Array.ensures.len (c.of.ensures ∙ c.in_ok-nested-in-Array.ensures.made)
    ∙ ap (λ (v : Value). shape_of c.args.p.now c.args.page (nested c.args.p.now c.args.levels c.args.full.now)
    (data_of v)) (sym c.in-Array.is)

pub shape-returns-in_ok-nested-in-Array-clause-keyed : goal.shape-returns-in_ok-nested-in-Array-clause-keyed
shape-returns-in_ok-nested-in-Array-clause-keyed t c =
    subst (λ (v : Value). IsKeyed c.args.p.now.children c.args.page c.args.levels (data_of v)) (sym c.in-Array.is)
    (array_keyed c.args.p.now.children c.args.page c.args.levels c.in-Array.array c.len-in-Array.ensures.table
    c.in_ok-nested-in-Array.ensures.keyed)

pub shape-returns-in-Null-clause-keyed : goal.shape-returns-in-Null-clause-keyed
shape-returns-in-Null-clause-keyed t c =
    bare_keyed c.args.p.now.children c.args.page c.args.levels (data_of c.args.value.now)
    (ap (λ (v : Value). pairs_in (data_of v)) c.in-Null.is)

pub shape-returns-in-Bool-clause-keyed : goal.shape-returns-in-Bool-clause-keyed
shape-returns-in-Bool-clause-keyed t c =
    bare_keyed c.args.p.now.children c.args.page c.args.levels (data_of c.args.value.now)
    (ap (λ (v : Value). pairs_in (data_of v)) c.in-Bool.is)

pub shape-returns-in-Int-clause-keyed : goal.shape-returns-in-Int-clause-keyed
shape-returns-in-Int-clause-keyed t c =
    bare_keyed c.args.p.now.children c.args.page c.args.levels (data_of c.args.value.now)
    (ap (λ (v : Value). pairs_in (data_of v)) c.in-Int.is)

pub shape-returns-in_ok-front-in-Text-clause-keyed : goal.shape-returns-in_ok-front-in-Text-clause-keyed
shape-returns-in_ok-front-in-Text-clause-keyed t c =
    bare_keyed c.args.p.now.children c.args.page c.args.levels (data_of c.args.value.now)
    (ap (λ (v : Value). pairs_in (data_of v)) c.in-Text.is)
