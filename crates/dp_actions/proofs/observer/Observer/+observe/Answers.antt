-- What an expression that changes nothing answers is what its parts give, one after another.
use Rattle.std.proofs.Common.{rules, ◌+◌, drop, map, refl, sym, ◌∙◌, arith}
use Rattle.std.proofs.Math.ListN.{drop_of_length-le}
use Rattle.std.proofs.lemmas.Int.{to_z-of_z}
use mir.Syntax.{w64}
use mir.Val.{SFits}
use Rattle.dp_tree.specs.declared.tree.Expression.TheViews.{the_lemmas as depths}
use Rattle.dp_actions.specs.Expressions.{place_run}
use Rattle.dp_actions.proofs.AtOnceLaws.{breaks_off, exits, first_done, gives, goes_on}
use Rattle.dp_actions.proofs.Layers.{found-plain, run-Array, run-Bool, run-Chain, run-Coalesce, run-Conditional, run-Constant, run-Index, run-Isset, run-item-None, run-item-Some, run-link, run-Null, run-Number, run-place, run-Text, run-Unary, run-Variable}
use Rattle.dp_actions.proofs.MissingPlaces.{place_off, place_on, place_to}
use Rattle.dp_actions.proofs.ObservedValues.{front, joined_done, joined_off, then_on, values-all, values-break, values-first, values-more}
use Rattle.dp_actions.proofs.PureParts.{of-Array, of-Chain, of-Index, of-Isset, of-place}
use Rattle.dp_actions.proofs.Tails.{kept-none, kept-some, present-none, present-some}
use Rattle.dp_actions.proofs.observer.Observer.+observe.Goals as goal

pub expression-returns-in-Null : goal.expression-returns-in-Null
expression-returns-in-Null t c = λ setting. rw (c.in-Null.is, run-Null) gives

pub expression-returns-in-Bool : goal.expression-returns-in-Bool
expression-returns-in-Bool t c = λ setting. rw (c.in-Bool.is, run-Bool) gives

pub expression-returns-in-Number : goal.expression-returns-in-Number
expression-returns-in-Number t c =
    λ setting. let fits : SFits w64 c.in-Number.n = search rules in rw (
      c.in-Number.is,
      run-Number,
      to_z-of_z w64 c.in-Number.n fits,
    ) gives

pub expression-returns-in-Text : goal.expression-returns-in-Text
expression-returns-in-Text t c = λ setting. rw (c.in-Text.is, run-Text) (c.text_value.ensures _)

pub expression-returns-in-Variable : goal.expression-returns-in-Variable
expression-returns-in-Variable t c = λ setting. rw (c.in-Variable.is, run-Variable) c.variable_value.ensures

pub expression-returns-in-Constant : goal.expression-returns-in-Constant
expression-returns-in-Constant t c = λ setting. rw (c.in-Constant.is, run-Constant) c.constant_value.ensures.run

pub expression-returns-in-Array : goal.expression-returns-in-Array
expression-returns-in-Array t c =
    λ setting. rw (c.in-Array.is, run-Array) (rw c.as_slice.ensures at (c.array.ensures setting))

pub expression-returns-in-Isset : goal.expression-returns-in-Isset
expression-returns-in-Isset t c =
    λ setting. rw (c.in-Isset.is, run-Isset) (rw c.as_slice-in-Isset.ensures at (c.isset.ensures setting))

pub expression-returns-in-Index : goal.expression-returns-in-Index
expression-returns-in-Index t c =
    λ setting. rw (c.in-Index.is, run-Index)
    (rw (c.as_ref.ensures, c.as_slice-in-Index.ensures) at (c.index.ensures setting))

pub expression-returns-in-Unary : goal.expression-returns-in-Unary
expression-returns-in-Unary t c =
    λ setting. rw (c.in-Unary.is, run-Unary)
    (then_on (rw c.as_ref-in-Unary.ensures at (c.expression.ensures setting)) c.then_unary.ensures)

pub expression-returns-in-Chain : goal.expression-returns-in-Chain
expression-returns-in-Chain t c =
    λ setting. rw (c.in-Chain.is, run-Chain)
    (rw (c.as_ref-in-Chain.ensures, c.as_slice-in-Chain.ensures) at (c.chain.ensures setting))

pub expression-returns-in-Coalesce : goal.expression-returns-in-Coalesce
expression-returns-in-Coalesce t c =
    λ setting. rw (c.in-Coalesce.is, run-Coalesce)
    (rw (c.as_ref-in-Coalesce.ensures, c.as_ref-in-Coalesce-2.ensures) at (c.coalesce.ensures setting))

pub expression-returns-in-Conditional : goal.expression-returns-in-Conditional
expression-returns-in-Conditional t c =
    λ setting. rw (c.in-Conditional.is, run-Conditional)
    (rw (c.as_ref-in-Conditional.ensures, c.as_ref-in-Conditional-2.ensures) at (c.conditional.ensures setting))

pub expression-array-requires : goal.expression-array-requires
expression-array-requires t c =
    (grind (arith, depths), rw c.as_slice.ensures (of-Array c.args.e.now c.requires _ c.in-Array.is))

pub expression-isset-requires : goal.expression-isset-requires
expression-isset-requires t c =
    (grind (arith, depths), rw c.as_slice-in-Isset.ensures (of-Isset c.args.e.now c.requires _ c.in-Isset.is))

pub expression-index-requires : goal.expression-index-requires
expression-index-requires t c =
    let pure = of-Index c.args.e.now c.requires _ _ c.in-Index.is in
    (grind (arith, depths), (rw c.as_ref.ensures pure.0, rw c.as_slice-in-Index.ensures pure.1))

pub expression-chain-requires : goal.expression-chain-requires
expression-chain-requires t c =
    let pure = of-Chain c.args.e.now c.requires _ _ c.in-Chain.is in
    (grind (arith, depths), (rw c.as_ref-in-Chain.ensures pure.0, rw c.as_slice-in-Chain.ensures pure.1))

pub found-index-requires : goal.found-index-requires
found-index-requires t c =
    let pure = of-Index c.args.e.now c.requires _ _ c.in-Index.is in
    (grind (arith, depths), (rw c.as_ref.ensures pure.0, rw c.as_slice.ensures pure.1))

pub found-returns-in-Index : goal.found-returns-in-Index
found-returns-in-Index t c =
    λ setting. rw (c.in-Index.is, run-Index)
    (rw (c.as_ref.ensures, c.as_slice.ensures) at (c.index.ensures setting))

pub found-returns-in_default : goal.found-returns-in_default
found-returns-in_default t c =
    λ setting. rw (found-plain c.args.e.now c.in_default.not-Index) (c.expression.ensures setting)

pub values-loop-e-init : goal.values-loop-e-init
values-loop-e-init t c = λ setting. rw c.new-values.ensures.items (values-first setting c.args.self.now.state.now _)

pub values-returns-in_err-expression : goal.values-returns-in_err-expression
values-returns-in_err-expression t c =
    λ setting. exits _ _ c.from_residual.ensures.1 (rw (
      c.loop-e.invariant setting,
      front _ c.loop-e.e-index c.e-item.result c.loop-e-test.true c.e-item.is,
    ) (values-break setting _ _ _ _ _ (c.in_err-expression.ensures setting)))

pub values-loop-e-preserved : goal.values-loop-e-preserved
values-loop-e-preserved t c =
    λ setting. rw (
      c.loop-e.invariant setting,
      front _ c.loop-e.e-index c.e-item.result c.loop-e-test.true c.e-item.is,
      c.in_ok-push.ensures.items,
    ) (values-more setting _ _ _ _ _ (c.in_ok-expression.ensures setting))

pub values-returns : goal.values-returns
values-returns t c =
    λ setting. rw (
      c.loop-e.invariant setting,
      drop_of_length-le c.args.all.now c.loop-e-test.false,
      c.of.ensures,
    ) (values-all setting _ _)

pub index-returns-in_err-value : goal.index-returns-in_err-value
index-returns-in_err-value t c =
    λ setting. exits _ _ c.from_residual.ensures.1 (breaks_off _ (c.in_err-value.ensures setting))

pub index-returns : goal.index-returns
index-returns t c = λ setting. goes_on _ (c.in_ok-value.ensures setting) (c.under.ensures setting)

pub base-returns-in-Plain : goal.base-returns-in-Plain
base-returns-in-Plain t c = λ setting. rw c.in-Plain.is (c.expression.ensures setting)

pub base-returns-in-Found : goal.base-returns-in-Found
base-returns-in-Found t c = λ setting. rw c.in-Found.is (c.found.ensures setting)

pub under-loop-e-init : goal.under-loop-e-init
under-loop-e-init t c = λ setting. refl

pub under-returns-in_err-value : goal.under-returns-in_err-value
under-returns-in_err-value t c =
    λ setting. exits _ _ c.from_residual.ensures.1 (rw (
      c.loop-e.invariant setting,
      front _ c.loop-e.e-index c.e-item.result c.loop-e-test.true c.e-item.is,
    ) (joined_off _ _ _ (then_on (c.expression-at.ensures setting) c.in_err-value.ensures)))

pub under-loop-e-preserved : goal.under-loop-e-preserved
under-loop-e-preserved t c =
    λ setting. rw (
      c.loop-e.invariant setting,
      front _ c.loop-e.e-index c.e-item.result c.loop-e-test.true c.e-item.is,
    ) (joined_done _ _ _ (then_on (c.expression-at.ensures setting) c.in_ok-value.ensures))

pub under-returns : goal.under-returns
under-returns t c =
    λ setting. rw (
      c.loop-e.invariant setting,
      drop_of_length-le c.args.indices.now c.loop-e-test.false,
    ) gives

pub isset-returns-in_err-missing : goal.isset-returns-in_err-missing
isset-returns-in_err-missing t c =
    λ setting. exits _ _ c.from_residual.ensures.1 (rw (
      c.loop-place.invariant setting,
      front _ c.loop-place.place-index c.place-item.result c.loop-place-test.true c.place-item.is,
    ) (place_off (place_run c.place-item.result) (map place_run
    (drop (c.loop-place.place-index + 1) c.args.places.now)) setting (c.in_err-missing.ensures setting)))

pub isset-returns-then-missing : goal.isset-returns-then-missing
isset-returns-then-missing t c =
    λ setting. rw (
      c.loop-place.invariant setting,
      front _ c.loop-place.place-index c.place-item.result c.loop-place-test.true c.place-item.is,
    ) (place_on (place_run c.place-item.result) (map place_run
    (drop (c.loop-place.place-index + 1) c.args.places.now)) setting (c.in_ok-missing.ensures setting)
    (rw c.if-missing.true gives))

pub isset-loop-place-preserved : goal.isset-loop-place-preserved
isset-loop-place-preserved t c =
    λ setting. rw (
      c.loop-place.invariant setting,
      front _ c.loop-place.place-index c.place-item.result c.loop-place-test.true c.place-item.is,
    ) (place_to (place_run c.place-item.result) (map place_run
    (drop (c.loop-place.place-index + 1) c.args.places.now)) setting (c.in_ok-missing.ensures setting)
    (rw c.if-missing.false refl))

pub isset-returns : goal.isset-returns
isset-returns t c =
    λ setting. rw (
      c.loop-place.invariant setting,
      drop_of_length-le c.args.places.now c.loop-place-test.false,
    ) gives

pub missing_at-values-requires : goal.missing_at-values-requires
missing_at-values-requires t c = (grind (arith, depths), rw c.as_slice.ensures (of-place c.args.place.now c.requires))

pub missing_at-returns : goal.missing_at-returns
missing_at-returns t c =
    λ setting. rw run-place (then_on (rw c.as_slice.ensures at (c.values.ensures setting)) c.then_missing.ensures)

pub chain-returns-in_err-value : goal.chain-returns-in_err-value
chain-returns-in_err-value t c =
    λ setting. exits _ _ c.from_residual.ensures.1 (breaks_off _ (c.in_err-value.ensures setting))

pub chain-returns : goal.chain-returns
chain-returns t c = λ setting. goes_on _ (c.in_ok-value.ensures setting) (c.links.ensures setting)

pub links-returns-in_err-value : goal.links-returns-in_err-value
links-returns-in_err-value t c =
    λ setting. exits _ _ c.from_residual.ensures.1 (rw (
      c.loop-link.invariant setting,
      front _ c.loop-link.link-index c.link-item.result c.loop-link-test.true c.link-item.is,
    ) (breaks_off _ (c.in_err-value.ensures setting)))

pub links-loop-link-preserved : goal.links-loop-link-preserved
links-loop-link-preserved t c =
    λ setting. rw (
      c.loop-link.invariant setting,
      front _ c.loop-link.link-index c.link-item.result c.loop-link-test.true c.link-item.is,
    ) (first_done _ (c.in_ok-value.ensures setting))

pub links-returns : goal.links-returns
links-returns t c =
    λ setting. rw (
      c.loop-link.invariant setting,
      drop_of_length-le c.args.links.now c.loop-link-test.false,
    ) gives

pub link-returns-then-holds : goal.link-returns-then-holds
link-returns-then-holds t c =
    λ setting. rw (run-link, c.in-Or.is, sym c.holds.ensures ∙ c.if-holds.true) gives

pub link-returns-else-holds : goal.link-returns-else-holds
link-returns-else-holds t c =
    λ setting. rw (run-link, c.in-Or.is, sym c.holds.ensures ∙ c.if-holds.false)
    (then_on (c.expression.ensures setting) (c.then_truth.ensures _))

pub link-returns-then-not-holds : goal.link-returns-then-not-holds
link-returns-then-not-holds t c =
    λ setting. rw (
      run-link,
      c.in-And.is,
      sym c.holds-in-And.ensures ∙ c.if-not-holds.true,
    ) gives

pub link-returns-else-not-holds : goal.link-returns-else-not-holds
link-returns-else-not-holds t c =
    λ setting. rw (run-link, c.in-And.is, sym c.holds-in-And.ensures ∙ c.if-not-holds.false)
    (then_on (c.expression-in-And.ensures setting) (c.then_truth-in-And.ensures _))

pub link-returns-in-Of : goal.link-returns-in-Of
link-returns-in-Of t c =
    λ setting. rw (run-link, c.in-Of.is) (then_on (c.expression-in-Of.ensures setting) c.then_binary.ensures)

pub coalesce-returns-in_err-value : goal.coalesce-returns-in_err-value
coalesce-returns-in_err-value t c =
    λ setting. exits _ _ c.from_residual.ensures.1 (breaks_off _ (c.in_err-value.ensures setting))

pub coalesce-returns-in-Some : goal.coalesce-returns-in-Some
coalesce-returns-in-Some t c =
    λ setting. let k = present-some _ _ (sym c.present.ensures ∙ c.in-Some.is) in
    goes_on _ (c.in_ok-value.ensures setting) (rw (k.0, k.1) gives)

pub coalesce-returns-in-None : goal.coalesce-returns-in-None
coalesce-returns-in-None t c =
    λ setting. goes_on _ (c.in_ok-value.ensures setting)
    (rw (present-none _ (sym c.present.ensures ∙ c.in-None.is)) (c.expression.ensures setting))

pub conditional-returns-in_err-value : goal.conditional-returns-in_err-value
conditional-returns-in_err-value t c =
    λ setting. exits _ _ c.from_residual.ensures.1 (breaks_off _ (c.in_err-value.ensures setting))

pub conditional-returns-in-Some : goal.conditional-returns-in-Some
conditional-returns-in-Some t c =
    λ setting. let k = kept-some c.in_ok-value.value _ (sym c.kept.ensures ∙ c.in-Some.is) in
    goes_on _ (c.in_ok-value.ensures setting) (rw (k.0, k.1) (c.chosen.ensures setting))

pub conditional-returns-in-None : goal.conditional-returns-in-None
conditional-returns-in-None t c =
    λ setting. goes_on _ (c.in_ok-value.ensures setting)
    (rw (kept-none c.in_ok-value.value (sym c.kept.ensures ∙ c.in-None.is)) (c.expression-in-None.ensures setting))

pub chosen-returns-in-None : goal.chosen-returns-in-None
chosen-returns-in-None t c = λ setting. rw c.in-None.is gives

pub chosen-returns-in-Some : goal.chosen-returns-in-Some
chosen-returns-in-Some t c = λ setting. rw c.in-Some.is (rw c.as_ref.ensures at (c.expression.ensures setting))

pub array-returns-in_err-array : goal.array-returns-in_err-array
array-returns-in_err-array t c =
    λ setting. exits _ _ c.from_residual.ensures.1 (rw (
      c.loop-item.invariant setting,
      front _ c.loop-item.item-index c.item-item.result c.loop-item-test.true c.item-item.is,
    ) (breaks_off _ (c.in_err-array.ensures setting)))

pub array-loop-item-preserved : goal.array-loop-item-preserved
array-loop-item-preserved t c =
    λ setting. rw (
      c.loop-item.invariant setting,
      front _ c.loop-item.item-index c.item-item.result c.loop-item-test.true c.item-item.is,
    ) (first_done _ (c.in_ok-array.ensures setting))

pub array-returns : goal.array-returns
array-returns t c =
    λ setting. rw (
      c.loop-item.invariant setting,
      drop_of_length-le c.args.items.now c.loop-item-test.false,
    ) gives

pub item-returns-in-None : goal.item-returns-in-None
item-returns-in-None t c =
    λ setting. rw (run-item-None c.args.item.now c.in-None.is)
    (then_on (c.expression.ensures setting) c.then_pushed.ensures)

pub item-returns-in-Some : goal.item-returns-in-Some
item-returns-in-Some t c =
    λ setting. rw (run-item-Some c.args.item.now _ c.in-Some.is) (c.keyed.ensures setting)

pub keyed-returns-in-Ok : goal.keyed-returns-in-Ok
keyed-returns-in-Ok t c =
    λ setting. goes_on _ (rw c.in-Ok.is at (c.expression.ensures setting))
    (then_on (c.expression-in-Ok.ensures setting) c.then_put-answer.ensures)

pub keyed-returns-in-Err : goal.keyed-returns-in-Err
keyed-returns-in-Err t c = λ setting. breaks_off _ (rw c.in-Err.is at (c.expression.ensures setting))
