use Rattle.std.proofs.Common.{◌&&◌, Bool, not, sym, ap, ◌∙◌}
use Rattle.std.specs.List.{list_all}
use Rattle.std.specs.Option.{option_copied}
use Rattle.dp_analysis.specs.Still.{calls_of, is_still, place_is_still}
use Rattle.dp_analysis.specs.inner.Parts.{item_is_still, link_is_still}
use Rattle.dp_analysis.proofs.TreeStill.{array_is, call_is, chain_is, index_is, isset_is, place_is}
use Rattle.dp_analysis.proofs.still.+still.Goals as goal

pub is_still-returns-in-Array : goal.is_still-returns-in-Array
is_still-returns-in-Array t c =
    let loud = calls_of (option_copied c.args.loud) in
    c.items_are_still.ensures ∙ ap (list_all (item_is_still loud)) c.as_slice.ensures
    ∙ sym (array_is loud c.in-Array.items) ∙ ap (is_still loud) (sym c.in-Array.is)

pub is_still-returns-then-not-is_loud_call : goal.is_still-returns-then-not-is_loud_call
is_still-returns-then-not-is_loud_call t c =
    let loud = calls_of (option_copied c.args.loud) in
    c.all_still.ensures ∙ ap (list_all (is_still loud)) c.as_slice-then-not-is_loud_call.ensures
    ∙ ap (λ (b : Bool). not b && list_all (is_still loud) c.in-Call.arguments)
    (sym c.if-not-is_loud_call.true ∙ c.is_loud_call.ensures)
    ∙ sym (call_is loud c.in-Call.name c.in-Call.arguments) ∙ ap (is_still loud) (sym c.in-Call.is)

pub is_still-returns-in-Isset : goal.is_still-returns-in-Isset
is_still-returns-in-Isset t c =
    let loud = calls_of (option_copied c.args.loud) in
    c.places_are_still.ensures ∙ ap (list_all (place_is_still loud)) c.as_slice-in-Isset.ensures
    ∙ sym (isset_is loud c.in-Isset.places) ∙ ap (is_still loud) (sym c.in-Isset.is)

pub is_still-returns-then-is_still : goal.is_still-returns-then-is_still
is_still-returns-then-is_still t c =
    let loud = calls_of (option_copied c.args.loud) in
    c.all_still-then-is_still.ensures ∙ ap (list_all (is_still loud)) c.as_slice-then-is_still.ensures
    ∙ ap (λ (b : Bool). b && list_all (is_still loud) c.in-Index.indices)
    (sym c.if-is_still.true ∙ c.is_still.ensures ∙ ap (is_still loud) c.as_ref.ensures)
    ∙ sym (index_is loud c.in-Index.base c.in-Index.indices) ∙ ap (is_still loud) (sym c.in-Index.is)

pub is_still-returns-then-is_still-2 : goal.is_still-returns-then-is_still-2
is_still-returns-then-is_still-2 t c =
    let loud = calls_of (option_copied c.args.loud) in
    c.links_are_still.ensures ∙ ap (list_all (link_is_still loud)) c.as_slice-then-is_still-2.ensures
    ∙ ap (λ (b : Bool). b && list_all (link_is_still loud) c.in-Chain.links)
    (sym c.if-is_still-2.true ∙ c.is_still-in-Chain.ensures ∙ ap (is_still loud) c.as_ref-in-Chain.ensures)
    ∙ sym (chain_is loud c.in-Chain.first c.in-Chain.links) ∙ ap (is_still loud) (sym c.in-Chain.is)

pub place_is_still-returns : goal.place_is_still-returns
place_is_still-returns t c =
    let loud = calls_of (option_copied c.args.loud) in
    c.all_still.ensures ∙ ap (list_all (is_still loud)) c.as_slice.ensures ∙ sym (place_is loud c.args.place.now)
