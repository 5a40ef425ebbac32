use Rattle.std.proofs.Common.{◌≡◌, ◌∷◌, Option, Some, None, Result, Ok, Err, unwrap_or, ap, sym, ◌∙◌, arith, rules}
use Rattle.dp_value.specs.declared.errors.WriteError.{WriteError}
use Rattle.dp_value.specs.declared.errors.WriteError.TheVariants.{Scalar, Unsupported}
use Rattle.dp_value.specs.declared.key.Key.{Key}
use Rattle.dp_value.specs.declared.value.Value.{Value}
use Rattle.dp_value.specs.Data.{Data, Table, null}
use Rattle.dp_value.specs.Table.{value_at}
use Rattle.dp_value.specs.Value.{data_of}
use Rattle.dp_value.specs.Entry.{entry_at, holder_of, within}
use Rattle.dp_value.specs.inner.Writes.{cause_of}
use Rattle.dp_value.proofs.WriteLemmas.{cause-behind, holder_of-table, written-entered, written-refused, IsBehind}
use Rattle.dp_value.proofs.refusals.+refusing.Goals as goal

pub refusal-returns-in-Array : goal.refusal-returns-in-Array
refusal-returns-in-Array t c =
    λ new weighs.
    let is : holder_of (data_of c.args.value.now) ≡ Ok c.in-Array.array =
    ap (λ (v : Value). holder_of (data_of v)) c.in-Array.is ∙ holder_of-table c.in-Array.array in
    let same = written-entered c.is_empty.result c.args.keys.now c.args.push new (data_of c.args.value.now)
    c.in-Array.array (c.is_empty.ensures, c.else-is_empty.either) is in
    c.refusal_in.ensures new weighs
    ∙ ap (λ (r : Result Data WriteError). cause_of (within c.args.beside r)) (sym same)

pub refusal-returns-in-Text : goal.refusal-returns-in-Text
refusal-returns-in-Text t c =
    λ new weighs.
    let is : holder_of (data_of c.args.value.now) ≡ Err Unsupported =
    ap (λ (v : Value). holder_of (data_of v)) c.in-Text.is in
    sym (ap (λ (r : Result Data WriteError). cause_of (within c.args.beside r))
    (written-refused c.is_empty.result c.args.keys.now c.args.push new (data_of c.args.value.now) Unsupported
    (c.is_empty.ensures, c.else-is_empty.either) is))

-- the entry under a key that is not there
absent : (t : Table) (key : Key) → None ≡ value_at t key → entry_at t key ≡ null
absent t key lacks = ap (λ (o : Option Data). unwrap_or o null) (sym lacks)

present : (t : Table) (key : Key) (d : Data) → Some d ≡ value_at t key → entry_at t key ≡ d
present t key d has = ap (λ (o : Option Data). unwrap_or o null) (sym has)

pub refusal-returns-in-Bool-true : goal.refusal-returns-in-Bool-true
refusal-returns-in-Bool-true t c =
    λ new weighs.
    let is : holder_of (data_of c.args.value.now) ≡ Err Scalar = search rules in
    sym (ap (λ (r : Result Data WriteError). cause_of (within c.args.beside r))
    (written-refused c.is_empty.result c.args.keys.now c.args.push new (data_of c.args.value.now) Scalar
    (c.is_empty.ensures, c.else-is_empty.either) is))

pub refusal-returns-in-Bool-true-2 : goal.refusal-returns-in-Bool-true-2
refusal-returns-in-Bool-true-2 t c =
    λ new weighs.
    let is : holder_of (data_of c.args.value.now) ≡ Err Scalar = search rules in
    sym (ap (λ (r : Result Data WriteError). cause_of (within c.args.beside r))
    (written-refused c.is_empty.result c.args.keys.now c.args.push new (data_of c.args.value.now) Scalar
    (c.is_empty.ensures, c.else-is_empty.either) is))

pub refusal_in-returns-in-Some-child : goal.refusal_in-returns-in-Some-child
refusal_in-returns-in-Some-child t c =
    λ new weighs.
    let there = rw c.in-Some-child.is at c.entry-others.ensures.value in
    let is : IsBehind c.args.beside c.saturating_add-beside_child.result c.args.keys.now c.in-Some-key.key
    c.in-Some.rest.now c.args.array.now (data_of c.in-Some-child.child.now) = record {
      room = omega (arith, c.entry-others.ensures.beside, c.saturating_add-beside_child.ensures);
      first = c.in-Some.ensures.cases.0 ∙ ap (λ (o : Option Key). o ∷ c.in-Some.rest.now) c.in-Some-key.is;
      entry = present c.args.array.now c.in-Some-key.key (data_of c.in-Some-child.child.now) there;
    } in
    c.refusal.ensures new weighs
    ∙ cause-behind c.args.beside c.saturating_add-beside_child.result c.args.keys.now c.in-Some-key.key
    c.in-Some.rest.now c.args.push new c.args.array.now (data_of c.in-Some-child.child.now) is

pub refusal_in-returns-in-None : goal.refusal_in-returns-in-None
refusal_in-returns-in-None t c =
    λ new weighs.
    let lacks = rw c.in-None.is at c.entry-others.ensures.value in
    let is : IsBehind c.args.beside c.saturating_add-beside_child.result c.args.keys.now c.in-Some-key.key
    c.in-Some.rest.now c.args.array.now null = record {
      room = omega (arith, c.entry-others.ensures.beside, c.saturating_add-beside_child.ensures);
      first = c.in-Some.ensures.cases.0 ∙ ap (λ (o : Option Key). o ∷ c.in-Some.rest.now) c.in-Some-key.is;
      entry = absent c.args.array.now c.in-Some-key.key lacks;
    } in
    c.refusal-in-None.ensures new weighs
    ∙ cause-behind c.args.beside c.saturating_add-beside_child.result c.args.keys.now c.in-Some-key.key
    c.in-Some.rest.now c.args.push new c.args.array.now null is
