use Rattle.std.proofs.Common.{◌≡◌, ℕ, List, get_or, set, sym, ap, subst, ◌∙◌, arith}
use Rattle.std.proofs.lemmas.List.{length-set}
use Rattle.dp_value.specs.declared.value.Value.{Value}
use Rattle.dp_value.specs.inner.Left.{left, row_at}
use Rattle.dp_value.specs.inner.Rows.{AreNull}
use Rattle.dp_value.proofs.LeftLemmas.{length-left, left-read, left-set, row-within}
use Rattle.dp_value.proofs.RowLemmas.{AreNull-set}
use Rattle.dp_value.proofs.rows.replace_nth.Goals as goal

pub row-found-requires : goal.row-found-requires
row-found-requires c =
    let vs = c.args.values.now.items in
    let within = c.requires.nulls.within in
    omega (arith, within, length-left c.args.start c.args.gone vs within, c.requires.there, c.args.values.now.ok.0)

pub index_mut-requires : goal.index_mut-requires
index_mut-requires c =
    let vs = c.args.values.now.items in
    let within = c.requires.nulls.within in
    omega (
      arith,
      c.row-found.ensures,
      row-within c.args.start c.args.gone c.args.at vs within c.requires.there,
      c.args.values.now.ok.0,
    )

read_left : (s g i n : ℕ) (vs : List Value) (v w : Value) → n ≡ row_at s g i → v ≡ get_or vs n v → w ≡ v
    → w ≡ get_or (left s g vs) i w
read_left s g i n vs v w at read same =
    subst (λ (x : Value). x ≡ get_or (left s g vs) i x) (sym same)
    (read ∙ ap (λ (m : ℕ). get_or vs m v) at ∙ sym (left-read s g i vs v))

pub returns-clause-was : goal.returns-clause-was
returns-clause-was c =
    read_left c.args.start c.args.gone c.args.at c.row-found.result c.args.values.now.items c.index_mut.result.now
    c.replace.result c.row-found.ensures c.index_mut.ensures.value c.replace.ensures.value

pub returns-clause-left : goal.returns-clause-left
returns-clause-left c =
    let vs = c.args.values.now.items in
    ap (λ (m : ℕ). left c.args.start c.args.gone (set vs m c.replace.new.dest)) c.row-found.ensures
    ∙ left-set c.args.start c.args.gone c.args.at vs c.replace.new.dest
    ∙ ap (set (left c.args.start c.args.gone vs) c.args.at) c.replace.ensures.after

pub returns-clause-same_length : goal.returns-clause-same_length
returns-clause-same_length c = length-set c.args.values.now.items c.row-found.result c.replace.new.dest

pub returns-clause-nulls : goal.returns-clause-nulls
returns-clause-nulls c =
    let vs = c.args.values.now.items in
    subst (λ (m : ℕ). AreNull c.args.start c.args.gone (set vs m c.replace.new.dest)) (sym c.row-found.ensures)
    (AreNull-set c.args.start c.args.gone c.args.at vs c.replace.new.dest c.requires.nulls)
