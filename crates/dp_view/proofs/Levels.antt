-- What is shown in arrays, level by level.
use Rattle.std.proofs.Common.{◌≡◌, ◌≢◌, ◌+◌, ◌-◌, ◌*◌, min, ℕ, zero, suc, List, length, take, drop, Option, refl, sym, ap, ◌∙◌, arith}
use Rattle.dp_packet.specs.declared.property.Property.{Property}
use Rattle.dp_packet.specs.declared.property.Shape.TheVariants as shape
use Rattle.dp_value.specs.declared.key.Key.{Key}
use Rattle.dp_value.specs.declared.value.Value.TheVariants.{Array}
use Rattle.dp_value.specs.inner.Codes.{pairs_of-entries_of}
use Rattle.dp_value.specs.Data.{Data, Table}
use Rattle.dp_value.specs.Value.{data_of}
use Rattle.dp_view.specs.declared.paging.Paging.{Paging}
use Rattle.dp_view.specs.Properties.{nested, page_of, shape_of}
use Rattle.dp_view.specs.inner.Additions.{properties}
use Rattle.dp_view.proofs.Steps.{page_cut}

one_deeper : (p : Paging) (levels : ℕ) (full : Option (List ℕ)) (entries : List (Key × Data)) → levels ≢ 0
    → properties p (levels - 1) full entries ≡ nested p levels full entries
one_deeper p zero full entries some = absurd (some refl)
one_deeper p (suc levels) full entries some =
    let less : suc levels - 1 ≡ levels = omega arith in ap (λ n. properties p n full entries) less

pub nested_page : (p : Paging) (page levels : ℕ) (full : Option (List ℕ)) (entries : List (Key × Data)) (start end : ℕ)
    → levels ≢ 0
    → start ≡ min (page * p.children) (length entries) → end ≡ min (start + p.children) (length entries)
    → properties p (levels - 1) full (drop start (take end entries)) ≡ nested p levels full
    (page_of page p.children entries)
nested_page p page levels full entries start end some s e =
    ap (properties p (levels - 1) full) (page_cut page p.children start end entries s e)
    ∙ one_deeper p levels full (page_of page p.children entries) some

pub array_shape : (p : Paging) (page levels : ℕ) (full : Option (List ℕ)) (t : Table) (count : ℕ) (list : List Property)
    → count ≡ length t.pairs
    → list ≡ nested p levels full (page_of page p.children t.pairs)
    → shape.Array count page p.children list ≡ shape_of p page (nested p levels full) (data_of (Array t))
array_shape p page levels full t count list n l =
    ap (λ k. shape.Array k page p.children list) n
    ∙ ap (λ (made : List Property). shape.Array (length t.pairs) page p.children made) l
    ∙ ap (λ (ps : List (Key × Data)). shape.Array (length ps) page p.children
    (nested p levels full (page_of page p.children ps))) (sym (pairs_of-entries_of t.pairs))
