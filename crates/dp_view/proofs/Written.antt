-- A full name is spelt as the grammar says, and names one path alone.
use Rattle.std.proofs.Common.{◌≡◌, ℕ, Bool, true, false, cond, ◌==◌, if◌then◌else◌, List, [], ◌∷◌, ◌++◌, codes, Option, Some, None, refl, sym, ap, subst, ◌∙◌, append_assoc, inl, inr}
use Rattle.std.specs.List.{flat_map, AllByRecursion}
use Rattle.std.specs.Option.{option_map_or}
use Rattle.std.proofs.lemmas.Bool.{eqb-true}
use Rattle.std.proofs.lemmas.List.{append-nil}
use Rattle.dp_state.specs.declared.moments.Path.{Path}
use Rattle.dp_value.specs.declared.key.Key.{Key}
use Rattle.dp_value.specs.declared.key.Key.TheVariants.{Int, Text}
use Rattle.dp_bytes.specs.IntText.{int_of_text}
use Rattle.dp_value.specs.KeyOf.{key_of_text}
use Rattle.dp_bytes.specs.Quotes.{in_quotes}
use Rattle.dp_view.specs.Grammar.{Dollar, Repeated, Within, is_plain, Quoted, Inner, Index, spelt, HasIndex, HasFullName}
use Rattle.dp_view.specs.Names.{index_of, entry_name, full_name, sigil, variable_name}
use Rattle.dp_view.specs.inner.Longer.{with_key}
use Rattle.dp_view.specs.NameReader.{path_at}
use Rattle.dp_view.proofs.Again.{path_again}
use Rattle.dp_packet.proofs.Integers.{int_is}

plain_byte : (b : ℕ) → (b == 34) ≡ false → (b == 92) ≡ false → (b == 0) ≡ false → is_plain 34 b ≡ true
plain_byte b x y z = rw (x, y, z) refl

byte_cases : (b : ℕ) (u v w : Bool) → (b == 34) ≡ u → (b == 92) ≡ v → (b == 0) ≡ w
    → Within 34 b (cond u (92 ∷ 34 ∷ []) (cond v (92 ∷ 92 ∷ []) (cond w (92 ∷ 48 ∷ []) (b ∷ []))))
byte_cases b true v w x y z = inr (34, ap (λ (c : ℕ). Some c) (sym (eqb-true b 34 x)), refl)
byte_cases b false true w x y z = inr (92, ap (λ (c : ℕ). Some c) (sym (eqb-true b 92 y)), refl)
byte_cases b false false true x y z = inr (48, ap (λ (c : ℕ). Some c) (sym (eqb-true b 0 z)), refl)
byte_cases b false false false x y z = inl (plain_byte b x y z, refl)

byte_written : (b : ℕ) → Within 34 b (in_quotes b)
byte_written b = byte_cases b (b == 34) (b == 92) (b == 0) refl refl refl

bytes_written : (bytes : List ℕ) → Repeated (Within 34) bytes (flat_map in_quotes bytes)
bytes_written [] = refl
bytes_written (b ∷ t) =
    record {
      front = in_quotes b;
      back = flat_map in_quotes t;
      whole = refl;
      first = byte_written b;
      second =
          bytes_written t;
    }

quoted_written : (bytes : List ℕ) → Quoted 34 bytes (34 ∷ (flat_map in_quotes bytes ++ 34 ∷ []))
quoted_written bytes = record {
  front = 34 ∷ [];
  back = flat_map in_quotes bytes ++ 34 ∷ [];
  whole = refl;
  first = refl;
  second =
      record {
        front = flat_map in_quotes bytes;
        back = 34
            ∷ [];
        whole = refl;
        first = bytes_written bytes;
        second = refl;
      };
}

bracketed : (key : Key) (inner : List ℕ) → Inner key inner → Index key (91 ∷ (inner ++ 93 ∷ []))
bracketed key inner is = record {
  front = 91 ∷ [];
  back = inner ++ 93 ∷ [];
  whole = refl;
  first = refl;
  second = record { front = inner; back = 93 ∷ []; whole = refl; first = is; second = refl };
}

text_key : (bytes : List ℕ) → int_of_text bytes ≡ None → Text bytes ≡ key_of_text bytes
text_key bytes e = ap (λ (o : Option _). option_map_or Int o (Text bytes)) (sym e)

index_written : (key : Key) → HasIndex key → Index key (index_of key)
index_written (Int n) is = bracketed (Int n) _ (inl (n, int_is n is, refl))
index_written (Text bytes) is =
    let inner : List ℕ = 34 ∷ (flat_map in_quotes bytes ++ 34 ∷ []) in
    let made : Index (Text bytes) (91 ∷ (inner ++ 93 ∷ [])) = bracketed (Text bytes) inner
    (inr (34, bytes, inl refl, quoted_written bytes, text_key bytes is)) in
    subst (Index (Text bytes)) (ap (λ (t : List ℕ). 91 ∷ 34 ∷ t)
    (append_assoc (flat_map in_quotes bytes) (34 ∷ []) (93 ∷ []))) made

indices_written : (keys : List Key) → AllByRecursion HasIndex keys → Repeated Index keys (flat_map index_of keys)
indices_written [] all = refl
indices_written (key ∷ keys) all = record {
  front = index_of key;
  back = flat_map index_of keys;
  whole = refl;
  first = index_written key all.0;
  second = indices_written keys all.1;
}

-- what stands before the names of a context is a `$`, or nothing
sigil_written : (b : Bool) → Dollar (if b then [] else codes "$")
sigil_written true = inr refl
sigil_written false = inl refl

full_name_spelt : (id : ℕ) (path : Path) → HasFullName path → spelt (full_name id path) path
full_name_spelt id path has = record {
  front = sigil id;
  back = path.name ++ flat_map index_of path.keys;
  whole = append_assoc (sigil id) path.name (flat_map index_of path.keys);
  first = sigil_written (id == 2);
  second = record {
    front = path.name;
    back = flat_map index_of path.keys;
    whole = refl;
    first = (has.name, refl);
    second = indices_written path.keys has.keys;
  };
}

pub full_name_read : (id : ℕ) (path : Path) → HasFullName path → path_at (full_name id path) ≡ Some path
full_name_read id path has = path_again (full_name id path) path (full_name_spelt id path has)

indices_more : (keys : List Key) (key : Key)
    → flat_map index_of keys ++ index_of key ≡ flat_map index_of (keys ++ key ∷ [])
indices_more [] key = sym (append-nil (index_of key))
indices_more (k ∷ keys) key =
    append_assoc (index_of k) (flat_map index_of keys) (index_of key)
    ∙ ap (λ (t : List ℕ). index_of k ++ t) (indices_more keys key)

pub entry_full_name : (id : ℕ) (path : Path) (key : Key)
    → entry_name (Some (full_name id path)) key ≡ Some (full_name id (with_key path key))
entry_full_name id path key =
    let variable : List ℕ = variable_name id path.name in
    ap (λ (t : List ℕ). Some t) (append_assoc variable (flat_map index_of path.keys) (index_of key)
    ∙ ap (λ (t : List ℕ). variable ++ t) (indices_more path.keys key))
