-- Items that are read are those that are taken, with what stands behind them; and a turn of a loop over items.
use Rattle.std.proofs.Common.{◌≡◌, ℕ, zero, suc, ◌+◌, ◌-◌, ◌<◌, ◌≤◌, ◌==◌, cond, List, [], ◌∷◌, ◌++◌, length, Option, Some, None, refl, ap, ◌∙◌, append_assoc, arith}
use Rattle.std.specs.Option.{option_map_or}
use Rattle.std.proofs.lemmas.List.{append-nil}
use Rattle.dp_value.specs.declared.key.Key.{Key}
use Rattle.dp_value.specs.KeyOf.{key_of_text}
use Rattle.dp_view.specs.NameReader.{◌>>=◌, behind, byte_at, index_at, items_at, keys_at, onward, quoted_at}
use Rattle.dp_view.specs.inner.Items.{behind_items, items_taken, keys_taken, skipped_on, taken_on, text_taken}

-- ---- both passes

-- what is made of what stands behind, beside what is known
abbrev beside : {A : Type 0} → List A → Option (List ℕ) → Option (List A × List ℕ)
beside items behind = behind >>= λ rest. Some (items, rest)

one_more : {A : Type 0} (item : A) (items : List A) (behind : Option (List ℕ))
    → (beside items behind >>= λ more. Some (item ∷ more.0, more.1)) ≡ beside (item ∷ items) behind
one_more item items None = refl
one_more item items (Some rest) = refl

module _ {A : Type 0} (step : List ℕ → Option (Option A × List ℕ)) where
  on_both : (n : ℕ) → ((bytes : List ℕ)
      → items_at step n bytes ≡ beside (items_taken step n bytes) (behind_items step n bytes))
      → (o : Option A) (rest : List ℕ)
      → onward o rest (items_at step n) ≡ beside (taken_on o rest (items_taken step n))
      (skipped_on o rest (behind_items step n))
  on_both n both None rest = refl
  on_both n both (Some item) rest =
      ap (λ (o : Option (List A × List ℕ)). o >>= λ more. Some (item ∷ more.0, more.1)) (both rest)
      ∙ one_more item (items_taken step n rest) (behind_items step n rest)

  pub items_both : (n : ℕ) (bytes : List ℕ)
      → items_at step n bytes ≡ beside (items_taken step n bytes) (behind_items step n bytes)
  unfolding items_at items_taken behind_items
  items_both zero bytes = refl
  items_both (suc n) bytes = by (step bytes) (items_both n) where
    by : (o : Option (Option A × List ℕ))
        → ((rest : List ℕ) → items_at step n rest ≡ beside (items_taken step n rest) (behind_items step n rest))
        → (o >>= λ found. onward found.0 found.1 (items_at step n))
        ≡ beside (option_map_or (λ found. taken_on found.0 found.1 (items_taken step n)) o [])
        (o >>= λ found. skipped_on found.0 found.1 (behind_items step n))
    by None both = refl
    by (Some found) both = on_both n both found.0 found.1

carried : {A B : Type 0} (items : List A) (behind : Option (List ℕ)) (f : List A × List ℕ → Option B)
    → (beside items behind >>= f) ≡ (behind >>= λ rest. f (items, rest))
carried items None f = refl
carried items (Some rest) f = refl

module _ (quote : ℕ) (bytes : List ℕ) where
  abbrev closed : List ℕ → Option (Key × List ℕ)
  closed back = behind quote back >>= λ rest. Some (key_of_text (text_taken quote bytes), rest)

  quoted_both : quoted_at quote bytes ≡ (behind_items (byte_at quote) (length bytes) bytes >>= closed)
  unfolding quoted_at
  quoted_both =
      ap (λ (o : Option (List ℕ × List ℕ)). o >>= λ value. behind quote value.1
      >>= λ rest. Some (key_of_text value.0, rest)) (items_both (byte_at quote) (length bytes) bytes)
      ∙ carried (text_taken quote bytes) (behind_items (byte_at quote) (length bytes) bytes)
      (λ value. behind quote value.1 >>= λ rest. Some (key_of_text value.0, rest))

  pub quoted_none : behind_items (byte_at quote) (length bytes) bytes ≡ None → quoted_at quote bytes ≡ None
  quoted_none e = quoted_both ∙ ap (λ (o : Option (List ℕ)). o >>= closed) e

  pub quoted_open : (back : List ℕ) → behind_items (byte_at quote) (length bytes) bytes ≡ Some back
      → behind quote back ≡ None → quoted_at quote bytes ≡ None
  quoted_open back e f =
      quoted_both ∙ ap (λ (o : Option (List ℕ)). o >>= closed) e
      ∙ ap (λ (o : Option (List ℕ)). o >>= λ rest. Some (key_of_text (text_taken quote bytes), rest)) f

  pub quoted_closed : (back rest : List ℕ) → behind_items (byte_at quote) (length bytes) bytes ≡ Some back
      → behind quote back ≡ Some rest
      → quoted_at quote bytes ≡ Some (key_of_text (text_taken quote bytes), rest)
  quoted_closed back rest e f =
      quoted_both ∙ ap (λ (o : Option (List ℕ)). o >>= closed) e
      ∙ ap (λ (o : Option (List ℕ)). o >>= λ rest. Some (key_of_text (text_taken quote bytes), rest)) f

module _ (bytes : List ℕ) where
  abbrev whole : List ℕ → Option (List Key)
  whole rest = cond (length rest == 0) (Some (keys_taken bytes)) None

  keys_both : keys_at bytes ≡ (behind_items index_at (length bytes) bytes >>= whole)
  unfolding keys_at
  keys_both =
      ap (λ (o : Option (List Key × List ℕ)). o >>= λ found. cond (length found.1 == 0) (Some found.0) None)
      (items_both index_at (length bytes) bytes)
      ∙ carried (keys_taken bytes) (behind_items index_at (length bytes) bytes)
      (λ found. cond (length found.1 == 0) (Some found.0) None)

  pub keys_none : behind_items index_at (length bytes) bytes ≡ None → keys_at bytes ≡ None
  keys_none e = keys_both ∙ ap (λ (o : Option (List ℕ)). o >>= whole) e

  pub keys_end : (rest : List ℕ) → behind_items index_at (length bytes) bytes ≡ Some rest
      → keys_at bytes ≡ cond (length rest == 0) (Some (keys_taken bytes)) None
  keys_end rest e = keys_both ∙ ap (λ (o : Option (List ℕ)). o >>= whole) e

-- ---- a turn of a loop

module _ {A : Type 0} (step : List ℕ → Option (Option A × List ℕ)) (count i : ℕ) (bytes : List ℕ) where
  turn : i < count → count - i ≡ suc (count - (i + 1))
  turn below = omega arith

  pub skips : (item : A) (after : List ℕ) → i < count → step bytes ≡ Some (Some item, after)
      → behind_items step (count - i) bytes ≡ behind_items step (count - (i + 1)) after
  unfolding behind_items
  skips item after below e = rw (turn below, e) refl

  pub skips_to : (after : List ℕ) → i < count → step bytes ≡ Some (None, after)
      → behind_items step (count - i) bytes ≡ Some after
  unfolding behind_items
  skips_to after below e = rw (turn below, e) refl

  pub skips_none : i < count → step bytes ≡ None → behind_items step (count - i) bytes ≡ None
  unfolding behind_items
  skips_none below e = rw (turn below, e) refl

  pub skips_all : count ≤ i → behind_items step (count - i) bytes ≡ Some bytes
  unfolding behind_items
  skips_all past = let none : count - i ≡ 0 = omega arith in rw none refl

  pub takes : (front : List A) (item : A) (after : List ℕ) → i < count → step bytes ≡ Some (Some item, after)
      → (front ++ item ∷ []) ++ items_taken step (count - (i + 1)) after ≡ front ++ items_taken step (count - i) bytes
  unfolding items_taken
  takes front item after below e =
      rw (turn below, e) (append_assoc front (item ∷ []) (items_taken step (count - (i + 1)) after))

  pub takes_none : (front : List A) → i < count → step bytes ≡ None
      → front ++ items_taken step (count - i) bytes ≡ front
  unfolding items_taken
  takes_none front below e = rw (turn below, e) (append-nil front)

  pub takes_to : (front : List A) (after : List ℕ) → i < count → step bytes ≡ Some (None, after)
      → front ++ items_taken step (count - i) bytes ≡ front
  unfolding items_taken
  takes_to front after below e = rw (turn below, e) (append-nil front)

  pub takes_all : (front : List A) → count ≤ i → front ++ items_taken step (count - i) bytes ≡ front
  unfolding items_taken
  takes_all front past = let none : count - i ≡ 0 = omega arith in rw none (append-nil front)
