-- The test of a key.
use Rattle.std.proofs.Common.{◌≡◌, ℕ, true, List, codes, Option, Some, Result, Ok, Err, IfOk, MatchResult, sym, ◌∙◌}
use Rattle.std.specs.Result.{IfErr}
use Rattle.std.proofs.lemmas.Option.{same_Some}
use Rattle.std.proofs.lemmas.Result.{IfOk-weaker}
use Rattle.dp_markup.specs.declared.states.StartTag.{StartTag}
use Rattle.dp_markup.specs.Grammar.{BeginsWithHead, root_value}
use Rattle.dp_proxy.specs.declared.errors.InitError.{InitError}
use Rattle.dp_proxy.specs.declared.errors.InitError.TheVariants.{Memory}
use Rattle.dp_proxy.specs.Inits.{GivesKey}
use Rattle.dp_outside.specs.Names.{IsKey, key_limit}
use Rattle.dp_outside.proofs.NameLaws.{name_again, name_is}
use Rattle.dp_proxy.specs.Calls.{is_key}

pub key_is : (bytes : List ℕ) → is_key bytes ≡ true → IsKey bytes
key_is bytes h = name_is key_limit bytes h

pub key_again : (bytes : List ℕ) → IsKey bytes → is_key bytes ≡ true
key_again bytes n = name_again key_limit bytes n

-- ---- the key of a first packet

module _ (text : List ℕ) (value : Option (List ℕ)) (r : Result (List ℕ) InitError)
    (found : IfOk r (λ key. (value ≡ Some key) × IsKey key)) where
  pub gives : ((tag : StartTag) × BeginsWithHead text tag × (value ≡ root_value tag (codes "init") (codes "idekey")))
      → IfOk r (GivesKey text)
  gives h = IfOk-weaker r (λ key. (value ≡ Some key) × IsKey key) (GivesKey text)
      (λ key k. record { tag = h.0; begins = h.1; value = sym h.2 ∙ k.0; is_key = k.1 }) found

  pub only : IfErr r (λ e. (key : List ℕ) → value ≡ Some key → IsKey key → ⊥)
      → ((tag : StartTag) → BeginsWithHead text tag → value ≡ root_value tag (codes "init") (codes "idekey"))
      → (key : List ℕ) → GivesKey text key → MatchResult r (λ found. found ≡ key) (λ e. e ≡ Memory)
  only bad same key g = by r found bad where
    is : value ≡ Some key
    is = same g.tag g.begins ∙ g.value

    by : (q : Result (List ℕ) InitError) → IfOk q (λ k. (value ≡ Some k) × IsKey k)
        → IfErr q (λ e. (k : List ℕ) → value ≡ Some k → IsKey k → ⊥)
        → MatchResult q (λ k. k ≡ key) (λ e. e ≡ Memory)
    by (Ok k) f b = same_Some k key (sym f.0 ∙ is)
    by (Err e) f b = absurd (b key is g.is_key)
