-- A text that is written begins with a declaration.
use Rattle.std.proofs.Common.{◌≡◌, inl, inr, zero, suc, Bool, true, false, not, ◌&&◌, [], ◌∷◌, ◌++◌, refl, codes}
use Rattle.std.proofs.lemmas.Bool.{and_parts}
use Rattle.dp_markup.specs.Rules.{◌>>◌}
use Rattle.dp_markup.specs.Classes.{is_white}
use Rattle.dp_markup.specs.Grammar.{White, UpTo, IsFree, is_front_of, Misc, Declaration, Prolog}
use Rattle.dp_markup.proofs.Loops.{give}
use Rattle.dp_markup.proofs.Basics.{one_byte, mark_of, before}
use Rattle.dp_packet.specs.Parts.{Text}
use Rattle.dp_packet.specs.Text.{declaration}

abbrev is_free : Text → Text → Bool
is_free mark [] = true
is_free mark (b ∷ bytes) = not (is_front_of mark ((b ∷ bytes) ++ mark)) && is_free mark bytes

not_true : (b : Bool) → not b ≡ true → b ≡ false
not_true true is = absurd cc
not_true false is = refl

free : (mark bytes : Text) → is_free mark bytes ≡ true → IsFree mark bytes
free mark [] is = tt
free mark (b ∷ bytes) is =
    let parts = and_parts (not (is_front_of mark ((b ∷ bytes) ++ mark))) (is_free mark bytes) is in
    (not_true (is_front_of mark ((b ∷ bytes) ++ mark)) parts.0, free mark bytes parts.1)

abbrev said : Text
said = codes "version=\"1.0\" encoding=\"iso-8859-1\""

up_to : UpTo (codes "?>") (said ++ codes "?>") said
up_to = record { split = refl; first = free (codes "?>") said refl }

spaced : (White >> UpTo (codes "?>")) (32 ∷ (said ++ codes "?>")) said
spaced =
    record {
      front = 32 ∷ [];
      back = said
          ++ codes "?>";
      value = 32;
      split = refl;
      one = one_byte is_white 32 refl;
      other = up_to;
    }

declared : Declaration (codes "<?xml" ++ (32 ∷ (said ++ codes "?>"))) said
declared = before (codes "<?xml") (White >> UpTo (codes "?>")) (32 ∷ (said ++ codes "?>")) said spaced

pub before_root : Prolog (declaration ++ 60 ∷ []) 60
before_root = record {
  count = suc (suc zero);
  chain = record {
    front = codes "<?xml" ++ (32 ∷ (said ++ codes "?>"));
    back = 10 ∷ 60 ∷ [];
    value = false;
    split = refl;
    one = inr (record {
      holds = refl;
      spelled = give Declaration (λ _. false)
          (codes "<?xml" ++ (32 ∷ (said ++ codes "?>"))) said declared;
    });
    other = record {
      front = 10 ∷ [];
      back = 60 ∷ [];
      value = false;
      split = refl;
      one = inl (give Misc (λ _. false) (10
          ∷ []) tt (inl (give White (λ _. tt) (10 ∷ []) 10 (one_byte is_white 10 refl))));
      other = mark_of 60;
    };
  };
}
