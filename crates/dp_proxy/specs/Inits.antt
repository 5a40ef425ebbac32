-- The key with which an engine comes: DBGp 1.0, "Connection Initialization". Any engine's first
-- packet has it among the attributes of its root; whatever stands behind the start tag is not read.
use Rattle.std.specs.Prelude.{◌≡◌, ℕ, List, Some, codes}
use Rattle.dp_markup.specs.declared.states.StartTag.{StartTag}
use Rattle.dp_markup.specs.Grammar.{BeginsWithHead, root_value}
use Rattle.dp_outside.specs.Names.{IsKey}

-- the text begins with the start tag of an `init` whose `idekey` is this key
pub record GivesKey (text key : List ℕ) : Type 0 where
  pub tag : StartTag
  pub begins : BeginsWithHead text tag
  pub value : root_value tag (codes "init") (codes "idekey") ≡ Some key
  pub is_key : IsKey key
