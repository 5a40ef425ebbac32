-- What the answer of a function that reads is.
use Rattle.std.specs.Prelude.{◌≡◌, List, ◌++◌, Option, Some, None, Result, Ok, Err}
use Rattle.dp_reply.specs.declared.errors.ReplyError.{ReplyError}
use Rattle.dp_reply.specs.declared.errors.ReplyError.TheVariants.{NotDbgp, Memory}
use Rattle.dp_markup.specs.declared.errors.MarkupError.{MarkupError}
use Rattle.dp_markup.specs.declared.errors.MarkupError.TheVariants as markup
use Rattle.dp_reply.specs.Contents.{◌>>=◌}

abbrev pub Fails : {Y : Type 0} → ReplyError → Option Y → Type 0
Fails Memory read = Unit {0}
Fails NotDbgp read = read ≡ None

-- The answer, seen by `view`, is what is read, or that there is none; or memory failed.
abbrev pub Finds : {X Y : Type 0} → (X → Y) → Result X ReplyError → Option Y → Type 0
Finds view (Ok x) read = read ≡ Some (view x)
Finds view (Err e) read = Fails e read

-- what is read, put behind a list
abbrev pub behind : {A : Type 0} → List A → Option (List A) → Option (List A)
behind front read = read >>= λ more. Some (front ++ more)

-- A text that is no markup, or nests too deep, is no packet.
abbrev pub refusal_of : MarkupError → ReplyError
refusal_of markup.Memory = Memory
refusal_of (markup.BadMarkup offset) = NotDbgp
refusal_of markup.TooDeep = NotDbgp
