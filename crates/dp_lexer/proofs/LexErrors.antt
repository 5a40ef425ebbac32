-- An error names its fault and its offset.
use Rattle.std.proofs.Common.{◌≡◌, ℕ}
use Rattle.dp_lexer.specs.declared.fault.Fault.{Fault}
use Rattle.dp_lexer.specs.declared.fault.Fault.TheVariants as fault
use Rattle.dp_lexer.specs.declared.errors.LexError.{LexError}
use Rattle.dp_lexer.specs.declared.errors.LexError.TheVariants as error
use Rattle.dp_lexer.specs.Tokens.{error_of}
use Rattle.std.proofs.Common.{refl, ap, ◌∙◌}

fault_in : LexError → Fault
fault_in (error.BadByte n) = fault.BadByte
fault_in (error.OpenString n) = fault.OpenString
fault_in (error.OpenComment n) = fault.OpenComment
fault_in (error.WideNumber n) = fault.WideNumber
fault_in error.Memory = fault.BadByte

offset_in : LexError → ℕ
offset_in (error.BadByte n) = n
offset_in (error.OpenString n) = n
offset_in (error.OpenComment n) = n
offset_in (error.WideNumber n) = n
offset_in error.Memory = 0

fault_of : (f : Fault) (n : ℕ) → f ≡ fault_in (error_of f n)
unfolding fault_in
fault_of fault.BadByte n = refl
fault_of fault.OpenString n = refl
fault_of fault.OpenComment n = refl
fault_of fault.WideNumber n = refl

of_fault : (f : Fault) (n : ℕ) → fault_in (error_of f n) ≡ f
unfolding fault_in
of_fault fault.BadByte n = refl
of_fault fault.OpenString n = refl
of_fault fault.OpenComment n = refl
of_fault fault.WideNumber n = refl

offset_of : (f : Fault) (n : ℕ) → n ≡ offset_in (error_of f n)
unfolding offset_in
offset_of fault.BadByte n = refl
offset_of fault.OpenString n = refl
offset_of fault.OpenComment n = refl
offset_of fault.WideNumber n = refl

of_offset : (f : Fault) (n : ℕ) → offset_in (error_of f n) ≡ n
unfolding offset_in
of_offset fault.BadByte n = refl
of_offset fault.OpenString n = refl
of_offset fault.OpenComment n = refl
of_offset fault.WideNumber n = refl

pub error_one : (f g : Fault) (n m : ℕ) → error_of f n ≡ error_of g m → (f ≡ g) × (n ≡ m)
error_one f g n m e = (fault_of f n ∙ ap fault_in e ∙ of_fault g m, offset_of f n ∙ ap offset_in e ∙ of_offset g m)

pub error_no_memory : (f : Fault) (n : ℕ) → error_of f n ≡ error.Memory → ⊥
error_no_memory fault.BadByte n e = cc
error_no_memory fault.OpenString n e = cc
error_no_memory fault.OpenComment n e = cc
error_no_memory fault.WideNumber n e = cc
