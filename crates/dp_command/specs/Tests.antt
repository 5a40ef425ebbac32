-- Tests that refuse a command, in their order, each with the code of DBGp 1.0, "Error Codes".
use Rattle.std.specs.Prelude.{Bool, List, Option, option_map}
use Rattle.std.specs.List.{find}
use Rattle.dp_packet.specs.declared.error_codes.ErrorCode.{ErrorCode}

-- a test, and the code of the error where it holds
abbrev pub Test : Type 0
Test = Bool × ErrorCode

-- the code of the first test that holds
abbrev pub first_code : List Test → Option ErrorCode
first_code tests = option_map (λ test. test.1) (find (λ test. test.0) tests)
