-- The fatal faults that refusals of operations on values are. Out of memory is none, and no table
-- of theirs has it.
use Rattle.dp_state.specs.declared.moments.FatalKind.{FatalKind}
use Rattle.dp_state.specs.declared.moments.FatalKind.TheVariants as fatal
use Rattle.dp_state.specs.declared.state.Fault.{Fault}
use Rattle.dp_state.specs.declared.state.Fault.TheVariants.{Fatal, Memory}
use Rattle.dp_value.specs.declared.errors.CallError.{CallError}
use Rattle.dp_value.specs.declared.errors.CallError.TheVariants as call
use Rattle.dp_value.specs.declared.errors.ValueError.{ValueError}
use Rattle.dp_value.specs.declared.errors.ValueError.TheVariants as value
use Rattle.dp_value.specs.declared.errors.WriteError.{WriteError}
use Rattle.dp_value.specs.declared.errors.WriteError.TheVariants as write

abbrev pub kind_of_value : ValueError → FatalKind
kind_of_value value.Overflow = fatal.Overflow
kind_of_value value.DivByZero = fatal.DivByZero
kind_of_value value.BadKey = fatal.BadKey
kind_of_value value.NextIndex = fatal.NextIndex
kind_of_value value.Unsupported = fatal.Unsupported
kind_of_value value.TooHeavy = fatal.TooHeavy
kind_of_value value.Memory = fatal.TooHeavy

abbrev pub kind_of_call : CallError → FatalKind
kind_of_call call.Overflow = fatal.Overflow
kind_of_call call.DivByZero = fatal.DivByZero
kind_of_call call.BadKey = fatal.BadKey
kind_of_call call.NextIndex = fatal.NextIndex
kind_of_call call.Unsupported = fatal.Unsupported
kind_of_call call.TooHeavy = fatal.TooHeavy
kind_of_call call.Arguments = fatal.Arguments
kind_of_call call.Memory = fatal.TooHeavy

abbrev pub kind_of_write : WriteError → FatalKind
kind_of_write write.Scalar = fatal.Scalar
kind_of_write write.Unsupported = fatal.Unsupported
kind_of_write write.BadKey = fatal.BadKey
kind_of_write write.NextIndex = fatal.NextIndex
kind_of_write write.TooHeavy = fatal.TooHeavy
kind_of_write write.Memory = fatal.TooHeavy

-- what a call on values that was refused is for a step: a fatal fault, or out of memory
abbrev pub fault_of_value : ValueError → Fault
fault_of_value value.Memory = Memory
fault_of_value e = Fatal (kind_of_value e)

abbrev pub fault_of_call : CallError → Fault
fault_of_call call.Memory = Memory
fault_of_call e = Fatal (kind_of_call e)

abbrev pub fault_of_write : WriteError → Fault
fault_of_write write.Memory = Memory
fault_of_write e = Fatal (kind_of_write e)
