-- What is written of a run.
use Rattle.std.specs.Prelude.{ℕ, List, ◌++◌, codes}
use Rattle.std.specs.Fmt.{decimal, signed_decimal}
use Rattle.tx_events.specs.declared.Trap.{Trap}
use Rattle.tx_events.specs.declared.Trap.TheVariants.{Overflow, DivideByZero, ShiftRange, BadAddress, StackOverflow, UnsafeCall, BadCall, BadVirtual}
use Rattle.tx_events.specs.declared.Trap.TheVariants.{TooManyThreads, BadJoin}
use Rattle.tx_events.specs.declared.End.{End}
use Rattle.tx_events.specs.declared.End.TheVariants.{Exit, Abort, Terminate, Trapped, StepsOut}
use Rattle.tx_machine.specs.declared.run.Ran.{Ran}
use Rattle.vm_thread.specs.declared.thread.Here.{Here}
use Rattle.tx_answers.specs.declared.answer.Status.{Status}
use Rattle.tx_answers.specs.declared.answer.Status.TheVariants.{Done, Refused, Usage, Abort as Aborted, Terminate as Terminated, Trapped as TrapStatus}
use Rattle.tx_answers.specs.declared.answer.Status.TheVariants.{StepsOut as CutShort, HostFault, Memory, Limit, BadSchedule, CostOut}

abbrev pub trap_name : Trap → List ℕ
trap_name Overflow = codes "Overflow"
trap_name DivideByZero = codes "DivideByZero"
trap_name ShiftRange = codes "ShiftRange"
trap_name BadAddress = codes "BadAddress"
trap_name StackOverflow = codes "StackOverflow"
trap_name UnsafeCall = codes "UnsafeCall"
trap_name BadCall = codes "BadCall"
trap_name BadVirtual = codes "BadVirtual"
trap_name TooManyThreads = codes "TooManyThreads"
trap_name BadJoin = codes "BadJoin"

-- the end line
abbrev pub end_line : End → List ℕ
end_line (Exit n) = codes "exit " ++ (signed_decimal n ++ codes "\n")
end_line Abort = codes "abort\n"
end_line Terminate = codes "terminate\n"
end_line (Trapped t) = codes "trap " ++ (trap_name t ++ codes "\n")
end_line StepsOut = codes "steps out\n"

-- the turn line
abbrev pub turn_line : (ran waited rolled idle : ℕ) → List ℕ
turn_line ran waited rolled idle =
    codes "turns ran " ++ (decimal ran ++ (codes " waited " ++
    (decimal waited ++ (codes " rolled " ++ (decimal rolled ++ (codes " idle " ++ (decimal idle ++ codes "\n")))))))

abbrev pub end_lines : Ran Here → List ℕ
end_lines r = end_line r.end ++ turn_line r.ran r.waited r.rolled r.idle

abbrev pub status_of : End → Status
status_of (Exit n) = Done
status_of Abort = Aborted
status_of Terminate = Terminated
status_of (Trapped t) = TrapStatus
status_of StepsOut = CutShort

-- the numbers of the statuses
abbrev pub number_of : Status → ℕ
number_of Done = 0
number_of Refused = 1
number_of Usage = 2
number_of Aborted = 3
number_of Terminated = 4
number_of TrapStatus = 5
number_of CutShort = 6
number_of HostFault = 7
number_of Memory = 8
number_of Limit = 9
number_of BadSchedule = 10
number_of CostOut = 11
