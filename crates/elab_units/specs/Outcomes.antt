-- What is said of a fault.
use Rattle.elab_entry.specs.cpp_tree.declared.faults.ElabFault.{ElabFault}
use Rattle.elab_entry.specs.cpp_tree.declared.faults.ElabFault.TheVariants.{Ill, Override, JumpIntoBlock, Limit, Memory}

-- want of memory says nothing
abbrev pub UnlessMemory : ElabFault → Type 0 → Type 0
UnlessMemory (Ill at rule) P = P
UnlessMemory (Override at rule) P = P
UnlessMemory (JumpIntoBlock at) P = P
UnlessMemory (Limit at which) P = P
UnlessMemory Memory P = Unit {0}
