-- Whether calls by an address stand in a transaction, as their instructions say.
use Rattle.std.specs.Prelude.{true, false, ◌≡◌, List, Some}
use Rattle.tx_code.specs.declared.instr.Instr.{Instr}
use Rattle.tx_code.specs.declared.instr.Instr.TheVariants.{CallIndirect, TCallIndirect}
use Rattle.tx_code.specs.Meaning.{Names, Frame, State, Runs, Unwinds, fetch, in_transaction}

abbrev pub InMode : Instr → Frame → List Frame → Type 0
InMode (CallIndirect ty n) f rest = in_transaction f rest ≡ false
InMode (TCallIndirect ty n) f rest = in_transaction f rest ≡ true
InMode i f rest = Unit {0}

-- the next instruction is in its mode
abbrev pub KnowsMode : Names → Frame → List Frame → Type 0
KnowsMode x f rest = (i : Instr) → fetch x f.home f.index ≡ Some i → InMode i f rest

abbrev pub Modes : Names → State → Type 0
Modes x (Runs f rest) = KnowsMode x f rest
Modes x (Unwinds e f rest) = Unit {0}
