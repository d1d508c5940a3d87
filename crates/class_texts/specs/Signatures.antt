-- The signature of a function's type, the header of a function, and blanks in its text.
use Rattle.std.specs.Prelude.{ℕ, Bool, true, false, List, [], ◌∷◌, Some, Result, Ok, Err}
use Rattle.cpp_types.specs.Typ.{Form, func, Signature}
use Rattle.cpp_types.specs.declared.classes.At.{At}
use Rattle.elab_init.specs.cpp_tree.declared.program.FuncKind.{FuncKind}
use Rattle.elab_init.specs.cpp_tree.declared.faults.ElabFault.{ElabFault}
use Rattle.elab_init.specs.cpp_tree.declared.faults.ElabFault.TheVariants.{Ill}
use Rattle.elab_init.specs.cpp_tree.declared.faults.IllRule.TheVariants.{BadDeclaration}
use Rattle.elab_init.specs.elab_rules.Types.{Declared}
use Rattle.elab_init.specs.elab_rules.Functions.{Storage, Header}

-- the signature, where it is a function's type
abbrev pub signature_in : At → Form → Result Signature ElabFault
signature_in at (func sig) = Ok sig
signature_in at f = Err (Ill at BadDeclaration)

-- the header of a function of a class with a signature
abbrev pub header_by : ℕ → Storage → FuncKind → At → List ℕ → Declared → Signature → Header
header_by n x kind at name r sig = record {
  name = name;
  at = at;
  signature = sig;
  params = r.params;
  qualifiers = r.qualifiers;
  storage = x;
  kind = kind;
  class = Some n;
}

-- the blank behind a token that others follow
abbrev pub gap : Bool → List ℕ
gap true = 32 ∷ []
gap false = []
