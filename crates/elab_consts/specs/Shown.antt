-- What the types of the code show.
use Rattle.std.specs.Prelude.{ℕ, List}
use Rattle.elab_rules.specs.Constants as constants
use Rattle.elab_rules.specs.Strings.{Mode as StringMode, text, slash, octal, hex, Reading}
use Rattle.elab_consts.specs.declared.addresses.AddressOf.{AddressOf}
use Rattle.elab_consts.specs.declared.addresses.AddressOf.TheVariants.{Global, Function}
use Rattle.elab_consts.specs.declared.strings.Mode.{Mode}
use Rattle.elab_consts.specs.declared.strings.Mode.TheVariants.{Text, Slash, Octal1, Octal2, Octal3, Hex}

abbrev pub address_of : AddressOf → constants.Address
address_of (Global g) = constants.of_global g
address_of (Function f) = constants.of_function f

abbrev pub mode_of : Mode → StringMode
mode_of Text = text
mode_of Slash = slash
mode_of (Octal1 v) = octal 2 v
mode_of (Octal2 v) = octal 1 v
mode_of (Octal3 v) = octal 0 v
mode_of (Hex v) = hex v

abbrev pub reading : Mode → List ℕ → Reading
reading m bytes = record { mode = mode_of m; bytes = bytes }
