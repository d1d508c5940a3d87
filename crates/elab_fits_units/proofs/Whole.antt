-- Programs fit.
use Rattle.std.proofs.Common.{List}
use Rattle.elab_rules.specs.cpp_lex.Tokens.{Lexeme}
use Rattle.elab_fits_lambdas.proofs.Lambdas.{lambdas_are_good}
use Rattle.elab_fits_parts.proofs.Implicit.{steps_law}
use Rattle.elab_fits_units.specs.Laws.{Laws}
use Rattle.elab_fits_units.specs.Programs.{ProgramsFit}
use Rattle.elab_fits_units.proofs.Beginning.{start_good, later_good}
use Rattle.elab_fits_units.proofs.Closing.{class_leads}
use Rattle.elab_fits_units.proofs.Given.{below_is}
use Rattle.elab_fits_units.proofs.Leading as leading
use Rattle.elab_fits_units.proofs.Named.{By, names_beside}
use Rattle.elab_fits_units.proofs.Programs.{program_fits}

pub laws_are : (s : List Lexeme) → Laws s
laws_are s = record {
  implicits = λ a b g u h. steps_law a b g h;
  headers = leading.headers s;
  read = leading.read s;
  read_outside = leading.read_outside s;
  variables = leading.variables s;
  aliases = leading.aliases s;
  enums = leading.enums s;
  names = leading.names s;
  classes = class_leads s;
  declared = leading.declared;
  again = leading.again;
  elsewhere = leading.elsewhere s;
  functions = leading.functions s;
  outside = leading.outside s;
  methods = leading.methods s;
  defaults = leading.defaults s;
  members = leading.members s;
}

pub programs_fit : ProgramsFit
programs_fit xs p t e = program_fits (below_is lambdas_are_good) laws_are By names_beside later_good (start_good 0) xs p t e
