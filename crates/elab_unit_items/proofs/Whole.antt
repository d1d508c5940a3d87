-- Programs have whole items.
use Rattle.std.proofs.Common.{List, []}
use Rattle.elab_rules.specs.cpp_lex.Tokens.{Lexeme}
use Rattle.elab_rules.specs.Programs.{with_unit}
use Rattle.elab_fits_lambdas.proofs.Lambdas.{lambdas_are_good}
use Rattle.elab_fits_units.specs.Below.{Below}
use Rattle.elab_fits_units.specs.Good.{words_with}
use Rattle.elab_fits_units.proofs.Beginning.{start_good, later_good}
use Rattle.elab_fits_units.proofs.Given.{below_is}
use Rattle.elab_fits_units.proofs.Named.{By, names_beside}
use Rattle.elab_fits_units.proofs.Units.{steps}
use Rattle.elab_fits_units.proofs.Whole.{laws_are}
use Rattle.elab_unit_items.specs.Units.{ProgramsHaveItems}
use Rattle.elab_unit_items.proofs.Programs.{programs_have_items}
use Rattle.elab_unit_items.proofs.Steps.{units}

pub programs_law : ProgramsHaveItems
programs_law xs p t e =
    let below : (s : List Lexeme) → Below s = below_is lambdas_are_good in
    programs_have_items below laws_are (λ s. words_with s (By s)) (λ s. steps s (By s) (below s) (laws_are s) (names_beside s))
    (λ s. units s (below s) (laws_are s))
    (λ i q x st g s. (later_good i q x st g.0, (names_beside s).begins i (with_unit q x st) st.ctx.traits))
    (λ s. (start_good 0, (names_beside s).begins 0 (record { units = []; classes = []; slots = [] }) [])) xs p t e
