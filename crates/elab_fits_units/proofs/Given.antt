-- What the crates below prove of states.
use Rattle.std.proofs.Common.{List}
use Rattle.elab_rules.specs.cpp_lex.Tokens.{Lexeme}
use Rattle.elab_rules.specs.cpp_tree.Units.{Func as UnitFunc}
use Rattle.elab_rules.specs.Lambdas.{lambdas_of}
use Rattle.elab_fits_bodies.proofs.Bodies.{constructor_fits, destructor_fits}
use Rattle.elab_fits_bodies.proofs.Built.{parts_build}
use Rattle.elab_fits_bodies.proofs.Copied.{source_stands}
use Rattle.elab_fits_bodies.proofs.Ends.{function_fits}
use Rattle.elab_fits_bodies.proofs.Implied.{parts_copied_fit}
use Rattle.elab_fits_braces.proofs.Staying.{defaults_stay}
use Rattle.elab_fits_braces.proofs.Strings.{strings_build}
use Rattle.elab_fits_defaults.proofs.Made.{defaults_made}
use Rattle.elab_fits_defaults.proofs.Own.{own_build}
use Rattle.elab_fits_states.specs.Premises.{KeepsGood}
use Rattle.elab_fits_states.proofs.Bodies.{bodies_fit}
use Rattle.elab_fits_states.proofs.Discipline.{a_discipline}
use Rattle.elab_holds.proofs.Contexts.{contexts_law}
use Rattle.elab_holds.proofs.Locals.{stay_law, parameters_law, entered_law}
use Rattle.elab_holds.proofs.Alone.{slots_law}
use Rattle.elab_holds.proofs.Sound.{typ_sound}
use Rattle.elab_movable.proofs.Lambdas.{lambdas_keep}
use Rattle.elab_sound_types.proofs.Growth.{sound_more}
use Rattle.elab_sound_units.proofs.Steps.{parts_law as parts_made_law, copies_law}
use Rattle.elab_fits_parts.proofs.Bases.{bases_law}
use Rattle.elab_fits_parts.proofs.Objects.{objects_law}
use Rattle.elab_fits_parts.proofs.Parts.{parts_law}
use Rattle.elab_fits_units.specs.Below.{Below}
use Rattle.elab_fits_units.specs.Steps.{NoCall}

pub below_is : ((f : UnitFunc) (s : List Lexeme) → NoCall f.kind → KeepsGood f lambdas_of s) → (s : List Lexeme) → Below s
below_is lambdas s = record {
  contexts = λ f c w u o h l. contexts_law f c w u (slots_law c w u h o) h l;
  enters = entered_law;
  parameters = parameters_law;
  sound_is = typ_sound;
  parts = λ c w n u h k home. parts_law c w n u h home;
  objects = λ s c w t u h k o z. objects_law s c w t k o (λ q. z);
  types = λ before now way t k h. sound_more before now k way t h;
  bases = λ f a x n t p q es xs m free. bases_law f lambdas_of s (lambdas f s free) a x n t p q es xs m;
  defaults = defaults_stay;
  own = own_build;
  moves = lambdas_keep;
  made = defaults_made;
  strings = strings_build;
  builds = parts_build;
  built = parts_made_law;
  copies = parts_copied_fit;
  copied = copies_law;
  sources = source_stands;
  stays = stay_law;
  functions = function_fits;
  constructors = constructor_fits;
  destructors = destructor_fits;
  discipline = λ f free. a_discipline f lambdas_of s (lambdas f s free);
  bodies = λ f st ts free. bodies_fit f lambdas_of s st ts (lambdas f s free);
}
