use Rattle.std.proofs.Common.{refl}
use Rattle.cpp_ast.specs.Shapes.{nothing, the_one, missing, present, no_more, one_more, first}
use Rattle.cpp_ast.proofs.laws.examples.Goals as goal

pub returns-clause-shaped : goal.returns-clause-shaped
returns-clause-shaped c = (
  (
    refl,
    missing (no_more (the_one refl (the_one refl (no_more (the_one refl nothing))))),
    (
      (refl, no_more (first refl (no_more (no_more nothing))), ((refl, nothing, tt), tt)),
      (
        (
          refl,
          the_one refl (the_one refl (the_one refl nothing)),
          ((refl, nothing, tt), ((refl, no_more nothing, tt), ((refl, missing (missing (missing nothing)), tt), tt))),
        ),
        (
          (
            refl,
            one_more refl (no_more nothing),
            ((refl, present refl nothing, ((refl, the_one refl nothing, ((refl, nothing, tt), tt)), tt)), tt),
          ),
          tt,
        ),
      ),
    ),
  ),
  tt,
)
