use Rattle.std.proofs.Common.{option_map, refl}
use Rattle.cpp_types.specs.Typ.{typ_of}
use Rattle.elab_implicit.proofs.Implying.{constructor_one}
use Rattle.elab_implicit.proofs.implicit.constructor_inside.Goals as goal

pub returns : goal.returns
returns c = constructor_one c.args.st.now _ _ c.args.at c.args.class
    (option_map typ_of c.args.param.now) _ _ _ c.in_ok-parts.ensures c.new.ensures.items c.in_ok-made.ensures refl
