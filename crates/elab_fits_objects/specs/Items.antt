-- An item of a list in braces, which is an expression (C++14 8.5.4).
use Rattle.std.specs.Prelude.{ℕ, Bool}
use Rattle.elab_rules.specs.cpp_types.Typ.{Typ}
use Rattle.elab_rules.specs.cpp_tree.Typing.{form_in}
use Rattle.elab_rules.specs.cpp_tree.Rows.{Setting}
use Rattle.elab_rules.specs.elab_ctx.Ctx.{Ctx, Work}
use Rattle.elab_rules.specs.elab_ctx.Steps.{Operand, Made}
use Rattle.elab_rules.specs.Braces.{item_in}
use Rattle.elab_fits.specs.Standing.{IsSetting, Reaches, On}
use Rattle.elab_fits_objects.specs.Contexts.{IsInitialised, HasMakers, IsSource}
use Rattle.elab_fits_objects.specs.Making.{Makes}

abbrev pub ItemsBuild : Type 0
ItemsBuild = (s : Setting) (c : Ctx) (lambda : ℕ → Bool) (w : Work) (t : Typ) (o : Operand) → IsSetting s c → HasMakers c lambda → IsSource s c lambda o
    → IsInitialised c lambda t → On (λ (m : Made). Reaches s m.work → Makes s t m.tree) (item_in c w t (form_in t) o)
