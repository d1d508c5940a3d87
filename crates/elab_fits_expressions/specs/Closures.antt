-- Objects of lambdas, as a full-expression makes them (C++14 5.1.2).
use Rattle.std.specs.Prelude.{List}
use Rattle.elab_rules.specs.cpp_tree.Rows.{Setting}
use Rattle.elab_rules.specs.cpp_types.declared.classes.At.{At}
use Rattle.elab_rules.specs.elab_ctx.Ctx.{Ctx, Work, Closure}
use Rattle.elab_rules.specs.Expressions.{closure_object}
use Rattle.elab_fits.specs.Standing.{On}
use Rattle.elab_fits_forms.specs.Context.{Holds}
use Rattle.elab_fits_forms.specs.Forms.{MadeStands}
use Rattle.elab_fits_forms.specs.Expressions.{ClosuresHold}

-- objects of lambdas that were made before the full-expression stand
abbrev pub ClosuresStand : Type 0
ClosuresStand = (s : Setting) (c : Ctx) (l : List Closure) (w : Work) (at : At) → Holds s c w → ClosuresHold c l → On (MadeStands s c) (closure_object c l w at)
