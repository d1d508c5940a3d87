-- Comparisons, where an operand is no pointer.
use Rattle.std.proofs.Common.{◌≡◌, ◌&&◌, Bool, true, false, Option, Some, None, Result, refl}
use Rattle.elab_conv.specs.tx_ints.declared.kinds.BinOp.{BinOp}
use Rattle.elab_conv.specs.cpp_types.Typ.{Typ, Form, void, int, enum, null, ptr, ref, array, func, class, closure, tx_ex}
use Rattle.elab_conv.specs.cpp_types.declared.classes.At.{At}
use Rattle.elab_conv.specs.elab_ctx.Steps.{Operand}
use Rattle.elab_conv.specs.elab_rules.Operators.{pointed, comparison_in}
use Rattle.elab_ops.specs.Forms.{with_null, null_with, scalars_compared}

pub with_null_is : (op : BinOp) (at : At) (t : Typ) (f : Form) (a b : Operand) → pointed f ≡ None → comparison_in op at (ptr t) f a b ≡ with_null op at t a b
with_null_is op at t (ptr u) a b h = absurd cc
with_null_is op at t f a b h = refl

pub null_with_is : (op : BinOp) (at : At) (t : Typ) (f : Form) (a b : Operand) → pointed f ≡ None → comparison_in op at f (ptr t) a b ≡ null_with op at t a b
null_with_is op at t (ptr u) a b h = absurd cc
null_with_is op at t f a b h = refl

pub scalars_are : (op : BinOp) (at : At) (f g : Form) (a b : Operand) → pointed f ≡ None → pointed g ≡ None
    → comparison_in op at f g a b ≡ scalars_compared op at f g a b
scalars_are op at (ptr t) g a b h k = absurd cc
scalars_are op at f (ptr u) a b h k = absurd cc
scalars_are op at (enum m true) g a b h k = refl
scalars_are op at (enum m false) g a b h k = refl
scalars_are op at f g a b h k = refl

pub null_with_form : (op : BinOp) (at : At) (t : Typ) (f g : Form) (a b : Operand) → pointed f ≡ None → pointed g ≡ Some t
    → comparison_in op at f g a b ≡ null_with op at t a b
null_with_form op at t (ptr u) g a b h k = absurd cc
null_with_form op at t f (ptr u) a b h k = let e : u ≡ t = cc in rw e refl
null_with_form op at t f g a b h k = absurd cc
