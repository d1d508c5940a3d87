-- What a context holds, it holds behind an expression.
use Rattle.std.proofs.Common.{ℕ, List}
use Rattle.elab_rules.specs.cpp_types.Typ.{Typ}
use Rattle.elab_rules.specs.cpp_types.Class.{Class}
use Rattle.elab_rules.specs.cpp_tree.Rows.{Setting}
use Rattle.elab_rules.specs.elab_ctx.Ctx.{Ctx, Work, This}
use Rattle.elab_fits.specs.Standing.{Reaches}
use Rattle.elab_fits_forms.specs.Context.{IsVariable, IsThis, Holds}
use Rattle.elab_fits_expressions.specs.Growing.{Behind}

variable_kept : (classes : List Class) (a b : Work) (place : ℕ) (t : Typ) → Behind a b → IsVariable classes a place t → IsVariable classes b place t
variable_kept classes a b place t k h = record { declared = h.declared; item = h.item; at = k.frame place h.item h.at; is = h.is }

this_kept : (classes : List Class) (a b : Work) (t : This) → Behind a b → IsThis classes a t → IsThis classes b t
this_kept classes a b t k h = record { object = h.object; sound = h.sound; at = k.frame t.place _ h.at }

pub held : (s : Setting) (c : Ctx) (a b : Work) → Behind a b → Holds s c a → Holds s c b
held s c a b k h = record {
  setting = h.setting;
  makers = h.makers;
  variables = λ i v t o g e. variable_kept c.classes a b v.place t k (h.variables i v t o g e);
  this = λ t e. this_kept c.classes a b t k (h.this t e);
  inside = h.inside;
  lambda = h.lambda;
  captures = h.captures;
  globals = k.objects c.classes h.globals;
  enumerators = h.enumerators;
  functions = h.functions;
  fields = h.fields;
  complete = h.complete;
  types = h.types;
  lambdas = h.lambdas;
  assignable = h.assignable;
  copyable = h.copyable;
}

pub reached : (s : Setting) (a b : Work) → Behind a b → Reaches s b → Reaches s a
reached s a b k r = record { frame = λ i t h. r.frame i t (k.frame i t h); globals = λ i g h. r.globals i g (k.globals i g h) }
