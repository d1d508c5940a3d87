-- What an expression names, where it is called or taken as a value.
use Rattle.std.specs.Prelude.{Result, Ok, Err}
use Rattle.elab_conv.specs.cpp_types.Typ.{Typ, typ, void}
use Rattle.elab_conv.specs.cpp_types.declared.ranks.Cat.{Cat}
use Rattle.elab_conv.specs.cpp_types.declared.ranks.Cat.TheVariants.{Lvalue}
use Rattle.elab_conv.specs.cpp_tree.declared.kinds.TKind.{TKind}
use Rattle.elab_conv.specs.cpp_tree.declared.kinds.TKind.TheVariants.{Function, Default, Builtin}
use Rattle.elab_conv.specs.cpp_tree.declared.faults.ElabFault.{ElabFault}
use Rattle.elab_conv.specs.cpp_tree.declared.faults.ElabFault.TheVariants.{Ill}
use Rattle.elab_conv.specs.cpp_tree.declared.faults.IllRule.TheVariants.{OutOfProfile, BadOperand}
use Rattle.elab_conv.specs.cpp_tree.Trees.{Tree, kind_of, typ_in, cat_of, kids_of}
use Rattle.elab_conv.specs.elab_ctx.Ctx.{Ctx}
use Rattle.elab_conv.specs.elab_ctx.Says.{place_in}
use Rattle.elab_conv.specs.elab_rules.Names.{resolved_function}
use Rattle.elab_names.specs.declared.resolving.Callee.{Callee}
use Rattle.elab_names.specs.declared.resolving.Callee.TheVariants.{Functions, Get, Known, Value}

abbrev pub callee_in : TKind → Typ → Cat → Callee
callee_in (Function k) (typ void d v) Lvalue = Functions k
callee_in Default t cat = Get
callee_in (Builtin b) (typ void d v) Lvalue = Known b
callee_in kind t cat = Value

abbrev pub callee_at : Tree → Callee
callee_at t = callee_in (kind_of t) (typ_in t) (cat_of t)

-- an expression by what it names
abbrev pub resolved_by : Ctx → Callee → Tree → Result Tree ElabFault
resolved_by c (Functions k) t = resolved_function c (place_in t) k (kids_of t)
resolved_by c Get t = Err (Ill (place_in t) BadOperand)
resolved_by c (Known b) t = Err (Ill (place_in t) OutOfProfile)
resolved_by c Value t = Ok t
