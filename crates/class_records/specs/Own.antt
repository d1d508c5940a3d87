-- What the functions at some places of a list declare.
use Rattle.std.specs.Prelude.{ℕ, List, [], ◌∷◌, ◌++◌, Option, Some, None, slice_get}
use Rattle.cpp_types.specs.Class.{Function, function_of}
use Rattle.elab_init.specs.elab_ctx.declared.env.FuncDecl.{FuncDecl}

abbrev pub declared_in : Option FuncDecl → List Function
declared_in None = []
declared_in (Some f) = function_of f.rec ∷ []

abbrev pub declared_at : List FuncDecl → List ℕ → List Function
declared_at fs [] = []
declared_at fs (k ∷ ks) = declared_in (slice_get fs k) ++ declared_at fs ks
