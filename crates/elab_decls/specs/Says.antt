-- What the records of the code show, and what answers say.
use Rattle.std.specs.Prelude.{ℕ, zero, suc, pred, ℤ, Bool, true, false, not, ◌&&◌, ◌||◌, List, [], ◌∷◌, ◌++◌, length, Option, Some, None, Result, Ok, slice_get}
use Rattle.std.specs.Prelude.{slice_set, unwrap_or, if◌then◌else◌}
use Rattle.elab_expr.specs.tx_ints.declared.kinds.IntKind.TheVariants.{Int}
use Rattle.cpp_types.specs.Typ.{Typ, int}
use Rattle.cpp_types.specs.declared.classes.At.{At}
use Rattle.elab_expr.specs.cpp_tree.declared.program.Linkage.{Linkage}
use Rattle.elab_expr.specs.cpp_tree.declared.program.Linkage.TheVariants.{Internal, External}
use Rattle.elab_expr.specs.cpp_tree.declared.faults.ElabFault.{ElabFault}
use Rattle.elab_expr.specs.cpp_tree.declared.faults.IllRule.TheVariants.{Redeclared, BadDeclaration, OutOfProfile, Incomplete, NotConstant}
use Rattle.elab_expr.specs.cpp_tree.Units.{Cell}
use Rattle.elab_expr.specs.cpp_tree.Notation.{plain}
use Rattle.elab_expr.specs.elab_ctx.Ctx.{Ctx, Work, Enumerator, ctx_of, work_of}
use Rattle.cpp_types.specs.Class.{held}
use Rattle.elab_expr.specs.cpp_lex.Tokens.{Lexeme}
use Rattle.elab_expr.specs.cpp_ast.Trees as syntax
use Rattle.elab_expr.specs.elab_ctx.Steps.{and_then, check, Made}
use Rattle.elab_expr.specs.elab_ctx.declared.env.Env.{Env}
use Rattle.elab_expr.specs.elab_ctx.declared.env.Work.{Work as WorkRec}
use Rattle.elab_expr.specs.cpp_names.Names.{with_name}
use Rattle.elab_expr.specs.cpp_names.declared.entity.Entity.{Entity}
use Rattle.elab_expr.specs.cpp_names.declared.entity.EntityKind.TheVariants as entities
use Rattle.elab_expr.specs.elab_rules.Functions.{Storage, Header, Placed, dynamic_fits, may_be_c, name_declared, new_function}
use Rattle.elab_expr.specs.elab_rules.Statements.{State, Body}
use Rattle.elab_expr.specs.elab_rules.Objects.{element_of}
use Rattle.elab_expr.specs.elab_rules.Initialising.{class_number}
use Rattle.elab_expr.specs.elab_rules.Operators.{is_complete}
use Rattle.elab_expr.specs.elab_rules.Globals.{PlacedGlobal, Enumerating, new_global, no_global_storage, is_trivial_class, cells_of, global_object}
use Rattle.elab_braces.specs.Forms.{object_by}

-- what is known and made, beside bodies that a declaration leaves as they are
abbrev pub changed : Ctx → Work → List Body → State
changed c w bodies = record { ctx = c; work = w; bodies = bodies }

abbrev pub state_of : Env → WorkRec → List Body → State
state_of e w bodies = changed (ctx_of e) (work_of w) bodies

abbrev pub placed_in : Env → WorkRec → List Body → ℕ → PlacedGlobal
placed_in e w bodies g = record { state = state_of e w bodies; place = g }

abbrev pub linkage_by : Storage → Bool → Linkage
linkage_by x constant = if x.is_static then Internal else (if constant && not x.is_extern then Internal else External)

abbrev pub with_global : Work → List ℕ → Storage → Typ → Work
with_global w name x t = record w { globals = w.globals ++ new_global name x t ∷ [] }

-- the first bytes of a global, which is defined by them
abbrev pub with_cells : Work → ℕ → Typ → List Cell → Work
with_cells w g t cells = record w {
  globals = slice_set w.globals g
      (record (unwrap_or (slice_get w.globals g) (new_global [] no_global_storage t)) { init = cells; defined = true });
}

-- a name gets a meaning, unless it has one
abbrev pub declared_as : Option Entity → Ctx → List ℕ → Entity → Ctx
declared_as (Some old) c name e = c
declared_as None c name e = record c { scopes = with_name c.scopes name e }

-- Functions

-- the same header with the word `noexcept`, or without it
abbrev pub with_exceptions : Header → Bool → Header
with_exceptions h b = record h { qualifiers = record h.qualifiers { no_except = b } }

-- what the words of a declaration of a function have to fit
abbrev pub words_fit : Header → Result Bool ElabFault
words_fit h = and_then (check h.at BadDeclaration (not h.qualifiers.is_const))
    (λ b. and_then (dynamic_fits h) (λ d. check h.at OutOfProfile (not h.storage.is_c || may_be_c h)))

-- a function in its place
abbrev pub placed_at : Env → ℕ → Placed
placed_at e i = record { ctx = ctx_of e; place = i }

-- a function that was not declared before
abbrev pub newly_declared : Ctx → Header → Result Placed ElabFault
newly_declared c h = and_then (name_declared c h h.class)
    (λ (d : Ctx). Ok (record { ctx = record d { funcs = d.funcs ++ new_function h ∷ [] }; place = length d.funcs }))

-- Names of types

abbrev pub is_fresh_type : At → Option Typ → Result Bool ElabFault
is_fresh_type at (Some t) = check at Redeclared false
is_fresh_type at None = check at Redeclared true

-- Enumerators

abbrev pub counted : Ctx → Work → List Body → ℤ → Enumerating
counted c w bodies next = record { state = changed c w bodies; next = next }

abbrev pub more_enumerators : Ctx → List ℕ → ℕ → Ctx
more_enumerators c name w = record c {
  scopes = with_name c.scopes name (record { kind = entities.Enumerator; id = length c.enumerators });
  enumerators =
      c.enumerators ++ record { typ = plain (int Int); word = w } ∷ [];
}

abbrev pub named_again : Ctx → List ℕ → Ctx
named_again c name = record c { scopes = with_name c.scopes name (record { kind = entities.Enumerator; id = pred (length c.enumerators) }) }

abbrev pub with_names : Bool → Ctx → List ℕ → List ℕ → ℕ → Ctx
with_names true c name long w = more_enumerators c long w
with_names false c name long w = named_again (more_enumerators c name w) long

abbrev pub with_typ : List Enumerator → ℕ → Typ → List Enumerator
with_typ [] i t = []
with_typ (e ∷ es) zero t = record e { typ = t } ∷ es
with_typ (e ∷ es) (suc i) t = e ∷ with_typ es i t

-- Variables

abbrev pub definable : Ctx → Typ → At → Result Bool ElabFault
definable c t at = and_then (check at Incomplete (is_complete c (held t))) (λ x. check at NotConstant (is_trivial_class c (class_number (element_of t))))

-- the first bytes of a global behind its initialiser, with which globals may have been made; the frame is as before
abbrev pub celled : Ctx → ℕ → Typ → List Typ → Made → Result Work ElabFault
celled c g t frame m = and_then (cells_of c m.work m.tree) (λ cells. Ok (with_cells (record m.work { frame = frame }) g t cells))

abbrev pub global_made : List Lexeme → Ctx → Work → At → Typ → syntax.Trees → ℕ → Result Work ElabFault
global_made s c w at t init g = and_then (definable c t at)
    (λ x. and_then (object_by s c w (global_object g t at) t at init) (λ (m : Made). celled c g t w.frame m))
