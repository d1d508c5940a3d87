-- Initialisers of members, as they are kept (C++14 9.2 p5).
use Rattle.std.specs.Prelude.{◌≡◌, ℕ, Bool, true, false, List, drop, Some, is_some, slice_get, Ok}
use Rattle.elab_rules.specs.cpp_types.Typ.{Typ, typ, Form, int, enum, null, ptr, array, class}
use Rattle.elab_rules.specs.cpp_types.Class.{Member, completion_of}
use Rattle.elab_rules.specs.cpp_types.declared.classes.At.{At}
use Rattle.elab_rules.specs.cpp_lex.Tokens.{Lexeme}
use Rattle.elab_rules.specs.cpp_ast.Trees as syntax
use Rattle.elab_rules.specs.cpp_tree.declared.program.FuncKind.TheVariants.{Constructor}
use Rattle.elab_rules.specs.cpp_tree.Trees.{Tree}
use Rattle.elab_rules.specs.cpp_tree.Typing.{form_in, without_exception}
use Rattle.elab_rules.specs.cpp_tree.Parts.{size_in}
use Rattle.elab_rules.specs.cpp_tree.Units.{Func}
use Rattle.elab_rules.specs.cpp_tree.Rows.{Setting}
use Rattle.elab_rules.specs.elab_ctx.Ctx.{Ctx, Default}
use Rattle.elab_rules.specs.elab_ctx.Steps.{Made}
use Rattle.elab_rules.specs.Braces.{is_char_array, string_object}
use Rattle.elab_rules.specs.Members.{in_object, default_made}
use Rattle.elab_rules.specs.Names.{members_in}
use Rattle.elab_rules.specs.Statements.{State, Full, Lambdas, full, full_operand, copy_initialised}
use Rattle.elab_fits.specs.Standing.{BuildsOne, IsSetting}
use Rattle.elab_fits_statements.specs.Variables.{BuildsWhole}
use Rattle.elab_fits_braces.specs.Defaults.{AllDefaultsFit}
use Rattle.elab_fits_braces.specs.Moving.{DefaultFits}
use Rattle.elab_movable.specs.Movable.{KeepsThis}

-- the function in which an initialiser is made, with these items of its frame: as a constructor it has no result
abbrev pub inside : Setting → Func → List Typ → Setting
inside s f frame = record s { function = record f { kind = Constructor; frame = frame } }

-- what is kept
abbrev pub kept : ℕ → ℕ → Tree → List Typ → Default
kept n i e frame = record { class = n; member = i; init = e; frame = drop 1 frame }

-- what a member that is initialised by a value holds: a scalar or an object of a class that has a name
abbrev pub is_member_form : Form → Bool
is_member_form (int k) = true
is_member_form (enum n scoped) = true
is_member_form null = true
is_member_form (ptr t) = true
is_member_form (class n) = true
is_member_form f = false

abbrev pub is_member_typ : Typ → Bool
is_member_typ (typ (array t n) c v) = true
is_member_typ t = is_member_form (form_in (without_exception t))

-- an expression that builds the member in a function with only `this`, whatever it is, builds it wherever the initialiser stands
abbrev pub CopiesKept : Type 0
CopiesKept = (lams : Lambdas) → KeepsThis lams → (lexemes : List Lexeme) (s : Setting) (st : State) (n i : ℕ) (t : Typ) (e : syntax.Tree) (f : Full) (m : Made)
    → full_operand lams lexemes (in_object st n) e ≡ Ok f → copy_initialised f.state.ctx f.state.work t f.operand ≡ Ok m → is_member_typ t ≡ true
    → ((g : Func) → BuildsWhole (inside s g m.work.frame) t m.tree) → (g : Func)
    → DefaultFits (record s { function = g }) t (kept n i (full f.operand.at m.tree) m.work.frame)

-- and so does a string
abbrev pub StringsKept : Type 0
StringsKept = (s : Setting) (c : Ctx) (st : State) (n i : ℕ) (t : Typ) (at : At) (bytes : List ℕ) (x : Tree) → IsSetting s c
    → is_some (size_in c.classes t) ≡ true → is_char_array t ≡ true → string_object c t at bytes ≡ Ok x → (g : Func)
    → DefaultFits (record s { function = g }) t (kept n i x (in_object st n).work.frame)

-- What a context keeps

-- the member of a complete class that an initialiser is made for
pub record IsMemberOf (s : Setting) (n i : ℕ) (t : Typ) : Type 0 where
  pub complete : is_some (completion_of s.classes n) ≡ true
  pub member : Member
  pub at : slice_get (members_in (slice_get s.classes n)) i ≡ Some member
  pub typed : member.typ ≡ t

-- what initialises it builds it in the function of its own, in the setting behind it, whatever else is known of the function
pub record ValuesBuild (lams : Lambdas) (lexemes : List Lexeme) (s : Setting) (st : State) (n : ℕ) (t : Typ) (e : syntax.Tree) : Type 0 where
  pub strings : (at : At) (bytes : List ℕ) (x : Tree) → is_char_array t ≡ true → string_object (in_object st n).ctx t at bytes ≡ Ok x → (g : Func)
      → BuildsOne (inside s g (in_object st n).work.frame) t x
  pub copies : (f : Full) (m : Made) → full_operand lams lexemes (in_object st n) e ≡ Ok f
      → copy_initialised f.state.ctx f.state.work t f.operand ≡ Ok m → (g : Func) → BuildsWhole (inside s g m.work.frame) t m.tree

-- behind the initialiser of a member, all initialisers fit that the context has, where those before fit in the setting behind it
abbrev pub DefaultsMade : Type 0
DefaultsMade = (lams : Lambdas) → KeepsThis lams → (lexemes : List Lexeme) (s : Setting) (st : State) (n i : ℕ) (t : Typ) (e : syntax.Tree) (y : State)
    → is_member_typ t ≡ true → IsMemberOf s n i t → AllDefaultsFit s st.ctx.defaults → ValuesBuild lams lexemes s st n t e
    → default_made lams lexemes st n i t e ≡ Ok y → AllDefaultsFit s y.ctx.defaults
