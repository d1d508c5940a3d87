-- Places of the frame that initialisers, statements and bodies have.
use Rattle.std.specs.Prelude.{◌≡◌, suc, List, [], ◌∷◌, length, false, Ok}
use Rattle.elab_rules.specs.cpp_types.Typ.{Typ}
use Rattle.elab_rules.specs.cpp_lex.Tokens.{Lexeme}
use Rattle.elab_rules.specs.cpp_ast.Trees as syntax
use Rattle.elab_rules.specs.cpp_tree.Trees.{Tree}
use Rattle.elab_rules.specs.cpp_tree.WellFormed.{places_of}
use Rattle.elab_rules.specs.elab_ctx.Ctx.{Ctx, Work, Default}
use Rattle.elab_rules.specs.elab_ctx.Steps.{Made}
use Rattle.elab_rules.specs.Braces.{item_of}
use Rattle.elab_rules.specs.Statements.{State, Done, Lambdas, statement_of, statements_of, handlers_of}
use Rattle.elab_places.specs.Places.{Owned, Owns, AllOwn, declares}

-- Default member initialisers

-- the initialiser that is kept for a member owns the items of its own frame, which stand behind `this` in place 0, and declares nothing
pub record DefaultOwns (d : Default) : Type 0 where
  pub owns : Owned 1 (suc (length d.frame)) (places_of d.init)
  pub plain : declares d.init ≡ false

abbrev pub DefaultsOwn : List Default → Type 0
DefaultsOwn [] = Unit {0}
DefaultsOwn (d ∷ ds) = DefaultOwns d × DefaultsOwn ds

-- Statements

pub record FrameKept (old new : State) : Type 0 where
  pub frame : new.work.frame ≡ old.work.frame
  pub defaults : new.ctx.defaults ≡ old.ctx.defaults

-- whatever makes the lambdas of a full-expression leaves the frame, and the initialisers of members, as they are
pub record LeavesFrame (lams : Lambdas) : Type 0 where
  pub each : (s : List Lexeme) (st : State) (t : syntax.Tree) (x : State) → lams s st t ≡ Ok x → FrameKept st x

abbrev pub StatementsOwn : Type 0
StatementsOwn = (lams : Lambdas) → LeavesFrame lams → (s : List Lexeme) (st : State) (t : syntax.Tree) (d : Done) → DefaultsOwn st.ctx.defaults
    → statement_of lams s st t ≡ Ok d → AllOwn st.work d.state.work d.trees

abbrev pub BlocksOwn : Type 0
BlocksOwn = (lams : Lambdas) → LeavesFrame lams → (s : List Lexeme) (st : State) (ts : syntax.Trees) (d : Done) → DefaultsOwn st.ctx.defaults
    → statements_of lams s st ts ≡ Ok d → AllOwn st.work d.state.work d.trees

abbrev pub HandlersOwn : Type 0
HandlersOwn = (lams : Lambdas) → LeavesFrame lams → (s : List Lexeme) (st : State) (hs : syntax.Trees) (d : Done) → DefaultsOwn st.ctx.defaults
    → handlers_of lams s st hs ≡ Ok d → AllOwn st.work d.state.work d.trees

-- an item of braces, for an object that is told by a tree without places
abbrev pub ItemsOwn : Type 0
ItemsOwn = (s : List Lexeme) (c : Ctx) (w : Work) (object : Tree) (t : Typ) (x : syntax.Tree) (m : Made) → DefaultsOwn c.defaults
    → places_of object ≡ [] → item_of s c w object t x ≡ Ok m → Owns w m.work m.tree
