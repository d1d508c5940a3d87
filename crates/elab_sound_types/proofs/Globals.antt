-- What is made beside the trees keeps the types of globals sound: strings alone are added.
use Rattle.std.proofs.Common.{◌≡◌, refl, ◌∙◌, ℕ, true, ◌&&◌, List, [], ◌∷◌, ◌++◌, Result}
use Rattle.std.specs.List.{list_all}
use Rattle.std.proofs.lemmas.Bool.{and_from}
use Rattle.std.proofs.lemmas.List.Folds.{list_all-append}
use Rattle.elab_rules.specs.cpp_types.Typ.{Typ}
use Rattle.elab_rules.specs.cpp_types.Class.{Class}
use Rattle.elab_rules.specs.cpp_types.declared.classes.At.{At}
use Rattle.elab_rules.specs.cpp_lex.Tokens.{Lexeme}
use Rattle.elab_rules.specs.cpp_ast.Trees as syntax
use Rattle.elab_rules.specs.cpp_tree.declared.faults.ElabFault.{ElabFault}
use Rattle.elab_rules.specs.cpp_tree.Units.{Global}
use Rattle.elab_rules.specs.elab_ctx.Ctx.{Ctx, Work, Closure, with_item}
use Rattle.elab_rules.specs.elab_ctx.Steps.{and_then, Operand, Made, MadeAll, Typed}
use Rattle.elab_rules.specs.Initialising
use Rattle.elab_rules.specs.Operators
use Rattle.elab_rules.specs.Casts.{string_global}
use Rattle.elab_rules.specs.Expressions
use Rattle.elab_fits.specs.Standing.{On}
use Rattle.elab_sound_types.specs.Contexts.{is_sound_global, are_sound_globals}
use Rattle.elab_fits.proofs.Growing as growing

-- Globals with sound types stay, and those that are added have such

pub record Behind (a b : Work) : Type 0 where
  pub kept : (cs : List Class) → are_sound_globals cs a ≡ true → are_sound_globals cs b ≡ true

pub same : (w : Work) → Behind w w
same w = record { kept = λ cs h. h }

pub after : {a b c : Work} → Behind a b → Behind b c → Behind a c
after {a} {b} {c} h g = record { kept = λ cs x. g.kept cs (h.kept cs x) }

one_item : (w : Work) (t : Typ) → Behind w (with_item w t)
one_item w t = record { kept = λ cs h. h }

one_text : (w : Work) (at : At) (bytes : List ℕ) → Behind w (record w { globals = w.globals ++ string_global at bytes ∷ [] })
one_text w at bytes = let g : Global = string_global at bytes in record {
  kept = λ cs h. list_all-append (is_sound_global cs) w.globals (g ∷ []) ∙ and_from (list_all (is_sound_global cs) w.globals) (is_sound_global cs g && true) h
      (and_from (is_sound_global cs g) true refl refl);
}

growth : growing.Growth Behind
growth = record { same = same; after = λ a b c h g. after h g; one_item = one_item; one_text = one_text }

-- What is answered, if it is no fault

abbrev pub made : Work → Made → Type 0
made w m = Behind w m.work

abbrev pub all_made : Work → MadeAll → Type 0
all_made w m = Behind w m.work

abbrev pub typed : Work → Typed → Type 0
typed w x = Behind w x.work

-- what stands behind something stands behind what that stands behind
pub moved : (w x : Work) (r : Result Made ElabFault) → Behind w x → On (made x) r → On (made w) r
moved = growing.moved Behind growth

pub initial : (c : Ctx) (w : Work) (t : Typ) (o : Operand) → On (made w) (Initialising.initial c w t o)
initial = growing.initial Behind growth

pub class_from : (c : Ctx) (w : Work) (t : Typ) (at : At) (o : Operand) → On (made w) (Initialising.class_from c w t at o)
class_from = growing.class_from Behind growth

pub scalar_from : (c : Ctx) (w : Work) (t : Typ) (o : Operand) → On (made w) (Initialising.scalar_from c w t o)
scalar_from = growing.scalar_from Behind growth

pub from_values : (c : Ctx) (w : Work) (t : Typ) (at : At) (os : List Operand) → On (made w) (Initialising.from_values c w t at os)
from_values = growing.from_values Behind growth

pub dropped : (c : Ctx) (w : Work) (o : Operand) → Behind w (Operators.dropped c w o).work
dropped = growing.dropped Behind growth

pub chosen : (c : Ctx) (w : Work) (r : Result Typed ElabFault) → On (typed w) r → On (typed w) (and_then r (Expressions.chosen_operand c))
chosen = growing.chosen Behind growth

pub expression : (s : List Lexeme) (c : Ctx) (l : List Closure) (w : Work) (e : syntax.Tree) → On (typed w) (Expressions.expression_with s c l w e)
expression = growing.expression Behind growth
