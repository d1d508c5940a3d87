-- Variables, results and handlers add whole items alone.
use Rattle.std.proofs.Common.{◌≡◌, refl, ℕ, Bool, true, false, List, [], ◌∷◌, Option, Some, None}
use Rattle.std.specs.Prelude.{if◌then◌else◌}
use Rattle.elab_rules.specs.cpp_types.Typ.{Typ, typ, Form, void, int, enum, null, ptr, ref, array, func, class, closure, tx_ex}
use Rattle.elab_rules.specs.cpp_types.Class.{held, held_form}
use Rattle.elab_rules.specs.cpp_types.declared.classes.At.{At}
use Rattle.elab_rules.specs.cpp_lex.Tokens.{Lexeme}
use Rattle.elab_rules.specs.cpp_tree.declared.faults.IllRule.{IllRule}
use Rattle.elab_rules.specs.cpp_tree.declared.faults.IllRule.TheVariants.{OutOfProfile, Incomplete, BadReturn}
use Rattle.elab_rules.specs.cpp_tree.Typing.{is_class_typ, is_void}
use Rattle.elab_rules.specs.cpp_tree.WellFormed.{is_item}
use Rattle.elab_rules.specs.cpp_tree.Trees.{typ_in, one}
use Rattle.elab_rules.specs.elab_ctx.Ctx.{Ctx, Work}
use Rattle.elab_rules.specs.elab_ctx.Steps.{and_then, check, Operand, Made}
use Rattle.elab_rules.specs.Initialising
use Rattle.elab_rules.specs.Initialising.{conversion}
use Rattle.elab_rules.specs.Operators.{is_complete}
use Rattle.elab_rules.specs.Casts.{within_exception}
use Rattle.elab_rules.specs.Statements
use Rattle.elab_rules.specs.Statements.{State, Done, done, Full, Caught, full, with_work, class_returned, return_node, result_of}
use Rattle.elab_places.proofs.Steps.{On, bind, skip, either}
use Rattle.elab_frame_items.specs.Items.{IsWhole, AllWhole, FunctionsWhole}
use Rattle.elab_frame_items.proofs.Objects.{Adds, same, one_item, Mades, initial, class_from, scalar_from, from_values}

-- Initialisers

bound_reference : (c : Ctx) (w : Work) (t : Typ) (o : Operand) → IsWhole c.classes o.tree → On (Mades c.classes w) (Statements.bound_reference c w t o)
bound_reference c w t o h = skip (Mades c.classes w) (check o.at OutOfProfile (Statements.is_lasting (conversion c t o) o)) _ (λ y. scalar_from c w t o h)

by_value : (c : Ctx) (w : Work) (t : Typ) (o : Operand) → IsWhole c.classes o.tree
    → On (Mades c.classes w) (if is_class_typ t then Initialising.class_from c w t o.at o else Initialising.scalar_from c w t o)
by_value c w t o h = either (Mades c.classes w) (is_class_typ t) _ _ (class_from c w t o.at o h) (scalar_from c w t o h)

pub copy_initialised : (c : Ctx) (w : Work) (t : Typ) (o : Operand) → IsWhole c.classes o.tree → On (Mades c.classes w) (Statements.copy_initialised c w t o)
copy_initialised c w (typ (ref t) d v) o h = bound_reference c w (typ (ref t) d v) o h
copy_initialised c w (typ (array e n) d v) o h = tt
copy_initialised c w t o h = by_value c w t o h

pub directly_initialised : (c : Ctx) (w : Work) (t : Typ) (at : At) (os : List Operand) → FunctionsWhole c.classes c.funcs → AllWhole c.classes os
    → On (Mades c.classes w) (Statements.directly_initialised c w t at os)
directly_initialised c w (typ (ref t) d v) at (o ∷ []) q h = bound_reference c w (typ (ref t) d v) o h.0
directly_initialised c w t at os q h = from_values c w t at os q h

-- Variables

complete_held : (c : Ctx) (f : Form) → is_complete c (held_form f) ≡ true → is_item c.classes (typ f false false) ≡ true
complete_held c void h = refl
complete_held c (int k) h = refl
complete_held c (enum n b) h = refl
complete_held c null h = refl
complete_held c (ptr t) h = refl
complete_held c (ref t) h = refl
complete_held c (func g) h = refl
complete_held c (class n) h = h
complete_held c (closure n) h = h
complete_held c (array (typ f d v) n) h = complete_held c f h
complete_held c (tx_ex (typ f d v)) h = complete_held c f h

pub complete_typ : (c : Ctx) (t : Typ) → is_complete c (held t) ≡ true → is_item c.classes t ≡ true
complete_typ c (typ f d v) h = complete_held c f h

saying : (P : Type 0) (at : At) (rule : IllRule) (b : Bool) → (b ≡ true → P) → On (λ (y : Bool). P) (check at rule b)
saying P at rule true f = f refl
saying P at rule false f = tt

other : (c : Ctx) (at : At) (f : Form) (d v : Bool) → On (λ (b : Bool). is_item c.classes (typ f d v) ≡ true) (check at Incomplete (is_complete c (held (typ f d v))))
other c at f d v = saying (is_item c.classes (typ f d v) ≡ true) at Incomplete (is_complete c (held_form f)) (λ e. complete_held c f e)

-- a type of which a variable may be declared
pub declarable : (c : Ctx) (at : At) (t : Typ) → On (λ (b : Bool). is_item c.classes t ≡ true) (Statements.declarable c at t)
declarable c at (typ void d v) = tt
declarable c at (typ (func g) d v) = tt
declarable c at (typ f d v) = other c at f d v

pub placed : (st : State) (name : List ℕ) (t : Typ) → is_item st.ctx.classes t ≡ true → Adds st.ctx.classes st.work (Statements.placed_variable st name t).work
placed st name t h = one_item st.ctx.classes st.work t h

-- Results

abbrev Given : Full → Made → Type 0
Given f m = Adds f.state.ctx.classes f.state.work m.work

abbrev Returned : Full → Done → Type 0
Returned f d = Adds f.state.ctx.classes f.state.work d.state.work

class_or_value : (at : At) (t : Typ) (f : Full) → IsWhole f.state.ctx.classes f.operand.tree → On (Returned f)
    (if is_class_typ t then and_then (Initialising.class_from f.state.ctx f.state.work t f.operand.at f.operand)
    (λ (m : Made). done (one (class_returned at t f m)) (with_work f.state m.work)) else and_then (Initialising.initial f.state.ctx f.state.work t f.operand)
    (λ (m : Made). done (one (return_node at (one (full f.operand.at (result_of t f.operand.at m.tree))))) (with_work f.state m.work)))
class_or_value at t f h = either (Returned f) (is_class_typ t) _ _
    (bind (Given f) (Returned f) (Initialising.class_from f.state.ctx f.state.work t f.operand.at f.operand) _
    (class_from f.state.ctx f.state.work t f.operand.at f.operand h) (λ m g. g))
    (bind (Given f) (Returned f) (Initialising.initial f.state.ctx f.state.work t f.operand) _ (initial f.state.ctx f.state.work t f.operand h) (λ m g. g))

pub return_value : (at : At) (t : Typ) (f : Full) → IsWhole f.state.ctx.classes f.operand.tree → On (Returned f) (Statements.return_value at t f)
return_value at (typ void d v) f h = skip (Returned f) (check at BadReturn (is_void (typ_in f.operand.tree))) _ (λ y. same f.state.ctx.classes f.state.work)
return_value at t f h = class_or_value at t f h

-- Handlers: what is caught is whole

pub named_handler : (s : List Lexeme) (st : State) (at p : At) (t u : Typ) (o : Option ℕ) → is_item st.ctx.classes u ≡ true
    → On (λ (h : Caught). Adds st.ctx.classes st.work h.state.work) (Statements.named_handler s st at p t u o)
named_handler s st at p t u (Some n) h = skip (λ (x : Caught). Adds st.ctx.classes st.work x.state.work) (within_exception st.ctx p u) _ (λ y. one_item st.ctx.classes st.work u h)
named_handler s st at p t u None h = same st.ctx.classes st.work
