-- A body begins with whole items: the words of its call.
use Rattle.std.proofs.Common.{◌≡◌, refl, ℕ, Bool, true, false, List, [], ◌∷◌, Option, Some, None}
use Rattle.std.specs.Prelude.{if◌then◌else◌}
use Rattle.std.specs.List.{list_all}
use Rattle.elab_rules.specs.cpp_types.Typ.{Typ, ptr}
use Rattle.elab_rules.specs.cpp_types.Class.{Class, held}
use Rattle.elab_rules.specs.cpp_lex.Tokens.{Lexeme}
use Rattle.elab_rules.specs.cpp_tree.declared.faults.IllRule.TheVariants.{Incomplete, Redeclared}
use Rattle.elab_rules.specs.cpp_tree.Notation.{plain}
use Rattle.elab_rules.specs.cpp_tree.Typing.{is_class_typ}
use Rattle.elab_rules.specs.cpp_tree.WellFormed.{is_item}
use Rattle.elab_rules.specs.elab_ctx.Steps.{check, spelling}
use Rattle.elab_rules.specs.Types.{Parameter}
use Rattle.elab_rules.specs.Operators.{is_complete}
use Rattle.elab_rules.specs.Statements.{State, is_fresh}
use Rattle.elab_rules.specs.Functions.{word_item, result_items, this_items, entered, with_parameters, parameter_named}
use Rattle.elab_places.proofs.Steps.{On, bind, skip}
use Rattle.elab_places.proofs.Walks.{checked}
use Rattle.elab_frame_items.specs.Items.{AreWhole}
use Rattle.elab_frame_items.proofs.Objects.{one_more}
use Rattle.elab_frame_items.proofs.Braces.{all_more}
use Rattle.elab_frame_items.proofs.Variables.{complete_typ}

abbrev pub StateWhole : State → Type 0
StateWhole st = AreWhole st.ctx.classes st.work

-- Into a body

result_whole : (classes : List Class) (r : Typ) (b : Bool) → list_all (is_item classes) (if b then plain (ptr r) ∷ [] else []) ≡ true
result_whole classes r true = refl
result_whole classes r false = refl

this_whole : (classes : List Class) (o : Option Typ) → list_all (is_item classes) (this_items o) ≡ true
this_whole classes (Some t) = refl
this_whole classes None = refl

pub entered_whole : (st : State) (r : Typ) (this : Option Typ) (cls : Option ℕ) → StateWhole (entered st r this cls)
entered_whole st r this cls = all_more (is_item st.ctx.classes) (result_items r) (this_items this) (result_whole st.ctx.classes r (is_class_typ r))
    (this_whole st.ctx.classes this)

-- Parameters

word_whole : (classes : List Class) (t : Typ) (b : Bool) → is_item classes t ≡ true → is_item classes (if b then plain (ptr t) else t) ≡ true
word_whole classes t true h = refl
word_whole classes t false h = h

named_whole : (s : List Lexeme) (st : State) (p : Parameter) (o : Option ℕ) → is_item st.ctx.classes p.typ ≡ true → StateWhole st
    → On StateWhole (parameter_named s st p o)
named_whole s st p (Some n) i h = skip StateWhole (check p.at Redeclared (is_fresh st.ctx (spelling s n))) _
    (λ y. one_more (is_item st.ctx.classes) st.work.frame (word_item p.typ) h (word_whole st.ctx.classes p.typ (is_class_typ p.typ) i))
named_whole s st p None i h = one_more (is_item st.ctx.classes) st.work.frame (word_item p.typ) h (word_whole st.ctx.classes p.typ (is_class_typ p.typ) i)

pub parameters_whole : (s : List Lexeme) (st : State) (ps : List Parameter) → StateWhole st → On StateWhole (with_parameters s st ps)
parameters_whole s st [] h = h
parameters_whole s st (p ∷ ps) h = checked StateWhole p.at Incomplete (is_complete st.ctx (held p.typ)) _
    (λ e. bind StateWhole StateWhole (parameter_named s st p p.name) _ (named_whole s st p p.name (complete_typ st.ctx p.typ e) h)
    (λ x i. parameters_whole s x ps i))
