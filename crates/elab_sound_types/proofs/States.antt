-- Sound states: what is known and made, where a statement stands, and with variables more.
use Rattle.std.proofs.Common.{◌≡◌, refl, ◌∙◌, ℕ, zero, suc, Bool, true, false, List, [], ◌∷◌, ◌++◌, Option, Result, Ok, Err}
use Rattle.std.specs.Prelude.{slice_set}
use Rattle.std.specs.List.{list_all}
use Rattle.std.proofs.lemmas.Bool.{and_parts}
use Rattle.std.proofs.lemmas.List.Folds.{list_all-append}
use Rattle.elab_rules.specs.cpp_types.Typ.{Typ, typ, void, int, enum, null, ptr, ref, array, func, class, closure, tx_ex}
use Rattle.elab_rules.specs.cpp_types.Class.{Class, held}
use Rattle.elab_rules.specs.cpp_types.declared.classes.At.{At}
use Rattle.elab_rules.specs.cpp_lex.Tokens.{Lexeme}
use Rattle.elab_rules.specs.cpp_ast.declared.arena.At.{At as SyntaxAt}
use Rattle.elab_rules.specs.cpp_ast.declared.kinds.NodeKind.{NodeKind}
use Rattle.elab_rules.specs.cpp_ast.declared.kinds.NodeKind.TheVariants as k
use Rattle.elab_rules.specs.cpp_ast.Trees as syntax
use Rattle.elab_rules.specs.cpp_names.Names.{Names}
use Rattle.elab_rules.specs.cpp_tree.declared.faults.ElabFault.{ElabFault}
use Rattle.elab_rules.specs.cpp_tree.declared.faults.IllRule.{IllRule}
use Rattle.elab_rules.specs.cpp_tree.declared.faults.IllRule.TheVariants.{Incomplete}
use Rattle.elab_rules.specs.cpp_tree.Typing.{form_in, is_void}
use Rattle.elab_rules.specs.elab_ctx.declared.env.Label.{Label}
use Rattle.elab_rules.specs.elab_ctx.Ctx.{Ctx, Work, Labels, Variable}
use Rattle.elab_rules.specs.elab_ctx.Steps.{check, Made}
use Rattle.elab_rules.specs.Operators.{is_complete}
use Rattle.elab_rules.specs.Types.{is_function_form, is_bounded}
use Rattle.elab_rules.specs.Braces.{string_token}
use Rattle.elab_rules.specs.Statements as statements
use Rattle.elab_rules.specs.Statements.{State, Done, Full, Lambdas, Deduction, Declaring, Caught, Switched, with_work, full_operand, full_made, inner, in_loop, in_block}
use Rattle.elab_rules.specs.Statements.{in_switch, outer, declared_variable, placed_variable, auto_placed, with_labels, past_declaration, replaced}
use Rattle.elab_fits.specs.Standing.{On}
use Rattle.elab_fits.proofs.Steps.{bind}
use Rattle.elab_sound_types.specs.Types.{variable, declared, is_sound, IsExpression}
use Rattle.elab_sound_types.specs.Contexts.{HasSoundTypes, is_sound_known, is_sound_variable, is_spelled, are_spelled}
use Rattle.elab_sound_types.specs.States.{IsSoundState, IsSoundAfter}
use Rattle.elab_sound_types.proofs.Sound.{both, bounded_variable}
use Rattle.elab_sound_types.proofs.Names.{IfThere}
use Rattle.elab_sound_types.proofs.Globals as globals
use Rattle.elab_sound_types.proofs.Globals.{Behind, same}
use Rattle.elab_sound_types.proofs.Expressions.{moved, kids_spelled, first_spelled}
use Rattle.elab_sound_types.proofs.Growth.{grown_same, grown_joined}

-- States

abbrev pub classes_in : State → List Class
classes_in st = st.ctx.classes

pub on_all : {A : Type 0} (P : A → Type 0) (r : Result A ElabFault) → ((x : A) → r ≡ Ok x → P x) → On P r
on_all P (Ok x) h = h x refl
on_all P (Err e) h = tt

pub since : {A : Type 0} (P Q : A → Type 0) (r : Result A ElabFault) → On P r → ((x : A) → P x → Q x) → On Q r
since P Q (Ok x) h g = g x h
since P Q (Err e) h g = tt

-- nothing was done
pub nothing : (adds : Bool) (st : State) → IsSoundState st → IsSoundAfter adds st st
nothing adds st h = record { sound = h; grown = grown_same adds st.ctx.classes }

pub later : (adds : Bool) (a b c : State) → IsSoundAfter adds a b → IsSoundAfter adds b c → IsSoundAfter adds a c
later adds a b c h g = record { sound = g.sound; grown = grown_joined adds a.ctx.classes b.ctx.classes c.ctx.classes h.grown g.grown }

-- where a statement stands
pub elsewhere : (st : State) (scopes : List Names) (breaks continues : Bool) (label : Label) (labels : Labels) → IsSoundState st → IsSoundState (record st {
  ctx = record st.ctx { scopes = scopes; breaks = breaks; continues = continues; label = label; labels = labels };
})
elsewhere st scopes breaks continues label labels h = record {
  context = record {
    types = h.context.types;
    members = h.context.members;
    functions = h.context.functions;
    enumerators = h.context.enumerators;
    variables = h.context.variables;
    this = h.context.this;
    captures = h.context.captures;
    globals = h.context.globals;
    many = h.context.many;
    copied = h.context.copied;
  };
  closures = h.closures;
  returned = h.returned;
}

pub inner_sound : (st : State) → IsSoundState st → IsSoundState (inner st)
inner_sound st h = elsewhere st _ st.ctx.breaks st.ctx.continues _ st.ctx.labels h

pub loop_sound : (st : State) → IsSoundState st → IsSoundState (in_loop st)
loop_sound st h = elsewhere st _ true true _ st.ctx.labels h

pub block_sound : (st : State) → IsSoundState st → IsSoundState (in_block st)
block_sound st h = elsewhere st _ st.ctx.breaks st.ctx.continues _ st.ctx.labels h

pub switch_sound : (st : State) (t : Typ) → IsSoundState st → IsSoundState (in_switch st t)
switch_sound st t h = elsewhere st _ true st.ctx.continues _ _ h

pub labels_sound : (st : State) (l : Labels) → IsSoundState st → IsSoundState (with_labels st l)
labels_sound st l h = elsewhere st st.ctx.scopes st.ctx.breaks st.ctx.continues st.ctx.label l h

-- with what was made, and without the lambdas that stood in it
pub made_sound : (st : State) (w : Work) → HasSoundTypes st.ctx w → IsSoundState st → IsSoundState (with_work st w)
made_sound st w g h = record {
  context = record {
    types = g.types;
    members = g.members;
    functions = g.functions;
    enumerators = g.enumerators;
    variables = g.variables;
    this = g.this;
    captures = g.captures;
    globals = g.globals;
    many = g.many;
    copied = g.copied;
  };
  closures = refl;
  returned = h.returned;
}

-- behind what was made, what keeps the types of globals
pub kept_sound : (adds : Bool) (a st : State) (w : Work) → IsSoundAfter adds a st → Behind st.work w → IsSoundAfter adds a (with_work st w)
kept_sound adds a st w h b = record { sound = made_sound st w (moved st.ctx st.work w h.sound.context b) h.sound; grown = h.grown }

-- Full-expressions

abbrev pub FullSound : (adds : Bool) → State → Full → Type 0
FullSound adds a f = IsExpression (classes_in f.state) f.operand.tree × IsSoundAfter adds a f.state

abbrev pub DoneSound : (adds : Bool) → State → Done → Type 0
DoneSound adds a d = IsSoundAfter adds a d.state

abbrev pub After : (adds : Bool) → State → State → Type 0
After adds a st = IsSoundAfter adds a st

pub made_done : (adds : Bool) (a : State) (f : Full) (r : Result Made ElabFault) → IsSoundAfter adds a f.state → On (globals.made f.state.work) r → On (DoneSound adds a) (full_made f r)
made_done adds a f r h g = bind (globals.made f.state.work) (DoneSound adds a) r _ g (λ m b. kept_sound adds a f.state m.work h b)

-- Variables

pub all_but : {A : Type 0} (p : A → Bool) (xs : List A) (i : ℕ) (x : A) → p x ≡ true → list_all p xs ≡ true → list_all p (slice_set xs i x) ≡ true
all_but p [] i x h g = refl
all_but p (y ∷ ys) zero x h g = both h (and_parts (p y) (list_all p ys) g).1
all_but p (y ∷ ys) (suc i) x h g = both (and_parts (p y) (list_all p ys) g).0 (all_but p ys i x h (and_parts (p y) (list_all p ys) g).1)

-- with other variables and items
pub renewed : (st : State) (scopes : List Names) (vs : List Variable) (frame : List Typ) → list_all (is_sound_variable (classes_in st)) vs ≡ true → IsSoundState st
    → IsSoundState (record st { ctx = record st.ctx { scopes = scopes; variables = vs }; work = record st.work { frame = frame } })
renewed st scopes vs frame g h = record {
  context = record {
    types = h.context.types;
    members = h.context.members;
    functions = h.context.functions;
    enumerators = h.context.enumerators;
    variables = g;
    this = h.context.this;
    captures = h.context.captures;
    globals = h.context.globals;
    many = h.context.many;
    copied = h.context.copied;
  };
  closures = h.closures;
  returned = h.returned;
}

pub one_more : (st : State) (v : Variable) → is_sound_variable (classes_in st) v ≡ true → IsSoundState st
    → list_all (is_sound_variable (classes_in st)) (st.ctx.variables ++ v ∷ []) ≡ true
one_more st v g h = list_all-append (is_sound_variable (classes_in st)) st.ctx.variables (v ∷ []) ∙ both h.context.variables (both g refl)

pub declared_sound : (st : State) (name : List ℕ) (t : Option Typ) → is_sound_known (classes_in st) t ≡ true → IsSoundState st
    → IsSoundState (declared_variable st name t)
declared_sound st name t g h = renewed st _ _ st.work.frame (one_more st _ g h) h

pub placed_sound : (st : State) (name : List ℕ) (t : Typ) → is_sound (classes_in st) variable t ≡ true → IsSoundState st → IsSoundState (placed_variable st name t)
placed_sound st name t g h = renewed st _ _ _ (one_more st _ g h) h

pub auto_sound : (st : State) (i : ℕ) (t : Typ) → is_sound (classes_in st) variable t ≡ true → IsSoundState st → IsSoundState (auto_placed st i t)
auto_sound st i t g h = renewed st st.ctx.scopes _ _ (all_but (is_sound_variable (classes_in st)) st.ctx.variables i _ g h.context.variables) h

-- an object or a reference may be declared
abbrev pub IsVariable : List Class → Typ → Type 0
IsVariable cs t = is_sound cs variable t ≡ true

pub check_holds : (Q : Type 0) (at : At) (rule : IllRule) (b : Bool) → Q → On (λ (y : Bool). Q) (check at rule b)
check_holds Q at rule true h = h
check_holds Q at rule false h = tt

abbrev pub IsBounded : List Class → Typ → Type 0
IsBounded cs t = is_bounded t ≡ true → IsVariable cs t

variable_if : (cs : List Class) (c : Ctx) (at : At) (t : Typ) → is_void t ≡ false → is_function_form (form_in t) ≡ false → is_sound cs declared t ≡ true
    → On (λ (y : Bool). IsBounded cs t) (check at Incomplete (is_complete c (held t)))
variable_if cs c at t i j h = check_holds (IsBounded cs t) at Incomplete (is_complete c (held t)) (λ b. bounded_variable cs t i j b h)

-- what is declarable is an object or a reference, once its bound is known
pub declarable : (cs : List Class) (c : Ctx) (at : At) (t : Typ) → is_sound cs declared t ≡ true → On (λ (y : Bool). IsBounded cs t) (statements.declarable c at t)
declarable cs c at (typ void d v) h = tt
declarable cs c at (typ (func s) d v) h = tt
declarable cs c at (typ (int j) d v) h = variable_if cs c at (typ (int j) d v) refl refl h
declarable cs c at (typ (enum e s) d v) h = variable_if cs c at (typ (enum e s) d v) refl refl h
declarable cs c at (typ null d v) h = variable_if cs c at (typ null d v) refl refl h
declarable cs c at (typ (ptr t) d v) h = variable_if cs c at (typ (ptr t) d v) refl refl h
declarable cs c at (typ (ref t) d v) h = variable_if cs c at (typ (ref t) d v) refl refl h
declarable cs c at (typ (array t m) d v) h = variable_if cs c at (typ (array t m) d v) refl refl h
declarable cs c at (typ (class m) d v) h = variable_if cs c at (typ (class m) d v) refl refl h
declarable cs c at (typ (closure m) d v) h = variable_if cs c at (typ (closure m) d v) refl refl h
declarable cs c at (typ (tx_ex t) d v) h = variable_if cs c at (typ (tx_ex t) d v) refl refl h

-- an array whose bound its initialiser gives
pub closed_sound : (cs : List Class) (m : ℕ) (t : Typ) → is_sound cs declared t ≡ true → is_sound cs declared (statements.closed_bound m t) ≡ true
closed_sound cs m (typ (array e zero) d v) h = h
closed_sound cs m t h = h

pub bound_sound : (cs : List Class) (s : List Lexeme) (t : Typ) (init : syntax.Trees) → is_sound cs declared t ≡ true
    → is_sound cs declared (statements.bound_by_initialiser s t init) ≡ true
bound_sound cs s t (syntax.more (syntax.node k.EqualInitializer p token (syntax.more (syntax.node k.BracedInitList q brace items) syntax.none)) syntax.none) h =
    closed_sound cs (statements.count items) t h
bound_sound cs s t (syntax.more (syntax.node k.EqualInitializer p token (syntax.more e syntax.none)) syntax.none) h =
    closed_sound cs (statements.string_length s (string_token e)) t h
bound_sound cs s t kids h = h

-- the one expression of an initialiser
abbrev pub IsSpelled : List Lexeme → syntax.Tree → Type 0
IsSpelled s e = is_spelled s e ≡ true

pub one_spelled : (s : List Lexeme) (kind : NodeKind) (p : SyntaxAt) (token : Option ℕ) (e : syntax.Tree)
    → are_spelled s (syntax.more (syntax.node kind p token (syntax.more e syntax.none)) syntax.none) ≡ true → is_spelled s e ≡ true
one_spelled s kind p token e h = first_spelled s e syntax.none (kids_spelled s kind p token (syntax.more e syntax.none)
    (first_spelled s (syntax.node kind p token (syntax.more e syntax.none)) syntax.none h))

pub only_spelled : (s : List Lexeme) (init : syntax.Trees) → are_spelled s init ≡ true → IfThere (IsSpelled s) (statements.only_expression init)
only_spelled s (syntax.more (syntax.node k.EqualInitializer p token (syntax.more (syntax.node k.BracedInitList q brace items) syntax.none)) syntax.none) h = tt
only_spelled s (syntax.more (syntax.node kind p token (syntax.more e syntax.none)) syntax.none) h = one_spelled s kind p token e h
only_spelled s kids h = tt

abbrev pub DeductionSound : (adds : Bool) → State → Deduction → Type 0
DeductionSound adds a x = IsSoundAfter adds a x.done.state

abbrev pub DeclaringSound : (adds : Bool) → State → Declaring → Type 0
DeclaringSound adds a x = IsSoundAfter adds a x.state
