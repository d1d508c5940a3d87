-- Initialisers that are kept for members own their places.
use Rattle.std.proofs.Common.{◌≡◌, refl, sym, ap, ◌∙◌, subst, ℕ, suc, ◌-◌, ◌≤◌, Bool, true, false, List, [], ◌∷◌, ◌++◌, length, drop, length-drop}
use Rattle.std.proofs.Common.{Option, Some, None, Result, Ok, Err, arith}
use Rattle.elab_rules.specs.cpp_types.Typ.{Typ}
use Rattle.elab_rules.specs.cpp_types.declared.classes.At.{At}
use Rattle.elab_rules.specs.cpp_lex.Tokens.{Lexeme}
use Rattle.elab_rules.specs.cpp_ast.Trees as syntax
use Rattle.elab_rules.specs.cpp_tree.declared.faults.ElabFault.{ElabFault}
use Rattle.elab_rules.specs.cpp_tree.Trees.{Tree, Trees, none, more}
use Rattle.elab_rules.specs.cpp_tree.WellFormed.{places_of}
use Rattle.elab_rules.specs.elab_ctx.Ctx.{Default}
use Rattle.elab_rules.specs.elab_ctx.Steps.{and_then, spelling, Made}
use Rattle.elab_rules.specs.Strings.{string_bytes}
use Rattle.elab_rules.specs.Braces
use Rattle.elab_rules.specs.Braces.{string_token, is_char_array, syntax_place}
use Rattle.elab_rules.specs.Expressions.{expression_of, chosen_operand}
use Rattle.elab_rules.specs.Statements
use Rattle.elab_rules.specs.Statements.{State, Done, Full, Lambdas, with_work}
use Rattle.elab_rules.specs.Members
use Rattle.elab_rules.specs.Members.{in_object}
use Rattle.elab_places.specs.Places.{Owned, declares}
use Rattle.elab_places.specs.Bodies.{DefaultOwns, DefaultsOwn, LeavesFrame}
use Rattle.elab_places.specs.Functions.{DefaultsMadeOwn}
use Rattle.elab_places.proofs.Counting.{Sought, place, declaring, held, all_held, Gives, same}
use Rattle.elab_places.proofs.Steps.{On, bind, skip, held_by}
use Rattle.elab_places.proofs.Owned.{no_room, to_plain}
use Rattle.elab_places.proofs.OfExpressions.{tree_owned}
use Rattle.elab_places.proofs.Names as names
use Rattle.elab_places.proofs.Expressions as expressions
use Rattle.elab_places.proofs.Braces as braces
use Rattle.elab_places.proofs.Declaring as told
use Rattle.elab_places.proofs.Declaring.{Ends, FullEnds}
use Rattle.elab_places.proofs.Bodies.{on_all}

-- It declares nothing

full_plain : (lams : Lambdas) (s : List Lexeme) (st : State) (e : syntax.Tree)
    → On (λ (f : Full). held declaring f.operand.tree ≡ 0) (Statements.full_operand lams s st e)
full_plain lams s st e = skip (λ (f : Full). held declaring f.operand.tree ≡ 0) (lams s st e) _
    (λ (x : State). bind (expressions.GivesTyped declaring 0 x.work) (λ (f : Full). held declaring f.operand.tree ≡ 0)
    (and_then (expression_of s x.ctx x.work e) (chosen_operand x.ctx)) _
    (expressions.chosen declaring 0 x.ctx x.work (expression_of s x.ctx x.work e) (expressions.expression declaring s x.ctx x.ctx.closures x.work e))
    (λ o h. let a = no_room (length o.work.frame) in omega arith))

-- its trees declare nothing
abbrev AllPlain : Done → Type 0
AllPlain d = all_held declaring d.trees ≡ 0

copied_plain : (lams : Lambdas) (s : List Lexeme) (st : State) (t : Typ) (e : syntax.Tree)
    → On AllPlain (and_then (Statements.full_operand lams s st e) (λ (f : Full).
    and_then (Statements.copy_initialised f.state.ctx f.state.work t f.operand)
    (λ (m : Made). Ok (record { trees = more (Statements.full f.operand.at m.tree) none; state = with_work f.state m.work }))))
copied_plain lams s st t e = bind (λ (f : Full). held declaring f.operand.tree ≡ 0) AllPlain (Statements.full_operand lams s st e) _ (full_plain lams s st e)
    (λ f h. bind (Gives declaring (held declaring f.operand.tree) f.state.work) AllPlain (Statements.copy_initialised f.state.ctx f.state.work t f.operand) _
    (told.copy_initialised declaring f.state.ctx f.state.work t f.operand)
    (λ m i. let a = no_room (length m.work.frame) in let b = told.full declaring f.operand.at m.tree in omega arith))

string_plain : (s : List Lexeme) (st : State) (t : Typ) (e : syntax.Tree) (i : ℕ)
    → On AllPlain (and_then (Braces.string_object st.ctx t (syntax_place e) (string_bytes (spelling s i)))
    (λ (x : Tree). Ok (record { trees = more x none; state = st })))
string_plain s st t e i = bind (names.Bare declaring) AllPlain (Braces.string_object st.ctx t (syntax_place e) (string_bytes (spelling s i))) _
    (braces.string_object declaring st.ctx t (syntax_place e) (string_bytes (spelling s i))) (λ x h. omega arith)

value_plain : (lams : Lambdas) (s : List Lexeme) (st : State) (t : Typ) (e : syntax.Tree) (b : Bool) (o : Option ℕ)
    → On AllPlain (Members.default_value lams s st t e b o)
value_plain lams s st t e true (Some i) = string_plain s st t e i
value_plain lams s st t e true None = copied_plain lams s st t e
value_plain lams s st t e false o = copied_plain lams s st t e

-- It owns its places

module _ (p : ℕ) (lams : Lambdas) (leaves : LeavesFrame lams) (s : List Lexeme) where
  copied_ends : (st : State) (t : Typ) (e : syntax.Tree) → DefaultsOwn st.ctx.defaults
      → On (Ends p st) (and_then (Statements.full_operand lams s st e) (λ (f : Full).
      and_then (Statements.copy_initialised f.state.ctx f.state.work t f.operand)
      (λ (m : Made). Ok (record { trees = more (Statements.full f.operand.at m.tree) none; state = with_work f.state m.work }))))
  copied_ends st t e own = bind (FullEnds p st) (Ends p st) (Statements.full_operand lams s st e) _ (told.full_operand p lams leaves s st e own)
      (λ f h. bind (Gives (place p) (held (place p) f.operand.tree) f.state.work) (Ends p st)
      (Statements.copy_initialised f.state.ctx f.state.work t f.operand) _ (told.copy_initialised (place p) f.state.ctx f.state.work t f.operand)
      (λ m i. record { counted = let a = h.counted in let b = told.full (place p) f.operand.at m.tree in omega arith; own = h.own }))

  string_ends : (st : State) (t : Typ) (e : syntax.Tree) (i : ℕ) → DefaultsOwn st.ctx.defaults
      → On (Ends p st) (and_then (Braces.string_object st.ctx t (syntax_place e) (string_bytes (spelling s i)))
      (λ (x : Tree). Ok (record { trees = more x none; state = st })))
  string_ends st t e i own = bind (names.Bare (place p)) (Ends p st) (Braces.string_object st.ctx t (syntax_place e) (string_bytes (spelling s i))) _
      (braces.string_object (place p) st.ctx t (syntax_place e) (string_bytes (spelling s i))) (λ x h. record { counted = omega arith; own = own })

  value_ends : (st : State) (t : Typ) (e : syntax.Tree) (b : Bool) (o : Option ℕ) → DefaultsOwn st.ctx.defaults
      → On (Ends p st) (Members.default_value lams s st t e b o)
  value_ends st t e true (Some i) own = string_ends st t e i own
  value_ends st t e true None own = copied_ends st t e own
  value_ends st t e false o own = copied_ends st t e own

-- Behind `this`

first_held : (g : Sought) (at : At) (ts : Trees) → held g (Members.first_tree at ts) ≤ all_held g ts
first_held g at none = same 0
first_held g at (more t ts) = omega arith

drop_one : (n : ℕ) (f : List Typ) → 1 ≤ n → n ≡ length f → n ≡ suc (length (drop 1 f))
drop_one n f l e = let d : length (drop 1 f) ≡ length f - 1 = length-drop 1 f in omega arith

behind_this : (d : Default) (f : List Typ) → Owned 1 (length f) (places_of d.init) → declares d.init ≡ false → d.frame ≡ drop 1 f → DefaultOwns d
behind_this d f h n e = record {
  owns = subst (λ (z : ℕ). Owned 1 z (places_of d.init)) (drop_one (length f) f h.grows refl ∙ ap (λ (z : List Typ). suc (length z)) (sym e)) h;
  plain = n;
}

one_more : (ds : List Default) (d : Default) → DefaultsOwn ds → DefaultOwns d → DefaultsOwn (ds ++ d ∷ [])
one_more [] d h i = (i, tt)
one_more (x ∷ ds) d h i = (h.0, one_more ds d h.1 i)

-- what both say of the value
record Kept (st : State) (n : ℕ) (d : Done) : Type 0 where
  plain : AllPlain d
  ends : (p : ℕ) → Ends p (in_object st n) d

both : (st : State) (n : ℕ) (r : Result Done ElabFault) → On AllPlain r → On (λ (d : Done). (p : ℕ) → Ends p (in_object st n) d) r → On (Kept st n) r
both st n (Ok d) h i = record { plain = h; ends = i }
both st n (Err e) h i = tt

first_owned : (st : State) (n : ℕ) (at : At) (d : Done) → Kept st n d → Owned 1 (length d.state.work.frame) (places_of (Members.first_tree at d.trees))
first_owned st n at d h = tree_owned 1 (length d.state.work.frame) (Members.first_tree at d.trees)
    (λ p. let i = (h.ends p).counted in let r = first_held (place p) at d.trees in omega arith)

pub default_made : (lams : Lambdas) → LeavesFrame lams → (s : List Lexeme) (st : State) (n i : ℕ) (t : Typ) (e : syntax.Tree) → DefaultsOwn st.ctx.defaults
    → On (λ (x : State). DefaultsOwn x.ctx.defaults) (Members.default_made lams s st n i t e)
default_made lams leaves s st n i t e own =
    bind (Kept st n) (λ (x : State). DefaultsOwn x.ctx.defaults)
    (Members.default_value lams s (in_object st n) t e (is_char_array t) (string_token e)) _
    (both st n (Members.default_value lams s (in_object st n) t e (is_char_array t) (string_token e))
    (value_plain lams s (in_object st n) t e (is_char_array t) (string_token e))
    (on_all (λ p d. Ends p (in_object st n) d) (Members.default_value lams s (in_object st n) t e (is_char_array t) (string_token e))
    (λ p. value_ends p lams leaves s (in_object st n) t e (is_char_array t) (string_token e) own)))
    (λ d h. one_more st.ctx.defaults
    (record { class = n; member = i; init = Members.first_tree (syntax_place e) d.trees; frame = drop 1 d.state.work.frame }) own
    (behind_this (record { class = n; member = i; init = Members.first_tree (syntax_place e) d.trees; frame = drop 1 d.state.work.frame }) d.state.work.frame
    (first_owned st n (syntax_place e) d h)
    (to_plain (Members.first_tree (syntax_place e) d.trees)
    (let a = first_held declaring (syntax_place e) d.trees in let b = h.plain in omega arith)) refl))

pub defaults_law : DefaultsMadeOwn
defaults_law lams leaves s st n i t e x own h =
    held_by (λ (y : State). DefaultsOwn y.ctx.defaults) (Members.default_made lams s st n i t e) x (default_made lams leaves s st n i t e own) h
