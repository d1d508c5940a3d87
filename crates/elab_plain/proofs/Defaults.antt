-- Initialisers that are kept for members declare nothing, and the lambdas in them declare plainly.
use Rattle.std.proofs.Common.{ℕ, Bool, List, Option, Some, None, slice_get, true, false, Ok}
use Rattle.elab_rules.specs.cpp_types.Typ.{Typ}
use Rattle.elab_rules.specs.cpp_lex.Tokens.{Lexeme}
use Rattle.elab_rules.specs.cpp_ast.declared.kinds.NodeKind.TheVariants as k
use Rattle.elab_rules.specs.cpp_ast.Trees as syntax
use Rattle.elab_rules.specs.cpp_tree.Trees.{one}
use Rattle.elab_rules.specs.elab_ctx.Steps.{and_then, spelling, Made}
use Rattle.elab_rules.specs.Names.{members_in}
use Rattle.elab_rules.specs.Strings.{string_bytes}
use Rattle.elab_rules.specs.Braces.{string_object, string_token, is_char_array, syntax_place}
use Rattle.elab_rules.specs.Statements
use Rattle.elab_rules.specs.Statements.{State, with_work}
use Rattle.elab_rules.specs.Lambdas.{lambdas_of}
use Rattle.elab_rules.specs.Members
use Rattle.elab_rules.specs.Members.{in_object}
use Rattle.elab_places.specs.Bodies.{DefaultsOwn}
use Rattle.elab_places.proofs.Steps.{On, bind, skip, turn}
use Rattle.elab_places.proofs.Keeping as keeping
use Rattle.elab_places.proofs.Lambdas.{lambdas_law}
use Rattle.elab_places.proofs.Rounds.{both}
use Rattle.elab_places.proofs.Defaults.{default_made}
use Rattle.elab_places.proofs.AtFile.{each_keeps}
use Rattle.elab_plain.specs.Plain.{RoundPlain, BodiesPlain}
use Rattle.elab_plain.proofs.Declaring.{StatePlain}
use Rattle.elab_plain.proofs.Lambdas.{lambdas_plain}

whole_value : (s : List Lexeme) (st : State) (t : Typ) (e : syntax.Tree) → StatePlain st
    → On (keeping.Ends RoundPlain) (and_then (Statements.full_operand lambdas_of s st e)
    (λ (f : Statements.Full). and_then (Statements.copy_initialised f.state.ctx f.state.work t f.operand)
    (λ (m : Made). Ok (record { trees = one (Statements.full f.operand.at m.tree); state = with_work f.state m.work }))))
whole_value s st t e h = bind (λ (f : Statements.Full). StatePlain f.state) (keeping.Ends RoundPlain) (Statements.full_operand lambdas_of s st e) _
    (keeping.full_operand RoundPlain lambdas_of lambdas_plain s st e h)
    (λ f i. skip (keeping.Ends RoundPlain) (Statements.copy_initialised f.state.ctx f.state.work t f.operand) _ (λ m. i))

value_keeps : (s : List Lexeme) (st : State) (t : Typ) (e : syntax.Tree) (b : Bool) (o : Option ℕ) → StatePlain st
    → On (keeping.Ends RoundPlain) (Members.default_value lambdas_of s st t e b o)
value_keeps s st t e true (Some i) h = skip (keeping.Ends RoundPlain) (string_object st.ctx t (syntax_place e) (string_bytes (spelling s i))) _ (λ x. h)
value_keeps s st t e true None h = whole_value s st t e h
value_keeps s st t e false o h = whole_value s st t e h

abbrev Bodied : State → Type 0
Bodied x = BodiesPlain x.bodies

one_default : (s : List Lexeme) (st : State) (n i : ℕ) (t : Typ) (e : syntax.Tree) → StatePlain st
    → On StatePlain (Members.default_made lambdas_of s st n i t e)
one_default s st n i t e h = turn (λ (x : State). DefaultsOwn x.ctx.defaults × Bodied x) StatePlain (Members.default_made lambdas_of s st n i t e)
    (λ x j. record { defaults = j.0; bodies = j.1 })
    (both (λ (x : State). DefaultsOwn x.ctx.defaults) Bodied (Members.default_made lambdas_of s st n i t e)
    (default_made lambdas_of lambdas_law s st n i t e h.defaults)
    (bind (keeping.Ends RoundPlain) Bodied (Members.default_value lambdas_of s (in_object st n) t e (is_char_array t) (string_token e)) _
    (value_keeps s (in_object st n) t e (is_char_array t) (string_token e) (record { defaults = h.defaults; bodies = h.bodies }))
    (λ d j. j.bodies)))

default_for : (s : List Lexeme) (st : State) (n : ℕ) (i : Option ℕ) (e : Option syntax.Tree) → StatePlain st
    → On StatePlain (Members.default_for lambdas_of s st n i e)
default_for s st n (Some i) (Some e) h = one_default s st n i (Members.member_type (slice_get (members_in (slice_get st.ctx.classes n)) i)) e h
default_for s st n (Some i) None h = h
default_for s st n None e h = h

default_of : (s : List Lexeme) (n : ℕ) (st : State) (t : syntax.Tree) → StatePlain st → On StatePlain (Members.default_of lambdas_of s n st t)
default_of s n st (syntax.node k.MemberDeclarator p (Some t) kids) h =
    default_for s st n (Members.member_index 0 (spelling s t) (members_in (slice_get st.ctx.classes n))) (Members.initialiser_in kids) h
default_of s n st t h = h

defaults_of : (s : List Lexeme) (n : ℕ) (st : State) (t : syntax.Tree) → StatePlain st → On StatePlain (Members.defaults_of lambdas_of s n st t)
defaults_of s n st (syntax.node k.MemberDeclaration p token kids) h =
    each_keeps StatePlain (Members.default_of lambdas_of s n) (λ x t i. default_of s n x t i) st kids h
defaults_of s n st t h = h

pub defaults_plain : (s : List Lexeme) (n : ℕ) (st : State) (ts : syntax.Trees) → StatePlain st
    → On StatePlain (Members.all_defaults lambdas_of s n st ts)
defaults_plain s n st ts h = each_keeps StatePlain (Members.defaults_of lambdas_of s n) (λ y t i. defaults_of s n y t i) st ts h
