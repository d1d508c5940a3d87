-- What the crate below says, as answers are followed here.
use Rattle.std.proofs.Common.{◌≡◌, ℕ, true, false, List, Option}
use Rattle.std.specs.List.{list_all}
use Rattle.elab_rules.specs.cpp_types.Typ.{Typ}
use Rattle.elab_rules.specs.cpp_types.Class.{Class}
use Rattle.elab_rules.specs.cpp_types.declared.classes.At.{At}
use Rattle.elab_rules.specs.cpp_lex.Tokens.{Lexeme}
use Rattle.elab_rules.specs.cpp_ast.Trees as syntax
use Rattle.elab_rules.specs.elab_ctx.Ctx.{Ctx, Work}
use Rattle.elab_rules.specs.elab_ctx.Steps.{and_then, Typed, TypedAll, Made}
use Rattle.elab_rules.specs.Types.{Parameter}
use Rattle.elab_rules.specs.Expressions.{expression_of, operands_of, chosen_operand, type_id_of, type_of_specifiers, declared_by}
use Rattle.elab_rules.specs.Statements.{State, Done, Full, Lambdas, full_operand, all_lambdas, statements_of}
use Rattle.elab_rules.specs.Functions.{Header, with_parameters, function_body}
use Rattle.elab_rules.specs.Lambdas.{lambdas_of}
use Rattle.elab_fits.specs.Standing.{On}
use Rattle.elab_sound_types.specs.Types.{is_sound, denoted}
use Rattle.elab_sound_types.specs.Laws.{IsSoundDeclared}
use Rattle.elab_sound_types.specs.Contexts.{HasSoundTypes, is_spelled, are_spelled, is_sound_parameter}
use Rattle.elab_sound_types.specs.States.{IsSoundState, IsSoundAfter, KeepsSound, is_sound_object}
use Rattle.elab_fits.proofs.Steps.{bind}
use Rattle.elab_sound_types.proofs.Globals.{Behind}
use Rattle.elab_sound_types.proofs.Expressions.{Chosen, operand_sound, operands_law, types_law, specifiers_law, declarators_law, first_spelled, rest_spelled}
use Rattle.elab_sound_types.proofs.States.{on_all, since, nothing, later, made_sound}
use Rattle.elab_sound_types.proofs.Statements.{blocks_law}
use Rattle.elab_sound_types.proofs.Functions.{functions_law}
use Rattle.elab_sound_types.proofs.Bodies.{lambdas_law, with_parameters as below_parameters}

-- the types of globals stay sound
abbrev pub GlobalsStay : Work → Work → Type 0
GlobalsStay a b = Behind a b

abbrev pub MadeBehind : Work → Made → Type 0
MadeBehind w m = GlobalsStay w m.work

abbrev pub After : State → State → Type 0
After st x = IsSoundAfter true st x

abbrev pub DoneAfter : State → Done → Type 0
DoneAfter st d = IsSoundAfter true st d.state

abbrev pub FullAfter : State → Full → Type 0
FullAfter st f = IsSoundAfter true st f.state

abbrev pub TypedIn : Ctx → Typed → Type 0
TypedIn c x = HasSoundTypes c x.work

abbrev pub AllTypedIn : Ctx → TypedAll → Type 0
AllTypedIn c x = HasSoundTypes c x.work

abbrev pub IsDenoted : List Class → Typ → Type 0
IsDenoted classes t = is_sound classes denoted t ≡ true

-- Types that are written

pub specifiers_sound : (s : List Lexeme) (c : Ctx) (w : Work) (e : syntax.Tree) → HasSoundTypes c w → On (IsDenoted c.classes) (type_of_specifiers s c w e)
specifiers_sound s c w e h = on_all (IsDenoted c.classes) (type_of_specifiers s c w e) (λ t q. specifiers_law s c c.closures w e t h q)

pub type_id_sound : (s : List Lexeme) (c : Ctx) (w : Work) (e : syntax.Tree) → HasSoundTypes c w → On (IsDenoted c.classes) (type_id_of s c w e)
type_id_sound s c w e h = on_all (IsDenoted c.classes) (type_id_of s c w e) (λ t q. types_law s c c.closures w e t h q)

pub declarator_sound : (s : List Lexeme) (c : Ctx) (w : Work) (at : At) (t : Typ) (d : syntax.Tree) → HasSoundTypes c w → IsDenoted c.classes t
    → On (IsSoundDeclared c.classes) (declared_by s c w at t d)
declarator_sound s c w at t d h g =
    on_all (IsSoundDeclared c.classes) (declared_by s c w at t d) (λ r q. declarators_law s c c.closures w at t d r h g q)

-- Expressions

pub expression_sound : (s : List Lexeme) (st : State) (e : syntax.Tree) → IsSoundState st → is_spelled s e ≡ true
    → On (TypedIn st.ctx) (and_then (expression_of s st.ctx st.work e) (chosen_operand st.ctx))
expression_sound s st e h i = since (Chosen st.ctx) (TypedIn st.ctx) (and_then (expression_of s st.ctx st.work e) (chosen_operand st.ctx))
    (operand_sound s st.ctx st.ctx.closures st.work e h.context h.closures i) (λ x j. j.1)

pub operands_sound : (s : List Lexeme) (st : State) (es : syntax.Trees) → IsSoundState st → are_spelled s es ≡ true
    → On (AllTypedIn st.ctx) (operands_of s st.ctx st.work es)
operands_sound s st es h i = on_all (AllTypedIn st.ctx) (operands_of s st.ctx st.work es)
    (λ x q. (operands_law s st.ctx st.ctx.closures st.work es x h.context h.closures i q).work)

-- Bodies, where this makes the lambdas of a full-expression

module _ (lams : Lambdas) (s : List Lexeme) (keeps : KeepsSound true s lams) where
  pub full_sound : (st : State) (e : syntax.Tree) → IsSoundState st → is_spelled s e ≡ true → On (FullAfter st) (full_operand lams s st e)
  full_sound st e h i = bind (After st) (FullAfter st) (lams s st e) _ (on_all (After st) (lams s st e) (λ x q. keeps st e x h i q))
      (λ x j. bind (TypedIn x.ctx) (FullAfter st) (and_then (expression_of s x.ctx x.work e) (chosen_operand x.ctx)) _ (expression_sound s x e j.sound i)
      (λ o m. record { sound = made_sound x o.work m j.sound; grown = j.grown }))

  pub lambdas_sound : (st : State) (es : syntax.Trees) → IsSoundState st → are_spelled s es ≡ true → On (After st) (all_lambdas lams s st es)
  lambdas_sound st syntax.none h i = nothing true st h
  lambdas_sound st (syntax.more t ts) h i =
      bind (After st) (After st) (lams s st t) _ (on_all (After st) (lams s st t) (λ x q. keeps st t x h (first_spelled s t ts i) q))
      (λ x j. since (After x) (After st) (all_lambdas lams s x ts) (lambdas_sound x ts j.sound (rest_spelled s t ts i)) (λ y m. later true st x y j m))

  pub statements_sound : (st : State) (ts : syntax.Trees) → IsSoundState st → are_spelled s ts ≡ true → On (DoneAfter st) (statements_of lams s st ts)
  statements_sound st ts h i = on_all (DoneAfter st) (statements_of lams s st ts) (λ d q. blocks_law true lams s st ts d keeps h i q)

  pub function_sound : (st : State) (f : Header) (this : Option Typ) (place : ℕ) (body : syntax.Tree) → IsSoundState st
      → list_all (is_sound_parameter st.ctx.classes) f.params ≡ true → is_sound_object st.ctx.classes this ≡ true → is_spelled s body ≡ true
      → On (After st) (function_body lams s st f this place body)
  function_sound st f this place body h g i j =
      on_all (After st) (function_body lams s st f this place body) (λ x q. functions_law lams s st f this place body x keeps h g i j q)

pub parameters_sound : (s : List Lexeme) (st : State) (ps : List Parameter) → IsSoundState st → list_all (is_sound_parameter st.ctx.classes) ps ≡ true
    → On (After st) (with_parameters s st ps)
parameters_sound s st ps h g = since (IsSoundAfter false st) (After st) (with_parameters s st ps) (below_parameters s st ps h g)
    (λ x i. record { sound = i.sound; grown = record { kept = i.grown.kept; same = λ b. absurd cc } })

pub lambdas_keep : (s : List Lexeme) → KeepsSound true s lambdas_of
lambdas_keep s = lambdas_law s
