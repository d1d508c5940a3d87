-- The body of a function keeps the types of the context around it sound.
use Rattle.std.proofs.Common.{◌≡◌, refl, ℕ, true, false, List, Option, Some, None}
use Rattle.elab_rules.specs.cpp_types.Typ.{Typ}
use Rattle.elab_rules.specs.cpp_lex.Tokens.{Lexeme}
use Rattle.elab_rules.specs.cpp_ast.Trees as syntax
use Rattle.elab_rules.specs.elab_ctx.Steps.{check}
use Rattle.elab_rules.specs.Operators.{is_complete}
use Rattle.elab_rules.specs.cpp_types.Class.{Class, held}
use Rattle.elab_rules.specs.cpp_tree.declared.faults.IllRule.TheVariants.{Incomplete}
use Rattle.elab_rules.specs.Initialising.{signature_result}
use Rattle.elab_rules.specs.Statements
use Rattle.elab_rules.specs.Statements.{State, Done, Lambdas, statements_of}
use Rattle.elab_rules.specs.Functions as functions
use Rattle.elab_rules.specs.Functions.{Header, entered, leaving, function_body}
use Rattle.elab_fits.specs.Standing.{On}
use Rattle.elab_fits.proofs.Steps.{bind, skip}
use Rattle.elab_sound_types.specs.Contexts.{is_sound_this, is_spelled}
use Rattle.elab_sound_types.specs.States.{Kept, IsSoundState, IsSoundAfter, KeepsSound, is_sound_object, FunctionsKeep}
use Rattle.elab_sound_types.proofs.Growth.{grown_joined}
use Rattle.elab_sound_types.proofs.Written.{AreParameters}
use Rattle.elab_sound_types.proofs.Expressions.{kids_spelled}
use Rattle.elab_sound_types.proofs.States.{After, DoneSound}
use Rattle.elab_sound_types.proofs.Statements.{block}
use Rattle.elab_sound_types.proofs.Bodies.{with_parameters}
use Rattle.elab_sound_types.proofs.Closures.{names_more, variables_more, this_more, captures_more, closures_more, return_more}
use Rattle.elab_sound_types.proofs.Zeros.{on_ok}

-- the object at hand
this_sound : (cs : List Class) (before : List Typ) (o : Option Typ) → is_sound_object cs o ≡ true → is_sound_this cs (functions.this_at before o) ≡ true
this_sound cs before (Some t) h = h
this_sound cs before None h = refl

entered_sound : (st : State) (r : Typ) (this : Option Typ) (cls : Option ℕ) → IsSoundState st → is_sound_object st.ctx.classes this ≡ true
    → IsSoundState (entered st r this cls)
entered_sound st r this cls h g = record {
  context = record {
    types = h.context.types;
    members = h.context.members;
    functions = h.context.functions;
    enumerators = h.context.enumerators;
    variables = refl;
    this = this_sound st.ctx.classes (functions.result_items r) this g;
    captures = refl;
    globals = h.context.globals;
    many = h.context.many;
    copied = h.context.copied;
  };
  closures = h.closures;
  returned = refl;
}

-- what stands around it is known as before
left_sound : (st z : State) (bs : List Statements.Body) → Kept st.ctx.classes z.ctx.classes → IsSoundState st → IsSoundState z
    → IsSoundState (record (leaving st z) { bodies = bs })
left_sound st z bs l h g = record {
  context = record {
    types = names_more st.ctx.classes z.ctx.classes l st.ctx.types h.context.types;
    members = g.context.members;
    functions = g.context.functions;
    enumerators = h.context.enumerators;
    variables = variables_more st.ctx.classes z.ctx.classes l st.ctx.variables h.context.variables;
    this = this_more st.ctx.classes z.ctx.classes l st.ctx.this h.context.this;
    captures = captures_more st.ctx.classes z.ctx.classes l st.ctx.lambda h.context.captures;
    globals = g.context.globals;
    many = g.context.many;
    copied = g.context.copied;
  };
  closures = closures_more st.ctx.classes z.ctx.classes l st.ctx.closures h.closures;
  returned = return_more st.ctx.classes z.ctx.classes l st.ctx.returns h.returned;
}

-- without a lambda no class is added, so neither is one with them
grown_too : (st x z : State) → IsSoundAfter false st x → IsSoundAfter true x z → IsSoundAfter true st z
grown_too st x z h g = record {
  sound = g.sound;
  grown = grown_joined true st.ctx.classes x.ctx.classes z.ctx.classes (record { kept = h.grown.kept; same = λ b. absurd cc }) g.grown;
}

body_sound : (lams : Lambdas) (s : List Lexeme) (st : State) (f : Header) (this : Option Typ) (place : ℕ) (body : syntax.Tree) → KeepsSound true s lams
    → IsSoundState st → AreParameters st.ctx.classes f.params → is_sound_object st.ctx.classes this ≡ true → is_spelled s body ≡ true
    → On (After true st) (function_body lams s st f this place body)
body_sound lams s st f this place (syntax.node kind p token kids) keeps h g i j =
    skip (After true st) (check f.at Incomplete (is_complete st.ctx (held (signature_result f.signature)))) _
    (λ c. bind (After false (entered st (signature_result f.signature) this f.class)) (After true st)
    (functions.with_parameters s (entered st (signature_result f.signature) this f.class) f.params) _
    (with_parameters s (entered st (signature_result f.signature) this f.class) f.params (entered_sound st (signature_result f.signature) this f.class h i) g)
    (λ e m. bind (DoneSound true e) (After true st) (statements_of lams s e kids) _
    (block true lams s keeps e kids m.sound (kids_spelled s kind p token kids j))
    (λ d o. skip (After true st) (functions.within_frame d.state.ctx f.at d.state.work.frame) _
    (λ y. let q = grown_too (entered st (signature_result f.signature) this f.class) e d.state m o in
    record { sound = left_sound st d.state _ q.grown.kept h q.sound; grown = record { kept = q.grown.kept; same = λ b. absurd cc } }))))

pub functions_law : FunctionsKeep
functions_law lams s st f this place body x keeps h g i j e = on_ok (After true st) (function_body lams s st f this place body) x
    (body_sound lams s st f this place body keeps h g i j) e
