-- Variables at file scope, as steps.
use Rattle.std.proofs.Common.{◌≡◌, ◌∙◌, ℕ, Bool, true, false, List, Result, Ok, Err, refl, sym, ap, subst}
use Rattle.elab_expr.specs.cpp_lex.Tokens.{Lexeme}
use Rattle.elab_expr.specs.cpp_ast.Trees as syntax
use Rattle.elab_expr.specs.cpp_names.Names.{innermost_of}
use Rattle.cpp_types.specs.Typ.{Typ}
use Rattle.cpp_types.specs.Class.{held}
use Rattle.cpp_types.specs.declared.classes.At.{At}
use Rattle.elab_expr.specs.cpp_tree.declared.faults.ElabFault.{ElabFault}
use Rattle.elab_expr.specs.cpp_tree.declared.faults.IllRule.TheVariants.{Incomplete, NotConstant}
use Rattle.elab_expr.specs.cpp_tree.Units.{Cell}
use Rattle.elab_expr.specs.elab_ctx.Ctx.{Work}
use Rattle.elab_expr.specs.elab_ctx.Says.{Faults}
use Rattle.elab_expr.specs.elab_ctx.Steps.{and_then, check, Made}
use Rattle.elab_expr.specs.elab_rules.Functions.{Storage}
use Rattle.elab_expr.specs.elab_rules.Initialising.{class_number}
use Rattle.elab_expr.specs.elab_rules.Objects.{element_of}
use Rattle.elab_expr.specs.elab_rules.Operators.{is_complete}
use Rattle.elab_expr.specs.elab_rules.Statements.{State}
use Rattle.elab_expr.specs.elab_rules.Globals.{PlacedGlobal, is_trivial_class, is_definition, cells_of, global_object, global_declarable, global_named}
use Rattle.elab_expr.specs.elab_rules.Globals.{global_declared, global_declared_as, global_defined, defined_global}
use Rattle.elab_braces.specs.Forms.{object_by}
use Rattle.elab_braces.proofs.Initials.{global_is}
use Rattle.elab_decls.specs.Says.{global_made, with_cells}
use Rattle.elab_decls.proofs.Steps.{faults_then}

last : {A B C : Type 0} (x : Result A ElabFault) (f : A → B) (g : B → C)
    → and_then x (λ (v : A). Ok (g (f v))) ≡ and_then (and_then x (λ (v : A). Ok (f v))) (λ (w : B). Ok (g w))
last (Ok v) f g = refl
last (Err e) f g = refl

four : {A B C D : Type 0} (a b : Result Bool ElabFault) (o : Result A ElabFault) (k : A → Result B ElabFault) (f : A → B → C) (g : C → D) →
    and_then a (λ _. and_then b (λ _. and_then o (λ (m : A). and_then (k m) (λ (v : B). Ok (g (f m v))))))
    ≡ and_then (and_then (and_then a (λ _. b)) (λ _. and_then o (λ (m : A). and_then (k m) (λ (v : B). Ok (f m v))))) (λ (w : C). Ok (g w))
four (Err e) b o k f g = refl
four (Ok _) (Err e) o k f g = refl
four (Ok _) (Ok _) (Err e) k f g = refl
four (Ok _) (Ok _) (Ok m) k f g = last (k m) (f m) g

-- a definition is what is made of its initialiser, in the state at hand
pub made_is : (s : List Lexeme) (at : At) (t : Typ) (init : syntax.Trees) (p : PlacedGlobal)
    → global_defined s at t init p ≡ and_then (global_made s p.state.ctx p.state.work at t init p.place) (λ (w : Work). Ok (record p.state { work = w }))
made_is s at t init p =
    ap (λ (z : Result Made ElabFault). and_then (check at Incomplete (is_complete p.state.ctx (held t)))
    (λ x. and_then (check at NotConstant (is_trivial_class p.state.ctx (class_number (element_of t)))) (λ y. and_then z (λ (m : Made).
    and_then (cells_of p.state.ctx m.work m.tree) (λ cells. Ok (defined_global p.state p.place t m.work cells)))))) (global_is s p.state t at p.place init)
    ∙ four (check at Incomplete (is_complete p.state.ctx (held t))) (check at NotConstant (is_trivial_class p.state.ctx (class_number (element_of t))))
    (object_by s p.state.ctx p.state.work (global_object p.place t at) t at init)
    (λ (m : Made). cells_of p.state.ctx m.work m.tree)
    (λ (m : Made) (cells : List Cell). with_cells (record m.work { frame = p.state.work.frame }) p.place t cells)
    (λ (w : Work). record p.state { work = w })

-- A variable that may be declared

module _ (s : List Lexeme) (st : State) (x : Storage) (at : At) (name : List ℕ) (t : Typ) (init : syntax.Trees) (b defines : Bool)
    (h : global_declarable st at name t ≡ Ok b) (q : defines ≡ is_definition x init) where
  behind_test : global_declared s st x at name t init
      ≡ and_then (global_named st at name x t defines (innermost_of st.ctx.scopes name)) (λ (p : PlacedGlobal). global_declared_as s defines at t init p)
  behind_test = ap (λ (z : Result Bool ElabFault). and_then z
      (λ y. and_then (global_named st at name x t (is_definition x init) (innermost_of st.ctx.scopes name))
      (λ (p : PlacedGlobal). global_declared_as s (is_definition x init) at t init p))) h
      ∙ ap (λ (d : Bool). and_then (global_named st at name x t d (innermost_of st.ctx.scopes name)) (λ (p : PlacedGlobal). global_declared_as s d at t init p))
      (sym q)

  pub name_fails : (e : ElabFault) → Faults e (global_named st at name x t defines (innermost_of st.ctx.scopes name))
      → Faults e (global_declared s st x at name t init)
  name_fails e f = subst (λ (z : Result State ElabFault). Faults e z) (sym behind_test)
      (faults_then e (global_named st at name x t defines (innermost_of st.ctx.scopes name)) (λ (p : PlacedGlobal). global_declared_as s defines at t init p) f)

  placed_is : (p : PlacedGlobal) → global_named st at name x t defines (innermost_of st.ctx.scopes name) ≡ Ok p
      → global_declared s st x at name t init ≡ global_declared_as s defines at t init p
  placed_is p g = behind_test ∙ ap (λ (z : Result PlacedGlobal ElabFault). and_then z (λ (y : PlacedGlobal). global_declared_as s defines at t init y)) g

  pub only_declared_is : (p : PlacedGlobal) → global_named st at name x t defines (innermost_of st.ctx.scopes name) ≡ Ok p → defines ≡ false
      → global_declared s st x at name t init ≡ Ok p.state
  only_declared_is p g d = placed_is p g ∙ ap (λ (z : Bool). global_declared_as s z at t init p) d

  pub defined_is : (p : PlacedGlobal) → global_named st at name x t defines (innermost_of st.ctx.scopes name) ≡ Ok p → defines ≡ true
      → global_declared s st x at name t init ≡ and_then (global_made s p.state.ctx p.state.work at t init p.place)
      (λ (w : Work). Ok (record p.state { work = w }))
  defined_is p g d = placed_is p g ∙ ap (λ (z : Bool). global_declared_as s z at t init p) d ∙ made_is s at t init p
