-- Declarations of members, and what is said of the same.
use Rattle.std.proofs.Common.{◌≡◌, ◌∙◌, ℕ, Bool, true, false, List, Option, Result, Ok, Err, if◌then◌else◌, refl, sym, ap, subst}
use Rattle.elab_entry.specs.cpp_lex.Tokens.{Lexeme}
use Rattle.elab_entry.specs.cpp_ast.Trees as syntax
use Rattle.elab_entry.specs.cpp_ast.declared.arena.At.{At as SyntaxAt}
use Rattle.elab_entry.specs.cpp_ast.declared.kinds.NodeKind.{NodeKind}
use Rattle.elab_entry.specs.cpp_ast.declared.kinds.NodeKind.TheVariants as k
use Rattle.elab_entry.specs.cpp_tree.declared.faults.ElabFault.{ElabFault}
use Rattle.elab_entry.specs.elab_ctx.declared.env.Work.{Work as WorkRec}
use Rattle.elab_entry.specs.elab_ctx.Steps.{each_of}
use Rattle.elab_entry.specs.elab_rules.Lambdas.{kids_of}
use Rattle.elab_entry.specs.elab_rules.Statements.{State, Lambdas}
use Rattle.elab_entry.specs.elab_scopes.declared.state.State.{State as StateRec}
use Rattle.elab_entry.specs.elab_scopes.States.{state_of, Grown}
use Rattle.elab_entry.specs.elab_scopes.Says.{Changed, Changes}
use Rattle.elab_entry.specs.elab_scopes.elab_expr.Unmoved.{Unmoved}
use Rattle.elab_entry.proofs.elab_scopes.Labelling.{unmoved_grown, unmoved_state}
use Rattle.elab_entry.proofs.elab_scopes.Standing.{grown_refl, grown_trans}
use Rattle.elab_members.specs.Initialisers.{default_of, defaults_of, declares_members}

pub declaring : (lams : Lambdas) (s : List Lexeme) (n : ℕ) (st : State) (kind : NodeKind) (p : SyntaxAt) (token : Option ℕ) (kids : syntax.Trees)
    → defaults_of lams s n st (syntax.node kind p token kids) ≡ (if declares_members kind then each_of (default_of lams s n) st kids else Ok st)
declaring lams s n st k.MemberDeclaration p token kids = refl
declaring lams s n st kind p token kids = refl

pub not_declaring : (lams : Lambdas) (s : List Lexeme) (n : ℕ) (st : State) (tree : syntax.Tree) (kind : NodeKind) (p : SyntaxAt) (token : Option ℕ)
    (kids : syntax.Trees) (b : Bool) → tree ≡ syntax.node kind p token kids → b ≡ declares_members kind → b ≡ false → defaults_of lams s n st tree ≡ Ok st
not_declaring lams s n st tree kind p token kids b e f g = ap (defaults_of lams s n st) e ∙ declaring lams s n st kind p token kids
    ∙ ap (λ (z : Bool). if z then each_of (default_of lams s n) st kids else Ok st) (sym f ∙ g)

pub is_declaring : (lams : Lambdas) (s : List Lexeme) (n : ℕ) (st : State) (tree : syntax.Tree) (kind : NodeKind) (p : SyntaxAt) (token : Option ℕ)
    (kids those : syntax.Trees) (b : Bool) → tree ≡ syntax.node kind p token kids → b ≡ declares_members kind → b ≡ true → those ≡ kids_of tree
    → defaults_of lams s n st tree ≡ each_of (default_of lams s n) st those
is_declaring lams s n st tree kind p token kids those b e f g h = ap (defaults_of lams s n st) e ∙ declaring lams s n st kind p token kids
    ∙ ap (λ (z : Bool). if z then each_of (default_of lams s n) st kids else Ok st) (sym f ∙ g) ∙ ap (each_of (default_of lams s n) st) (sym (h ∙ ap kids_of e))

pub changed_so : (a : StateRec) (x : Result State ElabFault) → x ≡ Ok (state_of a) → Changed a a x
changed_so a x e = record { grown = grown_refl a; is = e }

pub changes_so : (a c : StateRec) (r : Result (Unit {0}) ElabFault) (x y : Result State ElabFault) → y ≡ x → Changes a c r x → Changes a c r y
changes_so a c r x y e m = subst (λ (z : Result State ElabFault). Changes a c r z) (sym e) m

-- The same of the work at hand, of which nothing stays of what was made on the way

pub changed_here : (a : StateRec) (w : WorkRec) (x : Result State ElabFault) → Unmoved a.work w → Changed a a x → Changed a (record a { work = w }) x
changed_here a w x u m = record { grown = unmoved_grown a w u; is = m.is ∙ ap (λ (z : State). Ok z) (sym (unmoved_state a w u)) }

changes_grown : (a b c : StateRec) (r : Result (Unit {0}) ElabFault) (x : Result State ElabFault) → Grown a b → Changes b c r x → Changes a c r x
changes_grown a b c (Ok u) x g m = record { grown = grown_trans a b c g m.grown; is = m.is }
changes_grown a b c (Err e) x g m = m

pub changes_here : (a c : StateRec) (w : WorkRec) (r : Result (Unit {0}) ElabFault) (f : State → Result State ElabFault) → Unmoved a.work w
    → Changes (record a { work = w }) c r (f (state_of (record a { work = w }))) → Changes a c r (f (state_of a))
changes_here a c w r f u m = changes_grown a (record a { work = w }) c r (f (state_of a)) (unmoved_grown a w u)
    (subst (λ (z : State). Changes (record a { work = w }) c r (f z)) (unmoved_state a w u) m)
