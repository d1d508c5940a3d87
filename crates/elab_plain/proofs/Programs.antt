-- The bodies that the units of a program show declare plainly.
use Rattle.std.proofs.Common.{◌≡◌, refl, sym, ap, ◌∙◌, subst, ℕ, zero, suc, true, List, [], ◌∷◌, slice_get, Option, Some, None, arith}
use Rattle.std.proofs.lemmas.Option.{same_Some}
use Rattle.elab_rules.specs.cpp_lex.Tokens.{Lexeme}
use Rattle.elab_rules.specs.cpp_ast.Trees as syntax
use Rattle.elab_rules.specs.cpp_tree.Trees.{Tree}
use Rattle.elab_rules.specs.cpp_tree.Units.{Unit, Func as UnitFunc}
use Rattle.elab_rules.specs.Statements.{State, Body}
use Rattle.elab_rules.specs.Units.{unit_from}
use Rattle.elab_rules.specs.Programs.{start_behind, body_of, tree_in, unit_shown}
use Rattle.elab_bodies.proofs.Shown.{shown_at, found}
use Rattle.elab_places.proofs.Steps.{held_by}
use Rattle.elab_program_bodies.specs.Units.{IsUnit}
use Rattle.elab_program_bodies.proofs.Programs.{come_law}
use Rattle.tree_fold.specs.Declaring.{declares_plainly}
use Rattle.elab_plain.specs.Plain.{BodiesPlain, ProgramsDeclarePlainly}
use Rattle.elab_plain.proofs.Declaring.{StatePlain}
use Rattle.elab_plain.proofs.Walk.{unit_plain}

behind_unit : (s : List Lexeme) (decls : syntax.Trees) (st : State) → IsUnit s decls st → StatePlain st
behind_unit s decls st u = held_by StatePlain (unit_from s (start_behind u.source u.before u.traits) decls) st
    (unit_plain s (start_behind u.source u.before u.traits) decls (record { defaults = tt; bodies = tt })) u.made

one_plain : (bs : List Body) → BodiesPlain bs → (i : ℕ) (b : Body) → slice_get bs i ≡ Some b → declares_plainly b.tree ≡ true
one_plain [] h i b e = absurd cc
one_plain (c ∷ bs) h zero b e = subst (λ (z : Body). declares_plainly z.tree ≡ true) (same_Some c b e) h.0
one_plain (c ∷ bs) h (suc i) b e = one_plain bs h.1 i b e

body_plain : (bodies : List Body) → BodiesPlain bodies → (k : ℕ) (o : Option Body) → body_of k bodies ≡ o → (tree : Tree)
    → tree_in o ≡ Some tree
    → declares_plainly tree ≡ true
body_plain bodies h k None e tree g = absurd cc
body_plain bodies h k (Some b) e tree g = let r = found k bodies b e in
    subst (λ (z : Tree). declares_plainly z ≡ true) (same_Some b.tree tree g) (one_plain bodies h r.place b r.at)

shown_plain : (s : List Lexeme) (decls : syntax.Trees) (st : State) → IsUnit s decls st → (k : ℕ) (f : UnitFunc) (tree : Tree)
    → slice_get (unit_shown s decls st).funcs k ≡ Some f → f.body ≡ Some tree → declares_plainly tree ≡ true
shown_plain s decls st u k f tree e g = let x = shown_at st 0 st.ctx.funcs k f k (omega arith) e in
    subst (λ (z : UnitFunc). z.body ≡ Some tree → declares_plainly tree ≡ true) x.is
    (body_plain st.bodies (behind_unit s decls st u).bodies k (body_of k st.bodies) refl tree) g

pub plain_law : ProgramsDeclarePlainly
plain_law sources p e = record {
  bodies = λ i k u f tree g q t. let c = come_law sources p e i u g in
      shown_plain c.source.tokens c.source.decls c.state c.is k f tree (ap (λ (z : Unit). slice_get z.funcs k) (sym c.shown) ∙ q) t;
}
