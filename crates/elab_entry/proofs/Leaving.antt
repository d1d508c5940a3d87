-- Scopes that are closed, and lists that are cut.
use Rattle.std.proofs.Common.{◌≡◌, ℕ, suc, ◌-◌, ◌<◌, ◌≤◌, Bool, true, ◌↔◌, IsTrue, List, [], ◌∷◌, length, drop, refl, sym, ap, ◌∙◌, arith}
use Rattle.elab_stmt.specs.cpp_names.Names.{Names}
use Rattle.cpp_types.specs.Class.{Class, InOrder}
use Rattle.cpp_types.specs.Order.{all_consistent}
use Rattle.cpp_types.proofs.OrderTests.{order_is}
use Rattle.cpp_types.specs.Typ.{Typ}
use Rattle.elab_stmt.specs.elab_ctx.Ctx.{Variable, Returns}
use Rattle.elab_stmt.specs.elab_rules.Statements.{State}
use Rattle.elab_entry.specs.Round.{Round, scopes_by, variables_by, left_by}

-- one more is closed
scopes_fewer : (n : ℕ) (x : Names) (xs : List Names) → n < length (x ∷ xs) → scopes_by n xs ≡ scopes_by n (x ∷ xs)
scopes_fewer n x xs h =
    let e : length (x ∷ xs) - n ≡ suc (length xs - n) = omega arith in
    ap (λ (k : ℕ). drop k (x ∷ xs)) (sym e)

pub scopes_less : (n : ℕ) (xs all : List Names) → scopes_by n xs ≡ scopes_by n all → n < length xs → scopes_by n (drop 1 xs) ≡ scopes_by n all
scopes_less n [] all e h = absurd (omega arith)
scopes_less n (x ∷ xs) all e h = scopes_fewer n x xs h ∙ e

pub scopes_left : (n : ℕ) (xs all : List Names) → scopes_by n xs ≡ scopes_by n all → length xs ≤ n → xs ≡ scopes_by n all
scopes_left n xs all e h =
    let z : length xs - n ≡ 0 = omega arith in
    ap (λ (k : ℕ). drop k xs) (sym z) ∙ e

pub order_kept : (b : Bool) (classes : List Class) → b ≡ true → (IsTrue b ↔ InOrder classes) → all_consistent classes ≡ true
order_kept b classes h i = (order_is (all_consistent classes) classes refl).1 (i.0 h)

abbrev left_with : Round → State → List Names → List Variable → Returns → List Typ → State
left_with a st xs vs rs frame = record {
  ctx = record st.ctx {
    scopes = xs;
    variables = vs;
    this = a.this;
    class = a.class;
    returns = rs;
    breaks = a.breaks;
    continues = a.continues;
    label = a.label;
    labels = a.labels;
    lambda = a.lambda;
    closures = a.closures;
  };
  work = record st.work { frame = frame };
  bodies = st.bodies;
}

pub left_is : (a : Round) (st : State) (xs : List Names) (vs : List Variable) (rs : Returns) (frame : List Typ) → xs ≡ scopes_by a.scopes st.ctx.scopes
    → vs ≡ variables_by a.variables a.count st.ctx.variables → rs ≡ a.returns → frame ≡ a.frame → left_with a st xs vs rs frame ≡ left_by a st
left_is a st xs vs rs frame e f g h =
    ap (λ (z : List Names). left_with a st z vs rs frame) e
    ∙ ap (λ (z : List Variable). left_with a st (scopes_by a.scopes st.ctx.scopes) z rs frame) f
    ∙ ap (λ (z : Returns). left_with a st (scopes_by a.scopes st.ctx.scopes) (variables_by a.variables a.count st.ctx.variables) z frame) g
    ∙ ap (λ (z : List Typ). left_with a st (scopes_by a.scopes st.ctx.scopes) (variables_by a.variables a.count st.ctx.variables) a.returns z) h
