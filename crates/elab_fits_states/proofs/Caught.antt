-- Objects of a type that may be caught can be variables.
use Rattle.std.proofs.Common.{◌≡◌, refl, subst, ℕ, Bool, true, false, not, ◌||◌, List, Result, Ok, Err, is_some}
use Rattle.std.proofs.lemmas.Bool.{and_parts}
use Rattle.elab_rules.specs.cpp_types.Typ.{Typ, typ, Form, int, enum, class, tx_ex, ref}
use Rattle.elab_rules.specs.cpp_types.Class.{completion_of}
use Rattle.elab_rules.specs.cpp_types.declared.classes.At.{At}
use Rattle.elab_rules.specs.cpp_lex.Tokens.{Lexeme}
use Rattle.elab_rules.specs.cpp_tree.declared.faults.ElabFault.{ElabFault}
use Rattle.elab_rules.specs.cpp_tree.declared.faults.IllRule.{IllRule}
use Rattle.elab_rules.specs.cpp_tree.declared.faults.IllRule.TheVariants.{BadCatch, OutOfProfile}
use Rattle.elab_rules.specs.cpp_tree.Typing.{form_in}
use Rattle.elab_rules.specs.cpp_tree.Units.{Func as UnitFunc}
use Rattle.elab_rules.specs.elab_ctx.Steps.{and_then, check}
use Rattle.elab_rules.specs.Objects.{is_array, traits_at}
use Rattle.elab_rules.specs.Names.{is_const_typ}
use Rattle.elab_rules.specs.Statements.{State, caught_form, caught_type}
use Rattle.elab_sound_types.specs.Types.{is_sound, is_sound_form, target, variable, denoted}
use Rattle.elab_fits_statements.specs.Discipline.{CanBeCaught}
use Rattle.elab_fits_states.specs.States.{setting, IsGood, IsSettled, IsVariableType, words}
use Rattle.elab_fits_states.proofs.Good.{holds_of, earlier_of, comes_still}
use Rattle.elab_fits_states.proofs.Variables.{declares, sized, variable_type}

module _ (f : UnitFunc) where
  checked_true : (at : At) (rule : IllRule) (c x : Bool) → check at rule c ≡ Ok x → c ≡ true
  checked_true at rule true x h = refl
  checked_true at rule false x h = absurd cc

  class_is : (n k : ℕ) → class n ≡ class k → n ≡ k
  class_is n k e = cc

  of_type : (a : State) (t : Typ) → IsGood f a → is_sound a.ctx.classes variable t ≡ true → is_array t ≡ false
      → ((n : ℕ) → form_in t ≡ class n → is_some (completion_of a.ctx.classes n) ≡ true) → IsVariableType a t
  of_type a t g i n c = variable_type a t (earlier_of f a g) i (sized (setting f a) a.ctx a.work (holds_of f a g) t i n c)

  caught_by : (a : State) (at : At) (g : Form) (q v x : Bool) → IsGood f a → caught_form a.ctx at g ≡ Ok x → is_sound_form a.ctx.classes target (q || v) g ≡ true
      → IsVariableType a (typ g q v)
  caught_by a at (int j) q v x h e i = of_type a (typ (int j) q v) h refl refl (λ n d. absurd cc)
  caught_by a at (enum m s) q v x h e i = of_type a (typ (enum m s) q v) h refl refl (λ n d. absurd cc)
  caught_by a at (class m) q v x h e i = of_type a (typ (class m) q v) h i refl (λ n d.
      subst (λ (k : ℕ). is_some (completion_of a.ctx.classes k) ≡ true) (class_is m n d)
      (h.sound.context.copied m (checked_true at BadCatch (traits_at a.ctx m).is_trivially_copyable x e)))
  caught_by a at (tx_ex (typ t c d)) q v x h e i = of_type a (typ (tx_ex (typ t c d)) q v) h i refl (λ n d. absurd cc)
  caught_by a at g q v x h e i = absurd cc

  type_told : (t u : Typ) → ◌≡◌ {A = Result Typ ElabFault} (Ok t) (Ok u) → t ≡ u
  type_told t u h = cc

  ok_told : (A : Type 0) (r : Result Bool ElabFault) (t u : Typ) → and_then r (λ z. Ok t) ≡ Ok u → ((x : Bool) → r ≡ Ok x → t ≡ u → A) → A
  ok_told A (Ok x) t u h f = f x refl (type_told t u h)
  ok_told A (Err e) t u h f = absurd cc

  behind_step : {A : Type 0} (r : Result A ElabFault) (x : Result Typ ElabFault) (u : Typ) → and_then r (λ k. x) ≡ Ok u → x ≡ Ok u
  behind_step (Ok a) x u h = h
  behind_step (Err f) x u h = absurd cc

  -- what is caught by value is no reference, and what a reference refers to may be caught
  as_target : (a : State) (at : At) (g : Form) (own x : Bool) → caught_form a.ctx at g ≡ Ok x → is_sound_form a.ctx.classes denoted own g ≡ true
      → is_sound_form a.ctx.classes target own g ≡ true
  as_target a at (int j) own x e i = refl
  as_target a at (enum m s) own x e i = refl
  as_target a at (class m) own x e i = i
  as_target a at (tx_ex (typ t c d)) own x e i = i
  as_target a at g own x e i = absurd cc

  caught_typ : (a : State) (at : At) (t u : Typ) (x : Bool) → IsGood f a → caught_form a.ctx at (form_in t) ≡ Ok x → t ≡ u
      → is_sound a.ctx.classes target t ≡ true → IsVariableType a u
  caught_typ a at (typ g q v) u x h e r i = subst (λ (z : Typ). IsVariableType a z) r (caught_by a at g q v x h e i)

  value_typ : (a : State) (at : At) (t u : Typ) (x : Bool) → IsGood f a → caught_form a.ctx at (form_in t) ≡ Ok x → t ≡ u
      → is_sound a.ctx.classes denoted t ≡ true → IsVariableType a u
  value_typ a at (typ g q v) u x h e r i = caught_typ a at (typ g q v) u x h e r (as_target a at g (q || v) x e i)

  caught_in : (a : State) (at : At) (t u : Typ) → IsGood f a → caught_type a.ctx at t ≡ Ok u → is_sound a.ctx.classes denoted t ≡ true → IsVariableType a u
  caught_in a at (typ (ref t) q v) u h e i = ok_told (IsVariableType a u) (caught_form a.ctx at (form_in t)) t u
      (behind_step (check at OutOfProfile (is_const_typ t)) (and_then (caught_form a.ctx at (form_in t)) (λ z. Ok t)) u e)
      (λ x n r. caught_typ a at t u x h n r (and_parts (not (q || v)) (is_sound a.ctx.classes target t) i).1)
  caught_in a at (typ g q v) u h e i = ok_told (IsVariableType a u) (caught_form a.ctx at g) (typ g q v) u e
      (λ x n r. value_typ a at (typ g q v) u x h n r i)

  pub can_be_caught : (s : List Lexeme) (a : State) (at : At) (t u : Typ) → IsSettled f a → is_sound a.ctx.classes denoted t ≡ true
      → caught_type a.ctx at t ≡ Ok u → CanBeCaught (words f s) a u
  can_be_caught s a at t u g w e = let x = caught_in a at t u g.good e w in
      let y = declares (setting f a) a.ctx a.work (holds_of f a g.good) u x.sound (x.sized a (comes_still a)) in record {
        object = x;
        sized = x.sized a (comes_still a);
        ready = y.ready;
      }
