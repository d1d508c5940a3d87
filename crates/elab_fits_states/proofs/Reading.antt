-- Operands that are read, and what holds of them where more is made.
use Rattle.std.proofs.Common.{◌≡◌, refl, sym, ap, ◌∙◌, subst, List, [], Ok}
use Rattle.elab_rules.specs.cpp_lex.Tokens.{Lexeme}
use Rattle.elab_rules.specs.cpp_ast.Trees as syntax
use Rattle.elab_rules.specs.cpp_tree.Trees.{Tree}
use Rattle.elab_rules.specs.cpp_tree.Units.{Func as UnitFunc}
use Rattle.elab_rules.specs.cpp_tree.Rows.{Setting}
use Rattle.elab_rules.specs.elab_ctx.Ctx.{Ctx, Work, Closure}
use Rattle.elab_rules.specs.elab_ctx.Steps.{and_then, Operand, Typed}
use Rattle.elab_rules.specs.Values.{number}
use Rattle.elab_rules.specs.Names.{resolved}
use Rattle.elab_rules.specs.Expressions.{expression_of, chosen_operand}
use Rattle.elab_rules.specs.Statements.{State, Lambdas, Full, full_operand, with_work}
use Rattle.elab_fits.specs.Standing.{Reaches, On, IsSetting}
use Rattle.elab_fits.specs.Scalars.{IsZero}
use Rattle.elab_fits.proofs.Steps.{told, answered}
use Rattle.elab_growth.proofs.Growth.{Behind}
use Rattle.elab_fits_forms.specs.Meaning.{Proper, ProperOperand, MeansOperand}
use Rattle.elab_fits_forms.specs.Context.{Holds}
use Rattle.elab_fits_forms.specs.Names.{TypedMeans}
use Rattle.elab_fits_forms.proofs.Names.{resolved_stand}
use Rattle.elab_fits_expressions.proofs.Expressions.{of_expression}
use Rattle.elab_fits_statements.specs.Discipline.{HasRead, StandsSomewhere}
use Rattle.elab_fits_statements.proofs.States.{stands_then}
use Rattle.elab_fits_forms.proofs.Dropped.{operand_is}
use Rattle.setting_growth.proofs.Trees.{order_law}
use Rattle.state_growth.specs.Settings.{setting_at}
use Rattle.state_growth.proofs.Settings.{stand_law, reached_law, works_law}
use Rattle.state_growth.proofs.Judgements.{expressions_law}
use Rattle.state_growth.proofs.Works.{operand_grows}
use Rattle.state_growth.proofs.Going.{goes_on_law}
use Rattle.elab_growth.proofs.Kept.{follows}
use Rattle.elab_fits_states.specs.States.{IsText, Comes, IsGood, IsSettled, words}
use Rattle.elab_fits_states.specs.Premises.{KeepsGood, GoesWell}
use Rattle.elab_sound_types.proofs.Expressions.{Chosen, operand_sound}
use Rattle.elab_sound_types.proofs.Growth.{kept_joined}
use Rattle.elab_throws_apart.proofs.Expressions.{chosen_law}
use Rattle.elab_fits_states.proofs.Good.{holds_of, good_worked, leads_worked}
use Rattle.elab_fits_states.proofs.Spelled.{spelled}

pub comes_on : (a b c : State) → Comes a b → Comes b c → Comes a c
comes_on a b c h k = record {
  goes = goes_on_law a b c h.goes k.goes;
  kept = kept_joined a.ctx.classes b.ctx.classes c.ctx.classes h.kept k.kept;
}

-- the same context holds in a setting of its own
pub holds_as : (s x : Setting) (c : Ctx) (w : Work) → IsSetting x c → Holds s c w → Holds x c w
holds_as s x c w i h = record {
  setting = i;
  makers = h.makers;
  variables = h.variables;
  this = h.this;
  inside = h.inside;
  lambda = h.lambda;
  captures = h.captures;
  globals = h.globals;
  enumerators = h.enumerators;
  functions = h.functions;
  fields = h.fields;
  complete = h.complete;
  types = h.types;
  lambdas = h.lambdas;
  assignable = h.assignable;
  copyable = h.copyable;
}

-- the setting with more made
pub later : (f : UnitFunc) (c : Ctx) (w v : Work) → Holds (setting_at f c w) c w → Holds (setting_at f c v) c w
later f c w v h = holds_as (setting_at f c w) (setting_at f c v) c w (stand_law f c v h.setting.ordered) h

-- without lambdas at hand
proper_settled : (s : Setting) (c : Ctx) (l : List Closure) (e : Tree) → Proper s c e → Proper s (record c { closures = l }) e
proper_settled s c l e h = record { stands = h.stands; sound = h.sound; nothing = h.nothing; whole = h.whole; copied = h.copied }

pub operand_settled : (s : Setting) (c : Ctx) (l : List Closure) (o : Operand) → ProperOperand s c o → ProperOperand s (record c { closures = l }) o
operand_settled s c l o h = record { proper = proper_settled s c l o.tree h.proper; zero = h.zero }

-- with more made
pub operand_later : (f : UnitFunc) (c : Ctx) (w v : Work) (o : Operand) → Holds (setting_at f c w) c w → Behind w v → ProperOperand (setting_at f c w) c o
    → ProperOperand (setting_at f c v) c o
operand_later f c w v o h b x = record {
  proper = record {
    stands = expressions_law o.tree (setting_at f c w) (setting_at f c v) (order_law c.classes h.setting.ordered) (works_law f c w v (follows w v b)) x.proper.stands;
    sound = x.proper.sound;
    nothing = x.proper.nothing;
    whole = x.proper.whole;
    copied = x.proper.copied;
  };
  zero = x.zero;
}

-- The operand of an expression

zero_chosen : (c : Ctx) (e t : Tree) → IsZero e → resolved c e ≡ Ok t → IsZero t
zero_chosen c e t z h = record { kind = z.kind; place = z.place; is = ok t (sym (ap (resolved c) z.is) ∙ h) }
  where
    ok : (b : Tree) → resolved c (number z.kind 0 z.place) ≡ Ok b → b ≡ number z.kind 0 z.place
    ok b e = cc

module _ (f : UnitFunc) (lams : Lambdas) (s : List Lexeme) (p : KeepsGood f lams s) where
  holds : (x : State) → IsGood f x → Holds (setting_at f x.ctx x.work) x.ctx x.work
  holds x g = holds_of f x g

  -- in the setting of what was made with it
  pub read_one : (x : State) (e : syntax.Tree) (o : Typed) → IsGood f x → IsText s e → and_then (expression_of s x.ctx x.work e) (chosen_operand x.ctx) ≡ Ok o
      → ProperOperand (setting_at f x.ctx o.work) x.ctx o.operand
  read_one x e o g t k = answered (λ (y : Typed). y.work ≡ o.work → ProperOperand (setting_at f x.ctx o.work) x.ctx y.operand)
      (and_then (expression_of s x.ctx x.work e) (chosen_operand x.ctx)) o
      (told (λ (y : Typed). y.work ≡ o.work → ProperOperand (setting_at f x.ctx o.work) x.ctx y.operand) (expression_of s x.ctx x.work e) _ (λ y h. of_chosen y h)) k refl
    where
      S : Setting
      S = setting_at f x.ctx o.work

      means : (y : Typed) → expression_of s x.ctx x.work e ≡ Ok y → y.work ≡ o.work → MeansOperand S x.ctx y.operand
      means y h q = answered (TypedMeans S x.ctx) (expression_of s x.ctx x.work e) y
          (of_expression s S x.ctx x.ctx.closures x.work e (later f x.ctx x.work o.work (holds x g)) g.closures t.spelled) h
          (subst (λ (v : Work). Reaches S v) (sym q) (reached_law f x.ctx o.work))

      of_chosen : (y : Typed) → expression_of s x.ctx x.work e ≡ Ok y
          → On (λ (z : Typed). z.work ≡ o.work → ProperOperand S x.ctx z.operand) (chosen_operand x.ctx y)
      of_chosen y h = told (λ (z : Typed). z.work ≡ o.work → ProperOperand S x.ctx z.operand) (resolved x.ctx y.operand.tree) _ (λ u i q. record {
        proper = answered (Proper S x.ctx) (resolved x.ctx y.operand.tree) u
            (resolved_stand S x.ctx x.work y.operand.tree (later f x.ctx x.work o.work (holds x g)) (means y h q).means) i;
        zero = λ z. zero_chosen x.ctx y.operand.tree u ((means y h q).zero z) i;
      })

  -- its type is sound, and so is what was made with it
  pub sound_one : (x : State) (e : syntax.Tree) (o : Typed) → IsGood f x → IsText s e → and_then (expression_of s x.ctx x.work e) (chosen_operand x.ctx) ≡ Ok o
      → Chosen x.ctx o
  sound_one x e o g t k = answered (Chosen x.ctx) (and_then (expression_of s x.ctx x.work e) (chosen_operand x.ctx)) o
      (operand_sound s x.ctx x.ctx.closures x.work e g.sound.context g.sound.closures (spelled s e t.spelled)) k

  read_behind : (a x : State) (e : syntax.Tree) (o : Typed) → GoesWell f a x → IsText s e
      → and_then (expression_of s x.ctx x.work e) (chosen_operand x.ctx) ≡ Ok o
      → HasRead (words f s) a (record { operand = o.operand; state = with_work x o.work })
  read_behind a x e o l t k =
      let b = answered (λ (y : Typed). Behind x.work y.work) (and_then (expression_of s x.ctx x.work e) (chosen_operand x.ctx)) o
      (operand_grows s x.ctx x.work e) k in
      let i = sound_one x e o l.good t k in record {
        goes = record {
          good = good_worked f x l.good o.work b i.1;
          leads = comes_on a x (with_work x o.work) l.leads (leads_worked x o.work b);
          stands = stands_then a x (with_work x o.work) l.stands (record { label = refl; breaks = refl; continues = refl; typ = refl; past = λ i. i });
        };
        operand = record {
          proper = operand_settled (setting_at f x.ctx o.work) x.ctx [] o.operand (read_one x e o l.good t k);
          sound = i.0;
          apart = chosen_law s x.ctx x.ctx.closures x.work e o k;
        };
      }

  pub has_read : (a : State) (e : syntax.Tree) (u : Full) → IsSettled f a → IsText s e → full_operand lams s a e ≡ Ok u → HasRead (words f s) a u
  has_read a e u g t h = answered (HasRead (words f s) a) (full_operand lams s a e) u
      (told (HasRead (words f s) a) (lams s a e) _ (λ x i. told (HasRead (words f s) a) (and_then (expression_of s x.ctx x.work e) (chosen_operand x.ctx)) _
      (λ o k. read_behind a x e o (p a x e g.good t i) t k))) h

  pub is_constant : (a : State) (e : syntax.Tree) (o : Typed) → IsSettled f a → IsText s e
      → and_then (expression_of s a.ctx a.work e) (chosen_operand a.ctx) ≡ Ok o → StandsSomewhere o.operand
  is_constant a e o g t h = record {
    setting = setting_at f a.ctx o.work;
    operand = operand_is (setting_at f a.ctx o.work) a.ctx o.operand (read_one a e o g.good t h);
  }
