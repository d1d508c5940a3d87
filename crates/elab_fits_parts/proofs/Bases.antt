-- What parenthesised values build as the base of an object.
use Rattle.std.proofs.Common.{refl, ℕ, Bool, List, [], ◌∷◌}
use Rattle.elab_rules.specs.cpp_types.Typ.{Typ}
use Rattle.elab_rules.specs.cpp_tree.Rows.{Setting}
use Rattle.elab_rules.specs.cpp_tree.Units.{Func as UnitFunc}
use Rattle.elab_rules.specs.elab_ctx.Ctx.{Ctx, Work}
use Rattle.elab_rules.specs.elab_ctx.Steps.{Operand, Made, TypedAll}
use Rattle.elab_rules.specs.Expressions.{operands_of}
use Rattle.elab_rules.specs.Members.{as_base_of}
use Rattle.elab_rules.specs.Statements.{State, all_lambdas, directly_initialised}
use Rattle.elab_fits.specs.Standing.{Reaches}
use Rattle.elab_fits.proofs.Steps.{answered}
use Rattle.elab_growth.proofs.Growth.{Behind, after}
use Rattle.elab_fits_objects.specs.Contexts.{IsSource, AreSources, IsInitialised}
use Rattle.elab_fits_objects.specs.Making.{Makes}
use Rattle.elab_fits_forms.specs.Forms.{ProperOperands}
use Rattle.elab_fits_forms.specs.Types.{is_lambda}
use Rattle.elab_fits_forms.proofs.Sources.{sources_of}
use Rattle.elab_fits_expressions.proofs.Expressions.{of_operands}
use Rattle.elab_fits_bodies.proofs.Contexts.{base_same, base_setting, object_same, makers_same}
use Rattle.state_growth.specs.Settings.{setting_at}
use Rattle.state_growth.proofs.Settings.{stand_law, reached_law}
use Rattle.state_growth.proofs.Lists.{behind}
use Rattle.state_growth.proofs.Works.{directly_grows, operands_grow}
use Rattle.elab_sound_types.proofs.Braces.{direct_kept}
use Rattle.elab_sound_types.proofs.Expressions.{operands_law, moved as sound_moved}
use Rattle.elab_sound_types.proofs.Globals as globals
use Rattle.elab_sound_types.proofs.Growth.{sound_more}
use Rattle.elab_sound_types.specs.Types.{variable as a_variable}
use Rattle.elab_throws_apart.proofs.Expressions.{operands_law as apart_operands}
use Rattle.elab_throws_apart.proofs.Initials.{initialisers_law}
use Rattle.elab_throws_apart.proofs.Trees.{MadeApart, no_throw_of}
use Rattle.elab_fits_states.specs.States.{Comes, IsVariableType}
use Rattle.elab_fits_states.specs.Premises.{GoesWell}
use Rattle.elab_fits_states.proofs.Discipline.{all_well, worked, all_made, object_here}
use Rattle.elab_fits_states.proofs.Good.{holds_of}
use Rattle.elab_fits_states.proofs.Making.{direct_made}
use Rattle.elab_fits_states.proofs.Reading.{comes_on, later}
use Rattle.elab_fits_states.proofs.Spelled.{all_spelled}
use Rattle.elab_fits_parts.specs.Bases.{BasesBuild}

-- In the context in which a base is made, types and operands are as before

source_same : (s : Setting) (c : Ctx) (n : ℕ) (l : ℕ → Bool) (o : Operand) → IsSource s c l o → IsSource s (as_base_of c n) l o
source_same s c n l o x = record { operand = x.operand; sorted = x.sorted; whole = x.whole; copied = x.copied }

sources_same : (s : Setting) (c : Ctx) (n : ℕ) (l : ℕ → Bool) (os : List Operand) → AreSources s c l os → AreSources s (as_base_of c n) l os
sources_same s c n l [] x = tt
sources_same s c n l (o ∷ os) (x, xs) = (source_same s c n l o x, sources_same s c n l os xs)

initialised_same : (c : Ctx) (n : ℕ) (l : ℕ → Bool) (t : Typ) → IsInitialised c l t → IsInitialised (as_base_of c n) l t
initialised_same c n l t x = record {
  value = λ e. let y = x.value e in record {
    formed = y.formed;
    referred = y.referred;
    object = λ i. object_same c (as_base_of c n) l (base_same c n) t (y.object i);
  };
  object = λ e. object_same c (as_base_of c n) l (base_same c n) t (x.object e);
}

-- what stood before works that went on stands behind them
reached_behind : (f : UnitFunc) (c : Ctx) (w v : Work) → Behind w v → Reaches (setting_at f c v) w
reached_behind f c w v b = record {
  frame = λ i t e. behind w.frame v.frame b.items b.frame i t e;
  globals = λ i g e. record { global = g; at = behind w.globals v.globals b.texts b.globals i g e; is = refl };
}

variable_later : (a b : State) (t : Typ) → Comes a b → IsVariableType a t → IsVariableType b t
variable_later a b t l h = record {
  sound = sound_more a.ctx.classes b.ctx.classes l.kept a_variable t h.sound;
  sized = λ z k. h.sized z (comes_on a b z l k);
}

pub bases_law : BasesBuild
bases_law f lams s g a x n t p q es xs m i h ts e k d =
    let l = answered (GoesWell f a) (all_lambdas lams s a es) x (all_well f lams s g a es i.good ts) e in
    let c : Ctx = as_base_of x.ctx n in
    let r = directly_initialised c xs.work t p xs.operands in
    let v = answered (λ (y : TypedAll). Behind x.work y.work) (operands_of s x.ctx x.work es) xs (operands_grow s x.ctx x.work es) k in
    let b = answered (λ (y : Made). Behind xs.work y.work) r m (directly_grows c xs.work t p xs.operands) d in
    let z : Setting = setting_at f x.ctx m.work in let y = holds_of f x l.good in
    all_made f lams s g a x t q m h l
    (worked f lams s g x m.work l.good (after v b) (sound_moved x.ctx xs.work m.work
    (operands_law s x.ctx x.ctx.closures x.work es xs l.good.sound.context l.good.sound.closures (all_spelled s es ts.spelled) k).work
    (answered (globals.made xs.work) r m (direct_kept c xs.work t p xs.operands) d)))
    (record {
      one = (answered (λ (y : Made). Reaches z y.work → Makes z t y.tree) r m
          (direct_made z c (is_lambda x.ctx.classes) (base_setting z x.ctx n (stand_law f x.ctx m.work y.setting.ordered))
          (makers_same x.ctx c (is_lambda x.ctx.classes) (base_same x.ctx n) y.makers) xs.work t p xs.operands
          (sources_same z x.ctx n (is_lambda x.ctx.classes) xs.operands
          (sources_of z x.ctx xs.operands (answered (λ (y : TypedAll). Reaches z y.work → ProperOperands z x.ctx y.operands) (operands_of s x.ctx x.work es) xs
          (of_operands s z x.ctx x.ctx.closures x.work es (later f x.ctx x.work m.work y) l.good.closures ts.spelled) k
          (reached_behind f x.ctx xs.work m.work b))))
          (initialised_same x.ctx n (is_lambda x.ctx.classes) t (object_here f lams s g x t l.good (variable_later a x t l.leads h)).initialised)) d
          (reached_law f x.ctx m.work)).one;
      no_throw = no_throw_of m.tree (answered MadeApart r m (initialisers_law.direct c xs.work t p xs.operands
          (apart_operands s x.ctx x.ctx.closures x.work es xs k)) d);
    })
