-- A unit begins in a good state, the first one and each behind others.
use Rattle.std.proofs.Common.{◌≡◌, refl, sym, ap, ◌∙◌, ℕ, zero, suc, Bool, true, false, List, slice_get, Option, Some, None}
use Rattle.std.proofs.lemmas.Option.{same_Some}
use Rattle.elab_rules.specs.cpp_tree.Units.{TypedProgram}
use Rattle.elab_rules.specs.elab_ctx.Ctx.{Func}
use Rattle.elab_rules.specs.Programs.{Source, start_behind, with_unit}
use Rattle.elab_rules.specs.Statements.{State}
use Rattle.elab_rules.specs.Units.{builtins, start}
use Rattle.elab_contexts.specs.Overriders.{HasOverridersBy}
use Rattle.elab_contexts.proofs.Holding.{starts_law, later_law}
use Rattle.elab_holds.proofs.Order.{listed_law}
use Rattle.elab_sound_units.proofs.Programs as sound
use Rattle.state_growth.proofs.Units.{begin_law}
use Rattle.elab_fits_units.specs.Good.{UnitGood}

-- what every unit knows belongs to no class, and is not implied
record IsFree (f : Func) : Type 0 where
  class : f.class ≡ None
  implicit : f.implicit ≡ false

free_from : (g f : Func) → Some g ≡ Some f → g.class ≡ None → g.implicit ≡ false → IsFree f
free_from g f e c i = let q = sym (same_Some g f e) in record { class = ap (λ (x : Func). x.class) q ∙ c; implicit = ap (λ (x : Func). x.implicit) q ∙ i }

builtin_free : (k : ℕ) (f : Func) → slice_get builtins k ≡ Some f → IsFree f
builtin_free zero f e = free_from _ f e refl refl
builtin_free (suc zero) f e = free_from _ f e refl refl
builtin_free (suc (suc zero)) f e = free_from _ f e refl refl
builtin_free (suc (suc (suc zero))) f e = free_from _ f e refl refl
builtin_free (suc (suc (suc (suc k)))) f e = absurd cc

no_class : (o : Option ℕ) (n : ℕ) (A : Type 0) → o ≡ None → o ≡ Some n → A
no_class None n A e h = absurd cc
no_class (Some m) n A e h = absurd cc

no_flag : (b : Bool) (A : Type 0) → b ≡ false → b ≡ true → A
no_flag true A e h = absurd cc
no_flag false A e h = absurd cc

pub by_any : (classes : List ℕ → Bool) → HasOverridersBy classes builtins
by_any classes k n f e c = no_class f.class n _ (builtin_free k f e).class c

pub start_good : (source : ℕ) → UnitGood (start source)
start_good source = record {
  unit = starts_law source;
  overriders = record { classes = λ name. false; by = by_any (λ name. false) };
  sound = sound.starts_law source;
  tidy = begin_law.0 source;
  implicits = λ k f e h. no_flag f.implicit _ (builtin_free k f e).implicit h;
  none = refl;
  bodies = record { each = λ i b e. absurd cc };
  defaults = λ f. record { each = λ i d e. absurd cc };
}

pub later_good : (source : ℕ) (p : TypedProgram) (x : Source) (st : State) → UnitGood st → UnitGood (start_behind source (with_unit p x st) st.ctx.traits)
later_good source p x st g = record {
  unit = later_law source p x st g.unit (listed_law st.ctx st.work g.sound.context);
  overriders = record { classes = λ name. false; by = by_any (λ name. false) };
  sound = sound.later_law source p x st g.sound;
  tidy = begin_law.1 source p x st g.tidy;
  implicits = λ k f e h. no_flag f.implicit _ (builtin_free k f e).implicit h;
  none = refl;
  bodies = record { each = λ i b e. absurd cc };
  defaults = λ f. record { each = λ i d e. absurd cc };
}
