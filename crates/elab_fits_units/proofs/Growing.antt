-- The bodies and the initialisers that a state has fit in a state whose unit has grown, whatever its frame.
use Rattle.std.proofs.Common.{◌≡◌, sym, ap, ◌∙◌, subst, ℕ, zero, suc, true, List, [], ◌∷◌, ◌++◌, slice_get, Some}
use Rattle.std.proofs.lemmas.Option.{same_Some}
use Rattle.elab_rules.specs.cpp_types.Class.{Function}
use Rattle.elab_rules.specs.cpp_tree.declared.roles.Role.TheVariants.{Statement}
use Rattle.elab_rules.specs.cpp_tree.WellFormed.{fits, outermost}
use Rattle.elab_rules.specs.cpp_tree.Units.{Func as UnitFunc}
use Rattle.elab_rules.specs.elab_ctx.Ctx.{Ctx, Func, Default}
use Rattle.elab_rules.specs.Statements.{State, Body}
use Rattle.elab_contexts.specs.Holding.{UnitHolds}
use Rattle.elab_fits_braces.specs.Defaults.{AllDefaultsFit, DefaultsStay}
use Rattle.setting_growth.specs.Growth.{HeldEarlier}
use Rattle.setting_growth.proofs.Trees.{fits_law}
use Rattle.state_growth.specs.Settings.{setting_at, shown, SameDeclared, HasDeclared}
use Rattle.state_growth.proofs.Settings.{states_law, funcs_grow}
use Rattle.state_growth.proofs.Steps.{seen, Seen, Steps, Leaves, kept_trans, state_grows}
use Rattle.elab_fits_states.specs.States.{setting}
use Rattle.elab_fits_states.specs.Made.{MadeFits, AllBodiesFit}

-- the unit has grown, whatever the frame
abbrev pub bare : State → Seen
bare st = record (seen st) { frame = [] }

abbrev pub Over : State → State → Type 0
Over a b = Steps (bare a) (bare b)

pub over : (a b : State) → Leaves a b → Over a b
over a b h = record {
  kept = record {
    classes = h.kept.classes;
    numbers = h.kept.numbers;
    slots = h.kept.slots;
    funcs = h.kept.funcs;
    globals = h.kept.globals;
    frame = λ i t e. e;
  };
  tidy = λ t. let u = h.tidy (record { many = t.many; empty = t.empty; numbered = t.numbered }) in
      record { many = u.many; empty = u.empty; numbered = u.numbered };
}

pub over_then : (a b c : State) → Over a b → Over b c → Over a c
over_then a b c g h = record { kept = kept_trans (bare a) (bare b) (bare c) g.kept h.kept; tidy = λ t. h.tidy (g.tidy t) }

pub held_earlier : (c : Ctx) → UnitHolds c → HeldEarlier c.classes
held_earlier c u = record { earlier = λ n k i e f. u.earlier n k i e f }

-- Bodies

-- a body with its frame, of a function that is declared as before
pub body_over : (a b : State) (x : Body) (f g : Func) → HeldEarlier a.ctx.classes → Over a b → SameDeclared f g
    → fits (setting_at (shown a.ctx.classes f) a.ctx (record a.work { frame = x.frame })) outermost Statement x.tree ≡ true
    → fits (setting_at (shown b.ctx.classes g) b.ctx (record b.work { frame = x.frame })) outermost Statement x.tree ≡ true
body_over a b x f g o k s h = fits_law (setting_at (shown a.ctx.classes f) a.ctx (record a.work { frame = x.frame }))
    (setting_at (shown b.ctx.classes g) b.ctx (record b.work { frame = x.frame })) o
    (states_law (shown a.ctx.classes f) (shown b.ctx.classes g) (record a { work = record a.work { frame = x.frame } })
    (record b { work = record b.work { frame = x.frame } }) s.kind (ap (λ (z : Function). z.signature) s.declared)
    (state_grows (record a { work = record a.work { frame = x.frame } }) (record b { work = record b.work { frame = x.frame } }) (record {
      classes = k.kept.classes;
      numbers = k.kept.numbers;
      slots = k.kept.slots;
      funcs = k.kept.funcs;
      globals = k.kept.globals;
      frame = λ i t e. e;
    }))) outermost Statement x.tree h

pub made_over : (a b : State) (x : Body) → HeldEarlier a.ctx.classes → Over a b → MadeFits a x → MadeFits b x
made_over a b x o k m = let g : HasDeclared b.ctx.funcs x.func m.func = k.kept.funcs.kept x.func m.func m.at in
    record { func = g.func; at = g.at; fits = body_over a b x m.func g.func o k g.same m.fits }

pub bodies_over : (a b : State) → HeldEarlier a.ctx.classes → Over a b → b.bodies ≡ a.bodies → AllBodiesFit a → AllBodiesFit b
bodies_over a b o k e h = record {
  each = λ i x q. made_over a b x o k (h.each i x (ap (λ (xs : List Body). slice_get xs i) (sym e) ∙ q));
}

-- the last of a list, or one before it
more_at : {A : Type 0} (P : A → Type 0) (xs : List A) (y : A) (i : ℕ) (x : A) → slice_get (xs ++ y ∷ []) i ≡ Some x → (slice_get xs i ≡ Some x → P x) → P y → P x
more_at P [] y zero x e f g = subst P (same_Some y x e) g
more_at P [] y (suc i) x e f g = absurd cc
more_at P (z ∷ xs) y zero x e f g = f e
more_at P (z ∷ xs) y (suc i) x e f g = more_at P xs y i x e f g

-- one more body
pub one_more : (a b : State) (y : Body) → HeldEarlier a.ctx.classes → Over a b → b.bodies ≡ a.bodies ++ y ∷ [] → AllBodiesFit a → MadeFits b y → AllBodiesFit b
one_more a b y o k e h m = record {
  each = λ i x q. more_at (MadeFits b) a.bodies y i x (ap (λ (xs : List Body). slice_get xs i) (sym e) ∙ q)
      (λ r. made_over a b x o k (h.each i x r)) m;
}

-- Initialisers

pub defaults_over : DefaultsStay → (f g : UnitFunc) (a b : State) → HeldEarlier a.ctx.classes → Over a b → b.ctx.defaults ≡ a.ctx.defaults
    → AllDefaultsFit (setting f a) a.ctx.defaults → AllDefaultsFit (setting g b) b.ctx.defaults
defaults_over d f g a b o k e h = subst (λ (z : List Default). AllDefaultsFit (setting g b) z) (sym e)
    (d (setting f a) (setting g b) a.ctx.defaults o (record {
      classes = k.kept.classes;
      slots = k.kept.slots;
      funcs = funcs_grow a.ctx.classes b.ctx.classes a.ctx.funcs b.ctx.funcs k.kept.funcs;
      globals = k.kept.globals;
    }) h)

-- Contexts of the same unit

pub unit_as : (a b : Ctx) → UnitHolds a
    → UnitHolds (record b { classes = a.classes; traits = a.traits; slots = a.slots; funcs = a.funcs; enumerators = a.enumerators; types = a.types })
unit_as a b h = record {
  many = h.many;
  destructors = λ n k e. let x = h.destructors n k e in record { func = x.func; at = x.at; kind = x.kind; class = x.class };
  copies = λ n k e. let x = h.copies n k e in record {
    maker = record { func = x.maker.func; at = x.maker.at; kind = x.maker.kind; class = x.maker.class };
    takes = x.takes;
  };
  defaults = λ n k e. let x = h.defaults n k e in record {
    maker = record { func = x.maker.func; at = x.maker.at; kind = x.maker.kind; class = x.maker.class };
    takes = x.takes;
  };
  bare = h.bare;
  builtins = h.builtins;
  free = h.free;
  owned = h.owned;
  recorded = h.recorded;
  slotted = h.slotted;
  objects = h.objects;
  numbered = h.numbered;
  earlier = h.earlier;
  based = h.based;
  bases = h.bases;
  members = h.members;
  nameless = h.nameless;
  sized = h.sized;
  enumerators = h.enumerators;
  types = h.types;
}
