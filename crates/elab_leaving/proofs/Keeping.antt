-- Steps that leave what statements leave.
use Rattle.std.proofs.Common.{◌≡◌, ℕ, ◌≤◌, Bool, true, false, List, [], ◌∷◌, ◌++◌, length, take, drop, set, refl, sym, ap, ◌∙◌, Result, Ok, Err, arith}
use Rattle.std.specs.Prelude.{Option, Some, if◌then◌else◌}
use Rattle.std.proofs.Math.Seq.{take-append_seam, take-length}
use Rattle.std.proofs.lemmas.List.{take-take, take-set, length-take}
use Rattle.elab_rules.specs.cpp_names.Names.{Names, with_name}
use Rattle.elab_rules.specs.cpp_names.declared.entity.Entity.{Entity}
use Rattle.elab_rules.specs.cpp_types.Typ.{Typ}
use Rattle.elab_rules.specs.cpp_tree.declared.faults.ElabFault.{ElabFault}
use Rattle.elab_rules.specs.elab_ctx.Ctx.{Work, Variable, with_variable, next_place}
use Rattle.elab_rules.specs.elab_ctx.Steps.{and_then}
use Rattle.elab_rules.specs.Statements.{State, Done, Full, with_work, next_variable, declared_variable, auto_placed, inner, outer}
use Rattle.elab_leaving.specs.Kept.{Begins, Kept, kept_in, Keeps, Leaves, On}

-- Lists

pub begins_refl : {A : Type 0} (xs : List A) → Begins xs xs
begins_refl xs = record { is = take-length xs }

pub begins_more : {A : Type 0} (xs ys : List A) → Begins xs (xs ++ ys)
begins_more xs ys = record { is = take-append_seam xs ys }

shorter : {A : Type 0} (xs ys : List A) → take (length xs) ys ≡ xs → length xs ≤ length ys
shorter xs ys h = omega (arith, ap length h, length-take (length xs) ys)

pub begins_trans : {A : Type 0} (xs ys zs : List A) → Begins xs ys → Begins ys zs → Begins xs zs
begins_trans xs ys zs h k = record { is = sym (take-take (length xs) (length ys) zs (shorter xs ys h.is)) ∙ ap (take (length xs)) k.is ∙ h.is }

pub begins_set : {A : Type 0} (xs ys : List A) (y : A) → Begins xs ys → Begins xs (set ys (length xs) y)
begins_set xs ys y h = record { is = take-set ys (length xs) y ∙ h.is }

-- Answers

pub bind : {A B : Type 0} (P : A → Type 0) (Q : B → Type 0) (x : Result A ElabFault) (f : A → Result B ElabFault) → On P x → ((a : A) → P a → On Q (f a))
    → On Q (and_then x f)
bind P Q (Ok a) f h g = g a h
bind P Q (Err e) f h g = tt

-- a step of which nothing is asked
pub skip : {A B : Type 0} (Q : B → Type 0) (x : Result A ElabFault) (f : A → Result B ElabFault) → ((a : A) → On Q (f a)) → On Q (and_then x f)
skip Q (Ok a) f g = g a
skip Q (Err e) f g = tt

pub either : {A : Type 0} (P : A → Type 0) (b : Bool) (x y : Result A ElabFault) → On P x → On P y → On P (if b then x else y)
either P true x y h k = h
either P false x y h k = k

-- States

pub keeps_refl : (a : Kept) → Keeps a a
keeps_refl a = record {
  source = refl;
  round = refl;
  types = refl;
  defaults = refl;
  enumerators = refl;
  variables = begins_refl a.variables;
  classes = begins_refl a.classes;
  traits = begins_refl a.traits;
  slots = begins_refl a.slots;
  funcs = begins_refl a.funcs;
  globals = begins_refl a.globals;
  bodies = begins_refl a.bodies;
}

pub keeps_trans : (a b c : Kept) → Keeps a b → Keeps b c → Keeps a c
keeps_trans a b c h k = record {
  source = k.source ∙ h.source;
  round = k.round ∙ h.round;
  types = k.types ∙ h.types;
  defaults = k.defaults ∙ h.defaults;
  enumerators = k.enumerators ∙ h.enumerators;
  variables = begins_trans a.variables b.variables c.variables h.variables k.variables;
  classes = begins_trans a.classes b.classes c.classes h.classes k.classes;
  traits = begins_trans a.traits b.traits c.traits h.traits k.traits;
  slots = begins_trans a.slots b.slots c.slots h.slots k.slots;
  funcs = begins_trans a.funcs b.funcs c.funcs h.funcs k.funcs;
  globals = begins_trans a.globals b.globals c.globals h.globals k.globals;
  bodies = begins_trans a.bodies b.bodies c.bodies h.bodies k.bodies;
}

-- also where only what is said of the place of a statement is changed
pub stays : (st : State) → Leaves st st
stays st = keeps_refl (kept_in st)

pub after : (a b c : State) → Leaves a b → Leaves b c → Leaves a c
after a b c h k = keeps_trans (kept_in a) (kept_in b) (kept_in c) h k

-- what is made beside the typed trees grows
abbrev pub Grows : Work → Work → Type 0
Grows w v = Begins w.globals v.globals

pub work_kept : (st : State) (w : Work) → Grows st.work w → Leaves st (with_work st w)
work_kept st w h = record {
  source = refl;
  round = refl;
  types = refl;
  defaults = refl;
  enumerators = refl;
  variables = begins_refl st.ctx.variables;
  classes = begins_refl st.ctx.classes;
  traits = begins_refl st.ctx.traits;
  slots = begins_refl st.ctx.slots;
  funcs = begins_refl st.ctx.funcs;
  globals = h;
  bodies = begins_refl st.bodies;
}

named_round : (ss : List Names) (x : List ℕ) (e : Entity) → drop 1 (with_name ss x e) ≡ drop 1 ss
named_round [] x e = refl
named_round (s ∷ ss) x e = refl

-- one more variable, whose name stands in the innermost scope
pub variable_kept : (st : State) (name : List ℕ) (e : Entity) (v : Variable) → Leaves st (record st { ctx = with_variable st.ctx name e v })
variable_kept st name e v = record {
  source = refl;
  round = named_round st.ctx.scopes name e;
  types = refl;
  defaults = refl;
  enumerators = refl;
  variables = begins_more st.ctx.variables (v ∷ []);
  classes = begins_refl st.ctx.classes;
  traits = begins_refl st.ctx.traits;
  slots = begins_refl st.ctx.slots;
  funcs = begins_refl st.ctx.funcs;
  globals = begins_refl st.work.globals;
  bodies = begins_refl st.bodies;
}

pub unnamed_kept : (st : State) (v : Variable) → Leaves st (record st { ctx = record st.ctx { variables = st.ctx.variables ++ v ∷ [] } })
unnamed_kept st v = record {
  source = refl;
  round = refl;
  types = refl;
  defaults = refl;
  enumerators = refl;
  variables = begins_more st.ctx.variables (v ∷ []);
  classes = begins_refl st.ctx.classes;
  traits = begins_refl st.ctx.traits;
  slots = begins_refl st.ctx.slots;
  funcs = begins_refl st.ctx.funcs;
  globals = begins_refl st.work.globals;
  bodies = begins_refl st.bodies;
}

pub declared_kept : (st : State) (name : List ℕ) (t : Option Typ) → Leaves st (declared_variable st name t)
declared_kept st name t = variable_kept st name (next_variable st.ctx) (record { typ = t; place = next_place st.work })

-- the variable that came next gets its type
pub auto_kept : (a st : State) (t : Typ) → Leaves a st → Leaves a (auto_placed st (length a.ctx.variables) t)
auto_kept a st t h = record {
  source = h.source;
  round = h.round;
  types = h.types;
  defaults = h.defaults;
  enumerators = h.enumerators;
  variables = begins_set a.ctx.variables st.ctx.variables (record { typ = Some t; place = next_place st.work }) h.variables;
  classes = h.classes;
  traits = h.traits;
  slots = h.slots;
  funcs = h.funcs;
  globals = h.globals;
  bodies = h.bodies;
}

-- behind a statement with a scope of its own
pub out : (st b x : State) → Leaves (inner st) x → Leaves st (outer b x)
out st b x h = record {
  source = h.source;
  round = ap (drop 1) h.round;
  types = h.types;
  defaults = h.defaults;
  enumerators = h.enumerators;
  variables = h.variables;
  classes = h.classes;
  traits = h.traits;
  slots = h.slots;
  funcs = h.funcs;
  globals = h.globals;
  bodies = h.bodies;
}

-- Steps, one behind the other

abbrev pub of_state : State → State
of_state st = st

abbrev pub of_done : Done → State
of_done d = d.state

abbrev pub of_full : Full → State
of_full f = f.state

abbrev pub Ends : State → Done → Type 0
Ends st d = Leaves st d.state

-- from an earlier state
pub behind : {A : Type 0} (a b : State) (p : A → State) (r : Result A ElabFault) → Leaves a b → On (λ x. Leaves b (p x)) r → On (λ x. Leaves a (p x)) r
behind a b p (Ok x) h k = after a b (p x) h k
behind a b p (Err e) h k = tt

pub follow : {A B : Type 0} (p : A → State) (q : B → State) (a : State) (x : Result A ElabFault) (f : A → Result B ElabFault) → On (λ y. Leaves a (p y)) x
    → ((y : A) → On (λ z. Leaves (p y) (q z)) (f y)) → On (λ z. Leaves a (q z)) (and_then x f)
follow p q a (Ok y) f h k = behind a (p y) q (f y) h (k y)
follow p q a (Err e) f h k = tt

pub further : {A : Type 0} (w v : Work) (p : A → Work) (r : Result A ElabFault) → Grows w v → On (λ x. Grows v (p x)) r → On (λ x. Grows w (p x)) r
further w v p (Ok x) h k = begins_trans w.globals v.globals (p x).globals h k
further w v p (Err e) h k = tt

pub follow_work : {A B : Type 0} (p : A → Work) (q : B → Work) (w : Work) (x : Result A ElabFault) (f : A → Result B ElabFault) → On (λ y. Grows w (p y)) x
    → ((y : A) → On (λ z. Grows (p y) (q z)) (f y)) → On (λ z. Grows w (q z)) (and_then x f)
follow_work p q w (Ok y) f h k = further w (p y) q (f y) h (k y)
follow_work p q w (Err e) f h k = tt
