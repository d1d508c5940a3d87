-- Functions in their places, their indices in the records of classes, and functions that are the same.
use Rattle.std.proofs.Common.{◌≡◌, refl, sym, ap, ◌∙◌, subst, ℕ, zero, suc, ◌+◌, Bool, true, false, List, [], ◌∷◌, slice_get, Option, Some, None, eqb-true, eq-eqb, arith}
use Rattle.std.specs.Prelude.{if◌then◌else◌, ◌&&◌, map, filter, cond}
use Rattle.std.proofs.lemmas.Bool.{and_parts, and_from}
use Rattle.std.proofs.lemmas.Option.{same_Some}
use Rattle.std.specs.Str.{bytes_eq}
use Rattle.std.proofs.lemmas.Slice.Eq.{bytes_eq-Decides}
use Rattle.elab_rules.specs.cpp_types.Typ.{Typs, none, more}
use Rattle.elab_rules.specs.cpp_types.Equal.{typs_eq, typ_eq, flag_eq}
use Rattle.elab_rules.specs.cpp_types.Class.{Function}
use Rattle.elab_rules.specs.cpp_tree.declared.program.FuncKind.{FuncKind}
use Rattle.elab_rules.specs.cpp_tree.declared.program.FuncKind.TheVariants.{Plain, Constructor, Destructor, ClosureCall}
use Rattle.elab_rules.specs.elab_ctx.Ctx.{Func}
use Rattle.elab_rules.specs.Initialising.{signature_parameters, same_number}
use Rattle.elab_rules.specs.Names.{same_variable}
use Rattle.elab_rules.specs.Calls.{is_of_class, count_before}
use Rattle.elab_rules.specs.Functions.{first_from, same_kind}
use Rattle.elab_rules.specs.Classes.{own_functions}
use Rattle.elab_fits.proofs.Equal.{typ_same, typ_refl, flag_same, flag_refl}
use Rattle.elab_contexts.specs.Steps.{SameFunction, is_same_declared}
use Rattle.elab_contexts.proofs.Found.{At, Stay}

-- Indices

stay_behind : (f : Func) (old : List Func) (g : Func) (new : List Func) → Stay (f ∷ old) (g ∷ new) → Stay old new
stay_behind f old g new s = record { kept = λ k x e. let y = s.kept (suc k) x e in record { func = y.func; at = y.at; is = y.is } }

index_step : (n : ℕ) (f g : Func) → g.class ≡ f.class → (a b : ℕ) → a ≡ b
    → ((if is_of_class n g then 1 else 0) + a) ≡ ((if is_of_class n f then 1 else 0) + b)
index_step n f g e a b q = ap (λ (o : Option ℕ). (if same_number n o then 1 else 0) + a) e ∙ ap (λ (i : ℕ). (if same_number n f.class then 1 else 0) + i) q

-- a function keeps its index where functions stay
pub index_stays : (n k : ℕ) (f : Func) (old new : List Func) → Stay old new → slice_get old k ≡ Some f
    → count_before (is_of_class n) k new ≡ count_before (is_of_class n) k old
index_stays n zero f old new s e = refl
index_stays n (suc k) f [] new s e = absurd cc
index_stays n (suc k) f (x ∷ old) [] s e = absurd (no_at (s.kept 0 x refl))
  where
    no_at : At (SameFunction x) [] 0 → ⊥
    no_at y = let z : None ≡ Some y.func = y.at in absurd cc
index_stays n (suc k) f (x ∷ old) (y ∷ new) s e =
    let z = s.kept 0 x refl in
    let c : y.class ≡ x.class = ap (λ (g : Func). g.class) (same_Some y z.func z.at) ∙ z.is.class in
    index_step n x y c (count_before (is_of_class n) k new) (count_before (is_of_class n) k old)
    (index_stays n k f old new (stay_behind x old y new s) e)

after_one : (n : ℕ) → suc n ≡ 1 + n
after_one n = omega arith

after_none : (n : ℕ) → 0 + n ≡ n
after_none n = omega arith

-- the record of a class has its functions in their order
own_by : (n k : ℕ) (f x : Func) (fs : List Func) (b : Bool) → is_of_class n x ≡ b
    → slice_get (own_functions n fs) (count_before (is_of_class n) k fs) ≡ Some f.declared
    → slice_get (map (λ (g : Func). g.declared) (cond b (x ∷ filter (is_of_class n) fs) (filter (is_of_class n) fs)))
    ((if b then 1 else 0) + count_before (is_of_class n) k fs) ≡ Some f.declared
own_by n k f x fs true e h = subst (λ i. slice_get (map (λ (g : Func). g.declared) (x ∷ filter (is_of_class n) fs)) i ≡ Some f.declared) (after_one _) h
own_by n k f x fs false e h = subst (λ i. slice_get (map (λ (g : Func). g.declared) (filter (is_of_class n) fs)) i ≡ Some f.declared) (sym (after_none _)) h

first_own : (n : ℕ) (f : Func) (fs : List Func) (b : Bool) → b ≡ true
    → slice_get (map (λ (g : Func). g.declared) (cond b (f ∷ filter (is_of_class n) fs) (filter (is_of_class n) fs))) 0 ≡ Some f.declared
first_own n f fs true e = refl
first_own n f fs false e = absurd cc

pub own_at : (n k : ℕ) (f : Func) (fs : List Func) → slice_get fs k ≡ Some f → f.class ≡ Some n
    → slice_get (own_functions n fs) (count_before (is_of_class n) k fs) ≡ Some f.declared
own_at n zero f [] e c = absurd cc
own_at n (suc k) f [] e c = absurd cc
own_at n zero f (x ∷ fs) e c = subst (λ (y : Func). slice_get (own_functions n (x ∷ fs)) 0 ≡ Some y.declared) (same_Some x f e)
    (first_own n x fs (is_of_class n x) (ap (same_number n) (ap (λ (y : Func). y.class) (same_Some x f e) ∙ c) ∙ eq-eqb n n refl))
own_at n (suc k) f (x ∷ fs) e c = own_by n k f x fs (is_of_class n x) refl (own_at n k f fs e c)

-- and each index is that of a function
pub record IsIndexed (n i : ℕ) (g : Function) (fs : List Func) : Type 0 where
  pub place : ℕ
  pub func : Func
  pub at : slice_get fs place ≡ Some func
  pub class : func.class ≡ Some n
  pub is : func.declared ≡ g
  pub index : count_before (is_of_class n) place fs ≡ i

class_of_test : (n : ℕ) (o : Option ℕ) → same_number n o ≡ true → o ≡ Some n
class_of_test n None h = absurd cc
class_of_test n (Some m) h = ap (λ (k : ℕ). Some k) (eqb-true m n h)

indexed_by : (n i : ℕ) (g : Function) (x : Func) (fs : List Func) (b : Bool) → is_of_class n x ≡ b
    → ((i : ℕ) → slice_get (own_functions n fs) i ≡ Some g → IsIndexed n i g fs)
    → slice_get (map (λ (y : Func). y.declared) (cond b (x ∷ filter (is_of_class n) fs) (filter (is_of_class n) fs))) i ≡ Some g → IsIndexed n i g (x ∷ fs)
indexed_by n zero g x fs true e h q =
    record { place = 0; func = x; at = refl; class = class_of_test n x.class e; is = same_Some x.declared g q; index = refl }
indexed_by n (suc i) g x fs true e h q = let y = h i q in record {
  place = suc y.place;
  func = y.func;
  at = y.at;
  class = y.class;
  is = y.is;
  index = ap (λ (b : Bool). (if b then 1 else 0) + count_before (is_of_class n) y.place fs) e ∙ sym (after_one (count_before (is_of_class n) y.place fs)) ∙ ap suc y.index;
}
indexed_by n i g x fs false e h q = let y = h i q in record {
  place = suc y.place;
  func = y.func;
  at = y.at;
  class = y.class;
  is = y.is;
  index = ap (λ (b : Bool). (if b then 1 else 0) + count_before (is_of_class n) y.place fs) e ∙ after_none (count_before (is_of_class n) y.place fs) ∙ y.index;
}

pub indexed : (n i : ℕ) (g : Function) (fs : List Func) → slice_get (own_functions n fs) i ≡ Some g → IsIndexed n i g fs
indexed n i g [] e = absurd cc
indexed n i g (x ∷ fs) e = indexed_by n i g x fs (is_of_class n x) refl (λ j q. indexed n j g fs q) e

-- Functions that are the same

pub record Alike (f g : Func) : Type 0 where
  pub name : f.declared.name ≡ g.declared.name
  pub class : f.class ≡ g.class
  pub params : signature_parameters f.declared.signature ≡ signature_parameters g.declared.signature
  pub const : f.declared.is_const ≡ g.declared.is_const
  pub kind : f.kind ≡ g.kind

pub bytes_same : (a b : List ℕ) → bytes_eq a b ≡ true → a ≡ b
bytes_same a b h = (bytes_eq-Decides a b).0 h

pub bytes_itself : (a : List ℕ) → bytes_eq a a ≡ true
bytes_itself a = (bytes_eq-Decides a a).1 refl

pub typs_same : (s t : Typs) → typs_eq s t ≡ true → s ≡ t
typs_same none none h = refl
typs_same none (more t ts) h = absurd cc
typs_same (more s ss) none h = absurd cc
typs_same (more s ss) (more t ts) h = let p = and_parts (typ_eq s t) (typs_eq ss ts) h in let e = typ_same s t p.0 in let i = typs_same ss ts p.1 in cc

typs_itself : (ts : Typs) → typs_eq ts ts ≡ true
typs_itself none = refl
typs_itself (more t ts) = and_from (typ_eq t t) (typs_eq ts ts) (typ_refl t) (typs_itself ts)

variable_same : (a b : Option ℕ) → same_variable a b ≡ true → a ≡ b
variable_same None None h = refl
variable_same (Some m) (Some n) h = ap (λ (k : ℕ). Some k) (eqb-true m n h)
variable_same None (Some n) h = absurd cc
variable_same (Some m) None h = absurd cc

variable_itself : (a : Option ℕ) → same_variable a a ≡ true
variable_itself None = refl
variable_itself (Some n) = eq-eqb n n refl

pub kind_same : (a b : FuncKind) → same_kind a b ≡ true → a ≡ b
kind_same Plain Plain h = refl
kind_same Constructor Constructor h = refl
kind_same Destructor Destructor h = refl
kind_same ClosureCall ClosureCall h = refl
kind_same Plain Constructor h = absurd cc
kind_same Plain Destructor h = absurd cc
kind_same Plain ClosureCall h = absurd cc
kind_same Constructor Plain h = absurd cc
kind_same Constructor Destructor h = absurd cc
kind_same Constructor ClosureCall h = absurd cc
kind_same Destructor Plain h = absurd cc
kind_same Destructor Constructor h = absurd cc
kind_same Destructor ClosureCall h = absurd cc
kind_same ClosureCall Plain h = absurd cc
kind_same ClosureCall Constructor h = absurd cc
kind_same ClosureCall Destructor h = absurd cc

kind_itself : (a : FuncKind) → same_kind a a ≡ true
kind_itself Plain = refl
kind_itself Constructor = refl
kind_itself Destructor = refl
kind_itself ClosureCall = refl

-- the test says so, and asks for nothing else
pub alike_is : (g f : Func) → is_same_declared g f ≡ true → Alike f g
alike_is g f h =
    let n : Bool = bytes_eq f.declared.name g.declared.name in
    let v : Bool = same_variable f.class g.class in
    let p : Bool = typs_eq (signature_parameters f.declared.signature) (signature_parameters g.declared.signature) in
    let c : Bool = flag_eq f.declared.is_const g.declared.is_const in
    let e = and_parts (n && v && p && c) (same_kind f.kind g.kind) h in
    let d = and_parts (n && v && p) c e.0 in
    let b = and_parts (n && v) p d.0 in
    let a = and_parts n v b.0 in
    record {
      name = bytes_same f.declared.name g.declared.name a.0;
      class = variable_same f.class g.class a.1;
      params = typs_same (signature_parameters f.declared.signature) (signature_parameters g.declared.signature) b.1;
      const = flag_same f.declared.is_const g.declared.is_const d.1;
      kind = kind_same f.kind g.kind e.1;
    }

pub alike_says : (g f : Func) → Alike f g → is_same_declared g f ≡ true
alike_says g f h =
    let n : Bool = bytes_eq f.declared.name g.declared.name in
    let v : Bool = same_variable f.class g.class in
    let p : Bool = typs_eq (signature_parameters f.declared.signature) (signature_parameters g.declared.signature) in
    let c : Bool = flag_eq f.declared.is_const g.declared.is_const in
    and_from (n && v && p && c) (same_kind f.kind g.kind) (and_from (n && v && p) c (and_from (n && v) p (and_from n v
    (subst (λ (x : List ℕ). bytes_eq f.declared.name x ≡ true) h.name (bytes_itself f.declared.name))
    (subst (λ (x : Option ℕ). same_variable f.class x ≡ true) h.class (variable_itself f.class)))
    (subst (λ (x : Typs). typs_eq (signature_parameters f.declared.signature) x ≡ true) h.params (typs_itself (signature_parameters f.declared.signature))))
    (subst (λ (x : Bool). flag_eq f.declared.is_const x ≡ true) h.const (flag_refl f.declared.is_const)))
    (subst (λ (x : FuncKind). same_kind f.kind x ≡ true) h.kind (kind_itself f.kind))

pub turned : (f g : Func) → Alike f g → Alike g f
turned f g h = record { name = sym h.name; class = sym h.class; params = sym h.params; const = sym h.const; kind = sym h.kind }

-- none passes a test
none_by : (test : Func → Bool) (i k : ℕ) (x f : Func) (fs : List Func) (b : Bool) → test x ≡ b → (if b then Some i else first_from test (suc i) fs) ≡ None
    → (first_from test (suc i) fs ≡ None → (k : ℕ) → slice_get fs k ≡ Some f → test f ≡ false) → slice_get (x ∷ fs) k ≡ Some f → test f ≡ false
none_by test i k x f fs true t h r e = absurd cc
none_by test i zero x f fs false t h r e = subst (λ (y : Func). test y ≡ false) (same_Some x f e) t
none_by test i (suc k) x f fs false t h r e = r h k e

pub none_passes : (test : Func → Bool) (i : ℕ) (fs : List Func) → first_from test i fs ≡ None → (k : ℕ) (f : Func) → slice_get fs k ≡ Some f → test f ≡ false
none_passes test i [] h k f e = absurd cc
none_passes test i (x ∷ fs) h k f e = none_by test i k x f fs (test x) refl h (λ q j g. none_passes test (suc i) fs q j f g) e
