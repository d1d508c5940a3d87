-- The function that a definition is for stands in its place, with what its header says.
use Rattle.std.proofs.Common.{◌≡◌, refl, ap, ◌∙◌, subst, ℕ, zero, suc, ◌+◌, Bool, true, false, not, ◌&&◌, ◌||◌, List, [], ◌∷◌, ◌++◌, length, slice_get, arith}
use Rattle.std.proofs.Common.{Option, Some, None, is_some, unwrap_or, Result, Ok, Err, eqb-true}
use Rattle.std.specs.Prelude.{slice_set, if◌then◌else◌, ◌==◌}
use Rattle.std.specs.Str.{bytes_eq}
use Rattle.std.proofs.lemmas.Bool.{and_parts}
use Rattle.std.proofs.lemmas.Option.{same_Some}
use Rattle.elab_rules.specs.cpp_types.Equal.{typ_eq, typs_eq, flag_eq}
use Rattle.elab_rules.specs.cpp_types.Class.{Function}
use Rattle.elab_rules.specs.cpp_tree.declared.program.Linkage.TheVariants.{Inline}
use Rattle.elab_rules.specs.cpp_types.declared.classes.At.{At}
use Rattle.elab_rules.specs.cpp_tree.declared.program.FuncKind.{FuncKind}
use Rattle.elab_rules.specs.cpp_tree.declared.program.FuncKind.TheVariants.{Plain, Constructor, Destructor, ClosureCall}
use Rattle.elab_rules.specs.cpp_tree.declared.faults.ElabFault.{ElabFault}
use Rattle.elab_rules.specs.cpp_tree.declared.faults.IllRule.{IllRule}
use Rattle.elab_rules.specs.cpp_tree.declared.faults.IllRule.TheVariants.{BadDeclaration, OutOfProfile, Redeclared, SafetyDiffers, TypeDiffers, NoMember}
use Rattle.elab_rules.specs.elab_ctx.Ctx.{Ctx, Func}
use Rattle.elab_rules.specs.elab_ctx.Steps.{and_then, check, expect}
use Rattle.elab_rules.specs.Initialising.{func_at, no_function, signature_parameters, signature_result}
use Rattle.elab_rules.specs.Names.{same_variable}
use Rattle.elab_rules.specs.Functions.{Header, Placed, Storage, new_function, is_same_function, first_from, agrees, same_safety, safety_of, is_internal, same_kind}
use Rattle.elab_rules.specs.Functions.{name_declared, declared_in, main_fits, may_be_c, dynamic_fits, header_sized}
use Rattle.elab_rules.specs.Functions.{function_declared, defined_function, with_definition}
use Rattle.elab_rules.specs.Classes.{token_end}
use Rattle.elab_rules.specs.Members.{late_agrees, late_kept, outside_linkage, outside_text, linked_definition, with_noexcept}
use Rattle.elab_fits.specs.Standing.{On}
use Rattle.elab_fits.proofs.Equal.{typ_same}
use Rattle.elab_fits.proofs.Steps.{told, answered, bind, skip, checked}
use Rattle.elab_fits_units.specs.Definitions.{IsDefinition, DeclaredAreDefined, MethodsAreDefined, OutsideAreDefined}

-- Answers

-- a step that is told with what is behind it
pub record Split {A B : Type 0} (r : Result A ElabFault) (f : A → Result B ElabFault) (q : B) : Type 0 where
  pub answer : A
  pub is : r ≡ Ok answer
  pub behind : f answer ≡ Ok q

pub split : {A B : Type 0} (r : Result A ElabFault) (f : A → Result B ElabFault) (q : B) → and_then r f ≡ Ok q → Split r f q
split (Ok a) f q e = record { answer = a; is = refl; behind = e }
split (Err x) f q e = absurd cc

-- Lists of functions

record Found (test : Func → Bool) (fs : List Func) (i j : ℕ) : Type 0 where
  off : ℕ
  is : i ≡ j + off
  func : Func
  at : slice_get fs off ≡ Some func
  passes : test func ≡ true

found_by : (test : Func → Bool) (j : ℕ) (f : Func) (fs : List Func) (i : ℕ) (b : Bool) → test f ≡ b → (first_from test (suc j) fs ≡ Some i → Found test fs i (suc j))
    → (if b then Some j else first_from test (suc j) fs) ≡ Some i → Found test (f ∷ fs) i j
found_by test j f fs i true e k h = let g = same_Some j i h in record { off = 0; is = omega arith; func = f; at = refl; passes = e }
found_by test j f fs i false e k h = let r = k h in let g = r.is in
    record { off = suc r.off; is = omega arith; func = r.func; at = r.at; passes = r.passes }

found : (test : Func → Bool) (j : ℕ) (fs : List Func) (i : ℕ) → first_from test j fs ≡ Some i → Found test fs i j
found test j [] i h = absurd cc
found test j (f ∷ fs) i h = found_by test j f fs i (test f) refl (found test (suc j) fs i) h

record Stands_at (test : Func → Bool) (fs : List Func) (i : ℕ) : Type 0 where
  func : Func
  at : slice_get fs i ≡ Some func
  passes : test func ≡ true

found_at : (test : Func → Bool) (fs : List Func) (i : ℕ) → first_from test 0 fs ≡ Some i → Stands_at test fs i
found_at test fs i h = let r = found test 0 fs i h in let g = r.is in
    record { func = r.func; at = ap (λ (n : ℕ). slice_get fs n) (omega arith) ∙ r.at; passes = r.passes }

pub at_func : (fs : List Func) (i : ℕ) (f : Func) → slice_get fs i ≡ Some f → func_at fs i ≡ f
at_func fs i f h = ap (λ (o : Option Func). unwrap_or o no_function) h

pub set_at : (fs : List Func) (n : ℕ) (g f : Func) → slice_get fs n ≡ Some f → slice_get (slice_set fs n g) n ≡ Some g
set_at [] n g f e = absurd cc
set_at (x ∷ fs) zero g f e = refl
set_at (x ∷ fs) (suc n) g f e = set_at fs n g f e

pub at_end : (fs : List Func) (f : Func) → slice_get (fs ++ f ∷ []) (length fs) ≡ Some f
at_end [] f = refl
at_end (x ∷ fs) f = at_end fs f

-- The same function

kind_same : (a b : FuncKind) → same_kind a b ≡ true → a ≡ b
kind_same Plain Plain h = refl
kind_same Constructor Constructor h = refl
kind_same Destructor Destructor h = refl
kind_same ClosureCall ClosureCall h = refl
kind_same a b h = absurd cc

class_same : (a b : Option ℕ) → same_variable a b ≡ true → a ≡ b
class_same None None h = refl
class_same (Some n) (Some m) h = ap Some (eqb-true n m h)
class_same (Some n) None h = absurd cc
class_same None (Some m) h = absurd cc

-- a function with the result, the kind and the class of the header
record Matches (h : Header) (f : Func) : Type 0 where
  result : signature_result f.declared.signature ≡ signature_result h.signature
  kind : f.kind ≡ h.kind
  class : f.class ≡ h.class

matches : (h : Header) (f : Func) → is_same_function h f ≡ true → signature_result f.declared.signature ≡ signature_result h.signature → Matches h f
matches h f t r =
    let p = and_parts (bytes_eq f.declared.name h.name && same_variable f.class h.class
    && typs_eq (signature_parameters f.declared.signature) (signature_parameters h.signature) && flag_eq f.declared.is_const h.qualifiers.is_const)
    (same_kind f.kind h.kind) t in
    let q = and_parts (bytes_eq f.declared.name h.name && same_variable f.class h.class
    && typs_eq (signature_parameters f.declared.signature) (signature_parameters h.signature)) (flag_eq f.declared.is_const h.qualifiers.is_const) p.0 in
    let u = and_parts (bytes_eq f.declared.name h.name && same_variable f.class h.class)
    (typs_eq (signature_parameters f.declared.signature) (signature_parameters h.signature)) q.0 in
    let v = and_parts (bytes_eq f.declared.name h.name) (same_variable f.class h.class) u.0 in
    record { result = r; kind = kind_same f.kind h.kind p.1; class = class_same f.class h.class v.1 }

-- where it is defined by the header, it is the one that the header defines
defined_in : (c : Ctx) (i : ℕ) (h : Header) (text : List ℕ) (closed : ℕ) (f : Func) → slice_get c.funcs i ≡ Some f → Matches h f
    → IsDefinition (with_definition c i h text closed) h i
defined_in c i h text closed f e m = let g : Func = func_at c.funcs i in let s = at_func c.funcs i f e in record {
  func = defined_function g h text closed;
  at = set_at c.funcs i (defined_function g h text closed) f e;
  result = ap (λ (x : Func). signature_result x.declared.signature) s ∙ m.result;
  kind = ap (λ (x : Func). x.kind) s ∙ m.kind;
  class = ap (λ (x : Func). x.class) s ∙ m.class;
  params = refl;
  defined = refl;
}

-- At file scope

record Placed_as (h : Header) (p : Placed) : Type 0 where
  func : Func
  at : slice_get p.ctx.funcs p.place ≡ Some func
  matches : Matches h func

anyway : (P : Type 0) (r : Result Bool ElabFault) → P → On (λ (x : Bool). P) r
anyway P (Ok x) h = h
anyway P (Err e) h = tt

agreeing : (h : Header) (f : Func) (b : Bool) → On (λ (x : Bool). signature_result f.declared.signature ≡ signature_result h.signature) (agrees h f b)
agreeing h f b = let Q : Bool → Type 0 = λ (x : Bool). signature_result f.declared.signature ≡ signature_result h.signature in
    checked Q h.at TypeDiffers (typ_eq (signature_result f.declared.signature) (signature_result h.signature)) _
    (λ r. skip Q (check h.at SafetyDiffers (same_safety f.declared.safety (safety_of h.qualifiers))) _
    (λ x. skip Q (check h.at BadDeclaration (flag_eq f.declared.no_except h.qualifiers.no_except && not (h.storage.is_static && not (is_internal f.linkage)))) _
    (λ d. anyway (signature_result f.declared.signature ≡ signature_result h.signature) (check h.at Redeclared (not (b && (f.is_defined || is_some f.builtin))))
    (typ_same (signature_result f.declared.signature) (signature_result h.signature) r))))

placed : (c : Ctx) (h : Header) (o : Option ℕ) → first_from (is_same_function h) 0 c.funcs ≡ o → On (Placed_as h) (declared_in c h true o)
placed c h None e = skip (Placed_as h) (name_declared c h h.class) _ (λ d. record {
  func = new_function h;
  at = at_end d.funcs (new_function h);
  matches = record { result = refl; kind = refl; class = refl };
})
placed c h (Some i) e = let r = found_at (is_same_function h) c.funcs i e in
    told (Placed_as h) (agrees h (func_at c.funcs i) true) _ (λ x k. record {
      func = r.func;
      at = r.at;
      matches = matches h r.func r.passes (subst (λ (z : Func). signature_result z.declared.signature ≡ signature_result h.signature) (at_func c.funcs i r.func r.at)
          (answered (λ (x : Bool). signature_result (func_at c.funcs i).declared.signature ≡ signature_result h.signature) (agrees h (func_at c.funcs i) true) x
          (agreeing h (func_at c.funcs i) true) k));
    })

pub declared_law : DeclaredAreDefined
declared_law c h text closed p e = let r = answered (Placed_as h) (function_declared c h true) p
    (skip (Placed_as h) (main_fits h) _
    (λ x. skip (Placed_as h) (check h.at BadDeclaration (not h.qualifiers.is_const)) _
    (λ b. skip (Placed_as h) (dynamic_fits h) _ (λ d. skip (Placed_as h) (check h.at OutOfProfile (not h.storage.is_c || may_be_c h)) _
    (λ e. skip (Placed_as h) (header_sized c h) _ (λ z. placed c h (first_from (is_same_function h) 0 c.funcs) refl)))))) e in
    defined_in p.ctx p.place h text closed r.func r.at r.matches

-- In a class

pub expected : {A : Type 0} (at : At) (rule : IllRule) (o : Option A) (n : A) → expect at rule o ≡ Ok n → o ≡ Some n
expected at rule (Some m) n h = cc
expected at rule None n h = absurd cc

said : (at : At) (rule : IllRule) (b : Bool) → On (λ (y : Bool). b ≡ true) (check at rule b)
said at rule true = refl
said at rule false = tt

agrees_late : (h : Header) (closed : ℕ) (f : Func)
    → On (λ (y : Bool). typ_eq (signature_result f.declared.signature) (signature_result h.signature) ≡ true) (late_agrees h closed f)
agrees_late h closed f = skip (λ (y : Bool). typ_eq (signature_result f.declared.signature) (signature_result h.signature) ≡ true)
    (check h.at Redeclared (not f.is_defined && f.closed_at == closed)) _
    (λ x. said h.at TypeDiffers (typ_eq (signature_result f.declared.signature) (signature_result h.signature)))

pub methods_law : MethodsAreDefined
methods_law c d h place closed e k = let r = found_at (is_same_function h) c.funcs place (expected h.at NoMember (first_from (is_same_function h) 0 c.funcs) place e) in
    let f : Func = func_at c.funcs place in
    answered (λ (x : Ctx). IsDefinition x h place) (late_kept c place h closed) d
    (bind (λ y. typ_eq (signature_result f.declared.signature) (signature_result h.signature) ≡ true) (λ (x : Ctx). IsDefinition x h place)
    (late_agrees h closed f) _ (agrees_late h closed f) (λ y q. defined_in c place h f.text f.closed_at r.func r.at
    (matches h r.func r.passes (subst (λ (z : Func). signature_result z.declared.signature ≡ signature_result h.signature) (at_func c.funcs place r.func r.at)
    (typ_same (signature_result f.declared.signature) (signature_result h.signature) q))))) k

-- Outside

record Same (f g : Func) : Type 0 where
  declared : g.declared ≡ f.declared
  kind : g.kind ≡ f.kind
  class : g.class ≡ f.class
  params : g.params ≡ f.params
  defined : g.is_defined ≡ f.is_defined

same_by : (b : Bool) (f : Func) → Same f (if b then record f { linkage = Inline } else f)
same_by true f = record { declared = refl; kind = refl; class = refl; params = refl; defined = refl }
same_by false f = record { declared = refl; kind = refl; class = refl; params = refl; defined = refl }

linked : (c : Ctx) (i : ℕ) (h : Header) (x : Storage) → IsDefinition c h i → IsDefinition (linked_definition c i x) h i
linked c i h x d = let q = at_func c.funcs i d.func d.at in let s = same_by x.is_inline (func_at c.funcs i) in record {
  func = outside_linkage x (func_at c.funcs i);
  at = set_at c.funcs i (outside_linkage x (func_at c.funcs i)) d.func d.at;
  result = ap (λ (g : Function). signature_result g.signature) s.declared ∙ (ap (λ (g : Func). signature_result g.declared.signature) q ∙ d.result);
  kind = s.kind ∙ (ap (λ (g : Func). g.kind) q ∙ d.kind);
  class = s.class ∙ (ap (λ (g : Func). g.class) q ∙ d.class);
  params = s.params ∙ (ap (λ (g : Func). g.params) q ∙ d.params);
  defined = s.defined ∙ (ap (λ (g : Func). g.is_defined) q ∙ d.defined);
}

pub outside_law : OutsideAreDefined
outside_law s c h rule place first last e x k =
    let r = found_at (is_same_function h) c.funcs place (expected h.at rule (first_from (is_same_function h) 0 c.funcs) place e) in
    let text : List ℕ = outside_text s h.storage first last in
    let closed : ℕ = token_end (slice_get s last) in
    linked (with_definition c place h text closed) place h h.storage (defined_in c place h text closed r.func r.at
    (matches h r.func r.passes (subst (λ (z : Func). signature_result z.declared.signature ≡ signature_result h.signature) (at_func c.funcs place r.func r.at)
    (answered (λ (y : Bool). signature_result (func_at c.funcs place).declared.signature ≡ signature_result h.signature)
    (agrees (with_noexcept h) (func_at c.funcs place) true) x (agreeing (with_noexcept h) (func_at c.funcs place) true) k))))
