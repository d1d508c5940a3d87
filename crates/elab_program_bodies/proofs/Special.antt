-- What is checked of the headers of constructors and destructors, and what one function has that is the same as another.
use Rattle.std.proofs.Common.{◌≡◌, refl, ap, ℕ, true, false, ◌&&◌, not, Option, Some, None, eqb-true}
use Rattle.std.specs.Prelude.{if◌then◌else◌}
use Rattle.std.specs.Str.{bytes_eq}
use Rattle.std.proofs.lemmas.Bool.{and_parts}
use Rattle.elab_rules.specs.cpp_types.Typ.{Typ, typ, void, int, enum, null, ptr, ref, array, func, class, closure, tx_ex, Signature, signature, Typs, none as no_typs}
use Rattle.elab_rules.specs.cpp_types.Typ.{more as and_typ}
use Rattle.elab_rules.specs.cpp_types.Equal.{typ_eq, typs_eq, flag_eq}
use Rattle.elab_rules.specs.cpp_tree.Typing.{is_void, is_class_typ}
use Rattle.elab_rules.specs.cpp_tree.declared.program.FuncKind.{FuncKind}
use Rattle.elab_rules.specs.cpp_tree.declared.program.FuncKind.TheVariants.{Plain, Constructor, Destructor, ClosureCall}
use Rattle.elab_rules.specs.elab_ctx.Ctx.{Func}
use Rattle.elab_rules.specs.Initialising.{makes, signature_parameters, signature_result}
use Rattle.elab_rules.specs.Names.{same_variable}
use Rattle.elab_rules.specs.Functions.{Header, same_kind, is_same_function, is_none_typs}
use Rattle.elab_rules.specs.Classes.{is_special, takes_own_value}
use Rattle.elab_fits.proofs.Equal.{typ_same}

void_no_class : (t : Typ) → is_void t ≡ true → is_class_typ t ≡ false
void_no_class (typ void c v) h = refl
void_no_class (typ (int k) c v) h = absurd cc
void_no_class (typ (enum n s) c v) h = absurd cc
void_no_class (typ null c v) h = absurd cc
void_no_class (typ (ptr t) c v) h = absurd cc
void_no_class (typ (ref t) c v) h = absurd cc
void_no_class (typ (array t n) c v) h = absurd cc
void_no_class (typ (func g) c v) h = absurd cc
void_no_class (typ (class n) c v) h = absurd cc
void_no_class (typ (closure n) c v) h = absurd cc
void_no_class (typ (tx_ex t) c v) h = absurd cc

pub special_result : (of : FuncKind) (n : ℕ) (g : Signature) → is_special of n g ≡ true → is_class_typ (signature_result g) ≡ false
special_result of n (signature ps r safe) h =
    void_no_class r (and_parts (is_void r) (if makes of then not (takes_own_value n ps) else is_none_typs ps) h).0

none_typs : (ps : Typs) → is_none_typs ps ≡ true → ps ≡ no_typs
none_typs no_typs h = refl
none_typs (and_typ t ts) h = absurd cc

pub special_params : (n : ℕ) (g : Signature) → is_special Destructor n g ≡ true → signature_parameters g ≡ no_typs
special_params n (signature ps r safe) h = none_typs ps (and_parts (is_void r) (is_none_typs ps) h).1

-- The same function

pub typs_same : (s t : Typs) → typs_eq s t ≡ true → s ≡ t
typs_same no_typs no_typs h = refl
typs_same no_typs (and_typ t ts) h = absurd cc
typs_same (and_typ s ss) no_typs h = absurd cc
typs_same (and_typ s ss) (and_typ t ts) h = let p = and_parts (typ_eq s t) (typs_eq ss ts) h in let e = typ_same s t p.0 in
    let i = typs_same ss ts p.1 in cc

kinds_same : (a b : FuncKind) → same_kind a b ≡ true → a ≡ b
kinds_same Plain Plain h = refl
kinds_same Constructor Constructor h = refl
kinds_same Destructor Destructor h = refl
kinds_same ClosureCall ClosureCall h = refl
kinds_same Plain Constructor h = absurd cc
kinds_same Plain Destructor h = absurd cc
kinds_same Plain ClosureCall h = absurd cc
kinds_same Constructor Plain h = absurd cc
kinds_same Constructor Destructor h = absurd cc
kinds_same Constructor ClosureCall h = absurd cc
kinds_same Destructor Plain h = absurd cc
kinds_same Destructor Constructor h = absurd cc
kinds_same Destructor ClosureCall h = absurd cc
kinds_same ClosureCall Plain h = absurd cc
kinds_same ClosureCall Constructor h = absurd cc
kinds_same ClosureCall Destructor h = absurd cc

classes_same : (a b : Option ℕ) → same_variable a b ≡ true → a ≡ b
classes_same (Some m) (Some n) h = ap Some (eqb-true m n h)
classes_same None None h = refl
classes_same (Some m) None h = absurd cc
classes_same None (Some n) h = absurd cc

pub record Same (h : Header) (f : Func) : Type 0 where
  pub kind : f.kind ≡ h.kind
  pub class : f.class ≡ h.class
  pub params : signature_parameters f.declared.signature ≡ signature_parameters h.signature

pub same_function : (h : Header) (f : Func) → is_same_function h f ≡ true → Same h f
same_function h f t =
    let a = and_parts (bytes_eq f.declared.name h.name && same_variable f.class h.class
    && typs_eq (signature_parameters f.declared.signature) (signature_parameters h.signature) && flag_eq f.declared.is_const h.qualifiers.is_const)
    (same_kind f.kind h.kind) t in
    let p = and_parts (bytes_eq f.declared.name h.name && same_variable f.class h.class
    && typs_eq (signature_parameters f.declared.signature) (signature_parameters h.signature)) (flag_eq f.declared.is_const h.qualifiers.is_const) a.0 in
    let q = and_parts (bytes_eq f.declared.name h.name && same_variable f.class h.class)
    (typs_eq (signature_parameters f.declared.signature) (signature_parameters h.signature)) p.0 in record {
      kind = kinds_same f.kind h.kind a.1;
      class = classes_same f.class h.class (and_parts (bytes_eq f.declared.name h.name) (same_variable f.class h.class) q.0).1;
      params = typs_same (signature_parameters f.declared.signature) (signature_parameters h.signature) q.1;
    }
