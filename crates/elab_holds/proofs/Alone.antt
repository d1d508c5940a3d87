-- Where what overrides has a name that goes with its kind, no two functions of a class override the same one.
use Rattle.std.proofs.Common.{◌≡◌, refl, sym, ap, ◌∙◌, ℕ, Bool, true, false, not, ◌&&◌, ◌||◌, List, Some, slice_get, true≢false}
use Rattle.std.specs.Str.{bytes_eq}
use Rattle.std.proofs.lemmas.Bool.{and_parts}
use Rattle.elab_rules.specs.cpp_types.Class.{Function}
use Rattle.elab_rules.specs.cpp_types.Equal.{typs_eq, flag_eq}
use Rattle.elab_rules.specs.cpp_types.Trivial.{is_destructor_name}
use Rattle.elab_rules.specs.cpp_tree.declared.program.FuncKind.{FuncKind}
use Rattle.elab_rules.specs.cpp_tree.declared.program.FuncKind.TheVariants.{Plain, Constructor, Destructor}
use Rattle.elab_rules.specs.elab_ctx.Ctx.{Ctx, Func}
use Rattle.elab_rules.specs.Classes.{same_virtual}
use Rattle.elab_rules.specs.Functions.{same_kind}
use Rattle.elab_rules.specs.Initialising.{signature_parameters}
use Rattle.elab_fits.proofs.Equal.{flag_same}
use Rattle.elab_contexts.specs.Holding.{UnitHolds}
use Rattle.elab_contexts.proofs.Functions.{alike_says, bytes_same, typs_same, kind_same}
use Rattle.elab_contexts.specs.Overriders.{is_overrider_by}
use Rattle.elab_holds.specs.Contexts.{AloneByKinds, SlotsHold}
use Rattle.elab_holds.proofs.Slots.{alone_law}

-- by its kind, or by its name alone
data Kinds (classes : List ℕ → Bool) (f : Func) : Type 0 where
  plain_one : f.kind ≡ Plain → Kinds classes f
  constructor_one : classes f.declared.name ≡ true → Kinds classes f
  destructor_one : is_destructor_name f.declared.name ≡ true → Kinds classes f

no_kind : (c e : Bool) → (c && false || e && false) ≡ true → ⊥
no_kind true true q = true≢false (sym q)
no_kind true false q = true≢false (sym q)
no_kind false true q = true≢false (sym q)
no_kind false false q = true≢false (sym q)

kinds_by : (classes : List ℕ → Bool) (f : Func) (p c e d t : Bool) → same_kind f.kind Plain ≡ p → is_destructor_name f.declared.name ≡ d
    → classes f.declared.name ≡ t → (p && (not d && not t) || (c && (not d && t) || e && d)) ≡ true → Kinds classes f
kinds_by classes f p c e true t i j k q = destructor_one j
kinds_by classes f p c e false true i j k q = constructor_one k
kinds_by classes f true c e false false i j k q = plain_one (kind_same f.kind Plain i)
kinds_by classes f false c e false false i j k q = absurd (no_kind c e q)

-- of a virtual function
asked : (v b : Bool) → v ≡ true → (not v || b) ≡ true → b ≡ true
asked true b e h = h
asked false b e h = absurd (true≢false (sym e))

kinds_are : (classes : List ℕ → Bool) (f : Func) → f.declared.is_virtual ≡ true → is_overrider_by classes f ≡ true → Kinds classes f
kinds_are classes f v h = kinds_by classes f (same_kind f.kind Plain) (same_kind f.kind Constructor) (same_kind f.kind Destructor)
    (is_destructor_name f.declared.name) (classes f.declared.name) refl refl refl (asked f.declared.is_virtual _ v h)

record IsPlainOne (classes : List ℕ → Bool) (f : Func) : Type 0 where
  plain : is_destructor_name f.declared.name ≡ false
  other : classes f.declared.name ≡ false

plain_by : (d t : Bool) → (true && (not d && not t) || (false && (not d && t) || false && d)) ≡ true → (d ≡ false) × (t ≡ false)
plain_by false false h = (refl, refl)
plain_by true t h = absurd (true≢false (sym h))
plain_by false true h = absurd (true≢false (sym h))

plain_is : (classes : List ℕ → Bool) (f : Func) → f.kind ≡ Plain → f.declared.is_virtual ≡ true → is_overrider_by classes f ≡ true → IsPlainOne classes f
plain_is classes f k v h =
    let b = asked f.declared.is_virtual _ v h in
    let c : (true && (not (is_destructor_name f.declared.name) && not (classes f.declared.name))
    || (false && (not (is_destructor_name f.declared.name) && classes f.declared.name) || false && is_destructor_name f.declared.name)) ≡ true =
    sym (ap (λ (x : FuncKind). same_kind x Plain && (not (is_destructor_name f.declared.name) && not (classes f.declared.name))
    || (same_kind x Constructor && (not (is_destructor_name f.declared.name) && classes f.declared.name)
    || same_kind x Destructor && is_destructor_name f.declared.name)) k) ∙ b in
    let p = plain_by (is_destructor_name f.declared.name) (classes f.declared.name) c in
    record { plain = p.0; other = p.1 }

-- what overrides another function by its name
record SameNamed (g o : Function) : Type 0 where
  name : g.name ≡ o.name
  params : signature_parameters g.signature ≡ signature_parameters o.signature
  const : g.is_const ≡ o.is_const

named_by : (a b c : Bool) → (a && b) ≡ false → ((a && b) || c) ≡ true → c ≡ true
named_by true false c e h = h
named_by false b c e h = h
named_by true true c e h = absurd (true≢false e)

same_named : (g o : Function) → (is_destructor_name g.name && is_destructor_name o.name) ≡ false → same_virtual g o ≡ true → SameNamed g o
same_named g o d h =
    let n : Bool = bytes_eq g.name o.name in
    let t : Bool = typs_eq (signature_parameters g.signature) (signature_parameters o.signature) in
    let m = named_by (is_destructor_name g.name) (is_destructor_name o.name) (n && t && flag_eq g.is_const o.is_const) d h in
    let p = and_parts (n && t) (flag_eq g.is_const o.is_const) m in
    let q = and_parts n t p.0 in
    record {
      name = bytes_same g.name o.name q.0;
      params = typs_same (signature_parameters g.signature) (signature_parameters o.signature) q.1;
      const = flag_same g.is_const o.is_const p.1;
    }

first_false : (a b : Bool) → a ≡ false → (a && b) ≡ false
first_false false b e = refl
first_false true b e = absurd (true≢false e)

second_false : (a b : Bool) → b ≡ false → (a && b) ≡ false
second_false true b e = e
second_false false b e = refl

alone_by : (classes : List ℕ → Bool) (c : Ctx) → UnitHolds c → (n j k : ℕ) (f g : Func) (o : Function) → slice_get c.funcs k ≡ Some f
    → slice_get c.funcs j ≡ Some g → f.class ≡ Some n → g.class ≡ Some n → f.kind ≡ Plain → IsPlainOne classes f → Kinds classes g
    → SameNamed f.declared o → SameNamed g.declared o → j ≡ k
alone_by classes c u n j k f g o e q d x p m (destructor_one t) a b =
    absurd (true≢false (sym t ∙ ap is_destructor_name (b.name ∙ sym a.name) ∙ m.plain))
alone_by classes c u n j k f g o e q d x p m (constructor_one t) a b =
    absurd (true≢false (sym t ∙ ap classes (b.name ∙ sym a.name) ∙ m.other))
alone_by classes c u n j k f g o e q d x p m (plain_one s) a b = u.slotted.distinct j k g f q e s (alike_says g f (record {
  name = a.name ∙ sym b.name;
  class = d ∙ sym x;
  params = a.params ∙ sym b.params;
  const = a.const ∙ sym b.const;
  kind = p ∙ sym s;
}))

pub alone : AloneByKinds
alone classes c u h k n f e d p v j g o q x w a b =
    let m = plain_is classes f p v (h k n f e d) in
    let first = same_named f.declared o (first_false (is_destructor_name f.declared.name) (is_destructor_name o.name) m.plain) b in
    let other : is_destructor_name o.name ≡ false = sym (ap is_destructor_name first.name) ∙ m.plain in
    alone_by classes c u n j k f g o e q d x p m (kinds_are classes g w (h j n g q x)) first
    (same_named g.declared o (second_false (is_destructor_name g.declared.name) (is_destructor_name o.name) other) a)

pub slots_law : SlotsHold
slots_law c w u h o = alone_law c w u h (alone o.classes c u o.by)
