-- Classes are in order.
use Rattle.std.proofs.Common.{◌≡◌, refl, ap, subst, ℕ, true, Option, Some, None, is_some, length, slice_get, ltb-true}
use Rattle.elab_rules.specs.cpp_types.Class.{Class, Member, Function, signature_below}
use Rattle.elab_rules.specs.Types.{is_nothing}
use Rattle.elab_rules.specs.elab_ctx.Ctx.{Ctx, Work}
use Rattle.elab_sound_types.specs.Types.{is_sound}
use Rattle.elab_sound_types.specs.Contexts.{HasSoundTypes, member_use, is_sound_member, has_sound_members, is_sound_function}
use Rattle.elab_sound_types.proofs.Names.{at_place}
use Rattle.elab_contexts.specs.Holding.{UnitHolds, IsRecorded, of_unit, of_another}
use Rattle.elab_holds.specs.Contexts.{ClassesInOrder, FunctionsListed}
use Rattle.elab_holds.proofs.Sound.{typ_listed, signature_listed, listed, complete_found}

-- Members

pub member_sound : (c : Ctx) (w : Work) → HasSoundTypes c w → (n i : ℕ) (k : Class) (m : Member) → slice_get c.classes n ≡ Some k
    → slice_get k.members i ≡ Some m → is_sound c.classes (member_use (is_nothing m.name)) m.typ ≡ true
member_sound c w h n i k m e q = at_place (is_sound_member c.classes) k.members i m (at_place (has_sound_members c.classes) c.classes n k h.members e) q

-- Functions

pub listed_law : FunctionsListed
listed_law c w h k f e = signature_listed c.classes f.declared.signature (at_place (is_sound_function c.classes) c.funcs k f h.functions e)

recorded_listed : (c : Ctx) (w : Work) → HasSoundTypes c w → (n : ℕ) (g : Function) → IsRecorded c.classes c.funcs n g
    → signature_below (length c.classes) g.signature ≡ true
recorded_listed c w h n g (of_unit k f e o d) = subst (λ (x : Function). signature_below (length c.classes) x.signature ≡ true) d (listed_law c w h k f e)
recorded_listed c w h n g (of_another l) = l

-- Bases

with_number : (o : Option ℕ) (A : Type 0) → is_some o ≡ true → ((i : ℕ) → o ≡ Some i → A) → A
with_number None A h f = absurd cc
with_number (Some i) A h f = f i refl

pub base_complete : (c : Ctx) → UnitHolds c → (n b : ℕ) (k : Class) → slice_get c.classes n ≡ Some k → k.base ≡ Some b → is_some (slice_get c.classes b) ≡ true
base_complete c u n b k e q = with_number k.complete (is_some (slice_get c.classes b) ≡ true) (u.based n b k e q)
    (λ i z. complete_found c.classes b (ap is_some ((u.earlier n k i e z).base b q).complete))

pub order_law : ClassesInOrder
order_law c w u h = record {
  indices = λ n k e. record {
    base = λ b q. ltb-true b (length c.classes) (listed c.classes b (base_complete c u n b k e q));
    members = λ i m q. typ_listed c.classes (member_use (is_nothing m.name)) m.typ (member_sound c w h n i k m e q);
    functions = λ i g q. recorded_listed c w h n g (u.recorded n i k g e q);
  };
  earlier = u.earlier;
}
