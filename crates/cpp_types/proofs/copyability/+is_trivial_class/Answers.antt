use Rattle.std.proofs.Common.{◌≡◌, ◌∙◌, ◌<◌, IsTrue, false, Some, inl, inr, length, sym, ap, arith, refl}
use Rattle.std.proofs.lemmas.Bool.{cases_lt}
use Rattle.cpp_types.specs.Class.{classes_of, class_of, member_of, Member, held}
use Rattle.cpp_types.specs.Trivial.{IsTrivialClass}
use Rattle.cpp_types.proofs.Parts.{missing, hindered, lower_member, lower_base, member_found, member_not, base_of_whole, trivial_whole, member_within}
use Rattle.cpp_types.proofs.Parts.{same_held, same_index}
use Rattle.cpp_types.proofs.copyability.+is_trivial_class.Goals as goal
use Rattle.cpp_types.proofs.copyability.+is_trivial_class.Goals.{in_default-via-in-None-1, in_default-via-in-Some-held_class+else-not-is_trivial_class}

pub returns-in_default : goal.returns-in_default
returns-in_default t c = (λ z. absurd cc, λ q. absurd (missing (classes_of c.args.classes.now) c.args.class c.in_default.ensures q))

pub returns-then-not-is_plain_class : goal.returns-then-not-is_plain_class
returns-then-not-is_plain_class t c = (
  λ z. absurd cc,
  λ q. absurd
      (hindered (classes_of c.args.classes.now) c.args.class (class_of c.in-Some.found.now) c.in-Some.ensures (sym c.if-not-is_plain_class.ensures) q),
)

pub is_trivial_class-requires : goal.is_trivial_class-requires
is_trivial_class-requires t c =
    let h = lower_member (classes_of c.args.classes.now) c.args.class (class_of c.in-Some.found.now) c.loop-member.member-index
    (member_of c.member-item.result) c.in-Some-held_class.part c.requires c.in-Some.ensures (sym c.if-not-is_plain_class.ensures)
    (member_found c.deref-member-items.result.now c.in-Some.found.now.members.items c.loop-member.member-index c.member-item.result
    c.deref-member-items.ensures.value c.loop-member-test.true c.member-item.is) (sym c.in-Some-held_class.ensures) in
    (omega arith, c.requires)

pub returns-in-loop-member : goal.returns-in-loop-member
returns-in-loop-member t c = (
  λ z. absurd cc,
  λ q. absurd (member_not (classes_of c.args.classes.now) c.args.class (class_of c.in-Some.found.now) c.loop-member.member-index
      (member_of c.member-item.result) c.in-Some-held_class.part c.in-Some.ensures
      (member_found c.deref-member-items.result.now c.in-Some.found.now.members.items c.loop-member.member-index c.member-item.result
      c.deref-member-items.ensures.value c.loop-member-test.true c.member-item.is) (sym c.in-Some-held_class.ensures)
      (λ (w : IsTrivialClass (classes_of c.args.classes.now) c.in-Some-held_class.part). let z : IsTrue false = c.if-not-is_trivial_class.ensures.1 w in
      absurd cc) q),
)

pub loop-member-preserved : goal.loop-member-preserved
loop-member-preserved t c j m e h f g = elim (cases_lt j c.loop-member.member-index) [
  | inl a ↦ c.loop-member.invariant j m e a f g
  | inr a ↦
      let l : j ≡ c.loop-member.member-index = omega arith in
      let s : member_of c.member-item.result ≡ m = same_index c.in-Some.found.now.members.items c.loop-member.member-index j (member_of c.member-item.result) m
      (member_found c.deref-member-items.result.now c.in-Some.found.now.members.items c.loop-member.member-index c.member-item.result
      c.deref-member-items.ensures.value c.loop-member-test.true c.member-item.is) f l in
      let o : held (member_of c.member-item.result).typ ≡ Some e = ap (λ (z : Member). held z.typ) s ∙ g in
      elim c.in_default.branch [
        | in_default-via-in-None-1 w ↦ absurd cc
        | in_default-via-in-Some-held_class+else-not-is_trivial_class w ↦ same_held (classes_of c.args.classes.now)
            (held (member_of c.member-item.result).typ) w.in-Some-held_class.part e (sym w.in-Some-held_class.ensures) o
            (w.if-not-is_trivial_class.ensures.0 refl)
      ]
]

pub is_trivial_class-requires-in-Some-base : goal.is_trivial_class-requires-in-Some-base
is_trivial_class-requires-in-Some-base t c =
    let h = lower_base (classes_of c.args.classes.now) c.args.class (class_of c.in-Some.found.now) c.in-Some-base.base c.requires c.in-Some.ensures
    (sym c.if-not-is_plain_class.ensures) c.in-Some-base.is in
    (omega arith, c.requires)

pub returns-in-Some-base : goal.returns-in-Some-base
returns-in-Some-base t c = (
  λ z. trivial_whole (classes_of c.args.classes.now) c.args.class (class_of c.in-Some.found.now) c.in-Some.ensures (sym c.if-not-is_plain_class.ensures)
      (λ b e. same_held (classes_of c.args.classes.now) c.in-Some.found.now.base c.in-Some-base.base b c.in-Some-base.is e
      (c.is_trivial_class-in-Some-base.ensures.0 z))
      (λ i m p f h. c.loop-member.invariant i m p (let w : i < length c.deref-member-items.result.now =
      member_within c.deref-member-items.result.now c.in-Some.found.now.members.items i m c.deref-member-items.ensures.value f in omega arith) f h),
  λ q. c.is_trivial_class-in-Some-base.ensures.1 (base_of_whole (classes_of c.args.classes.now) c.args.class
      (class_of c.in-Some.found.now) c.in-Some-base.base c.in-Some.ensures (sym c.if-not-is_plain_class.ensures) c.in-Some-base.is q),
)

pub returns-in-None : goal.returns-in-None
returns-in-None t c = (
  λ z. trivial_whole (classes_of c.args.classes.now) c.args.class (class_of c.in-Some.found.now) c.in-Some.ensures (sym c.if-not-is_plain_class.ensures)
      (λ b e. absurd (let d = c.in-None.is in cc))
      (λ i m p f h. c.loop-member.invariant i m p (let w : i < length c.deref-member-items.result.now =
      member_within c.deref-member-items.result.now c.in-Some.found.now.members.items i m c.deref-member-items.ensures.value f in omega arith) f h),
  λ q. refl,
)
