-- Where members lie.
use Rattle.std.proofs.Common.{◌≡◌, ℕ, zero, suc, ◌<◌, ◌≤◌, List, [], ◌∷◌, length, map, Option, Some, None, slice_get, refl, sym, ap, ◌∙◌, arith}
use Rattle.elab_conv.specs.cpp_types.declared.classes.ClassRec.{ClassRec}
use Rattle.elab_conv.specs.cpp_types.declared.classes.MemberRec.{MemberRec}
use Rattle.elab_conv.specs.cpp_types.Class.{Class, Member, class_of, member_of}
use Rattle.elab_conv.specs.cpp_layout.Measured.{member_offset}
use Rattle.elab_conv.specs.elab_rules.Names.{offset_at, offset_of_member, members_in}

length_members : (ms : List MemberRec) → length (map member_of ms) ≡ length ms
length_members [] = refl
length_members (m ∷ ms) = ap suc (length_members ms)

there : (ms : List Member) (i : ℕ) → i < length ms → (m : Member) × (slice_get ms i ≡ Some m)
there [] i h = absurd (omega arith)
there (m ∷ ms) zero h = (m, refl)
there (m ∷ ms) (suc i) h = there ms i (omega arith)

past : (ms : List Member) (i : ℕ) → length ms ≤ i → slice_get ms i ≡ None
past [] i h = refl
past (m ∷ ms) zero h = absurd (omega arith)
past (m ∷ ms) (suc i) h = past ms i (omega arith)

pub offset_is : (classes : List Class) (n i r : ℕ) (c : ClassRec) → slice_get classes n ≡ Some (class_of c) → i < length c.members.items
    → ((d : Class) (m : Member) → slice_get classes n ≡ Some d → slice_get d.members i ≡ Some m → r ≡ member_offset classes n d i m) → r ≡ offset_at classes n i
offset_is classes n i r c h l f =
    let e : length (map member_of c.members.items) ≡ length c.members.items = length_members c.members.items in
    let t = there (map member_of c.members.items) i (omega arith) in
    let g : r ≡ member_offset classes n (class_of c) i t.0 = f (class_of c) t.0 h t.1 in
    g ∙ sym (ap (λ (z : Option Class). offset_of_member classes n z i (slice_get (members_in z) i)) h ∙ ap
    (λ (z : Option Member). offset_of_member classes n (Some (class_of c)) i z) t.1)

pub offset_none : (classes : List Class) (n i : ℕ) → slice_get classes n ≡ None → offset_at classes n i ≡ 0
offset_none classes n i h = ap (λ (z : Option Class). offset_of_member classes n z i (slice_get (members_in z) i)) h

pub offset_past : (classes : List Class) (n i : ℕ) (c : ClassRec) → slice_get classes n ≡ Some (class_of c) → length c.members.items ≤ i
    → offset_at classes n i ≡ 0
offset_past classes n i c h l =
    let e : length (map member_of c.members.items) ≡ length c.members.items = length_members c.members.items in
    ap (λ (z : Option Class). offset_of_member classes n z i (slice_get (members_in z) i)) h
    ∙ ap (λ (z : Option Member). offset_of_member classes n (Some (class_of c)) i z) (past (map member_of c.members.items) i (omega arith))
