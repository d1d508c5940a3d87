-- Members that may be left to themselves, one behind the other.
use Rattle.std.proofs.Common.{◌≡◌, ◌∙◌, ℕ, suc, ◌+◌, ◌<◌, Bool, true, ◌||◌, ◌&&◌, List, ◌∷◌, length, map, drop, get_or, sym, ap, add-one}
use Rattle.std.proofs.Math.Seq.{drop-cons}
use Rattle.cpp_types.specs.Typ.{typ_of}
use Rattle.cpp_types.specs.Class.{member_of}
use Rattle.cpp_types.specs.declared.classes.MemberRec.{MemberRec}
use Rattle.elab_init.specs.elab_ctx.Ctx.{Ctx}
use Rattle.elab_init.specs.elab_rules.Classes.{is_listed, may_default, members_default}

pub default_more : (c : Ctx) (places : List ℕ) (ms : List MemberRec) (i : ℕ) (m : MemberRec) (b all : Bool) → i < length ms → m ≡ get_or ms i m
    → b ≡ (is_listed i places || may_default c (typ_of m.ty)) → b ≡ true →
    all ≡ members_default c places i (map member_of (drop i ms)) → all ≡ members_default c places (i + 1) (map member_of (drop (i + 1) ms))
default_more c places ms i m b all h e t p g =
    let one : drop i ms ≡ m ∷ drop (suc i) ms = drop-cons ms i m h ∙ ap (λ (z : MemberRec). z ∷ drop (suc i) ms) (sym e) in
    let before : all ≡ ((is_listed i places || may_default c (typ_of m.ty)) && members_default c places (suc i) (map member_of (drop (suc i) ms))) = g
    ∙ ap (λ (z : List MemberRec). members_default c places i (map member_of z)) one in
    let after : all ≡ members_default c places (suc i) (map member_of (drop (suc i) ms)) = before
    ∙ ap (λ (z : Bool). z && members_default c places (suc i) (map member_of (drop (suc i) ms))) (sym t ∙ p) in
    rw (add-one i) after
