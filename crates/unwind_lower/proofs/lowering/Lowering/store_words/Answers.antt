use Rattle.std.proofs.Common.{◌≡◌, ◌∙◌, ◌+◌, ap, sym, refl, length, drop, Some}
use Rattle.std.specs.Prelude.{slice_get}
use Rattle.std.proofs.lemmas.Option.{slice_get_read}
use Rattle.cpp_tree.specs.cpp_types.Typ.{typ_of}
use Rattle.cpp_tree.specs.cpp_types.declared.types.Ty.{Ty}
use Rattle.unwind_lower.specs.States.{state_of}
use Rattle.unwind_lower.specs.Settings.{setting_of, place_in}
use Rattle.unwind_lower.specs.Functions.{store_word, store_each, store_words, word_typs}
use Rattle.unwind_lower.proofs.Walks.{word_more, taken_all}
use Rattle.unwind_lower.proofs.lowering.Lowering.store_words.Goals as goal

pub loop-i-preserved : goal.loop-i-preserved
unfolding setting_of
loop-i-preserved c =
    let func = c.args.self.now.func.now in
    let g = setting_of c.args.self.now in
    let i = c.loop-i.i in
    let ty : Ty = c.in-Some.item.now in
    let read : slice_get c.deref.result.now i ≡ Some ty =
    slice_get_read c.deref.result.now (length c.deref.result.now) i ty refl (c.in-Some.ensures.lookup.3).0 c.in-Some.ensures.lookup.1 in
    let there : slice_get func.frame.items i ≡ Some ty = ap (λ z. slice_get z i) (sym c.deref.ensures.value) ∙ read in
    let put : state_of c.store_word.new.self ≡ store_word (place_in g i) (typ_of ty) c.args.at (state_of c.loop-i.w) = c.in_ok-store_word.ensures
    ∙ ap (λ o. store_word o (typ_of ty) c.args.at (state_of c.loop-i.w)) c.in_ok-offset.ensures in
    ap (store_each g (i + 1) (drop (i + 1) (word_typs g)) c.args.at) put
    ∙ (sym (word_more g func.frame.items i func.words ty c.args.at (state_of c.loop-i.w) c.loop-i-test.true there) ∙ c.loop-i.invariant)

pub returns : goal.returns
unfolding setting_of store_words store_each
returns c =
    let g = setting_of c.args.self.now in
    sym (ap (λ ts. store_each g c.loop-i.i ts c.args.at (state_of c.loop-i.w)) (taken_all _ g.func.words c.loop-i.i c.loop-i-test.false)) ∙ c.loop-i.invariant
