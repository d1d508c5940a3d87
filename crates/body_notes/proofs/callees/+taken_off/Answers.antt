use Rattle.std.proofs.Common.{arith, ◌≡◌, ◌∙◌, ◌∷◌, ◌-◌, ap, sym, subst}
use Rattle.std.specs.Prelude.{IfSome, Some, ℕ}
use Rattle.cpp_tree.specs.cpp_types.Typ.{Typ}
use Rattle.symbolic_terms.specs.Meanings.{Meaning, word_of, words_of}
use Rattle.body_check.specs.Calls.{taken_off}
use Rattle.body_notes.specs.declared.callees.TakenOff.{TakenOff}
use Rattle.body_notes.proofs.Called.{taken_more}
use Rattle.body_notes.proofs.callees.+taken_off.Goals as goal

pub returns-in-Some : goal.returns-in-Some
returns-in-Some s c types m =
    let n = c.args.count - 1 in
    let word = word_of m c.in-More.word in
    let others = words_of m c.in-More.rest.now in
    let rest : taken_off n others (word ∷ words_of m c.in_ok-keep-in-More.field-0.now) ≡ Some (words_of m c.in-Some.taken.words, words_of m c.in-Some.taken.under) =
    (subst (λ z. IfSome z (λ (t : TakenOff). (types2 : ℕ → Typ) (m2 : Meaning) → taken_off n (words_of m2 c.in-More.rest.now) (word_of m2 c.in-More.word ∷ words_of m2 c.in_ok-keep-in-More.field-0.now) ≡ Some (words_of m2 t.words, words_of m2 t.under))) c.in-Some.is c.in_ok-taken-in-More.ensures) types m in
    ap (λ z. taken_off c.args.count (words_of m z) (words_of m c.args.taken)) c.in-More.is
    ∙ taken_more c.args.count n word others (words_of m c.args.taken) _ (omega (arith, c.if-count-eq0.false))
    (ap (λ z. taken_off n others (word ∷ words_of m z)) (sym c.in_ok-keep-in-More.ensures) ∙ rest)
