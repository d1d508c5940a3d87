use Rattle.std.proofs.Common.{◌≡◌, refl, inl}
use Rattle.cpp_syntax.specs.declared.terminal.Terminal.TheVariants as terminal
use Rattle.cpp_syntax.proofs.SingleTerminals.{passed}
use Rattle.cpp_syntax.proofs.TypeWords.{is_lone_word, alone_behind, integers_behind, not_alone}
use Rattle.cpp_syntax.proofs.outline.Outline.behind_type_words.Goals as goal

pub returns-then-is_at : goal.returns-then-is_at
returns-then-is_at c = alone_behind _ _ (passed is_lone_word terminal.Void refl _ (c.if-is_at.ensures.yes refl))

pub returns-then-is_at-2 : goal.returns-then-is_at-2
returns-then-is_at-2 c = alone_behind _ _ (passed is_lone_word terminal.Bool refl _ (c.if-is_at-2.ensures.yes refl))

pub returns-then-is_at-3 : goal.returns-then-is_at-3
returns-then-is_at-3 c = alone_behind _ _ (passed is_lone_word terminal.Auto refl _ (c.if-is_at-3.ensures.yes refl))

pub returns : goal.returns
returns c =
    integers_behind _ _ _ c.behind_integer_words.ensures (not_alone _ (λ e. c.if-is_at.ensures.no refl (inl e))
    (λ e. c.if-is_at-2.ensures.no refl (inl e)) (λ e. c.if-is_at-3.ensures.no refl (inl e)))
