use Rattle.std.proofs.Common.{◌≡◌, ◌∙◌, ◌+◌, ap, length, min, map, arith, add-one, slice_range}
use Rattle.elab_init.specs.cpp_lex.Tokens.{lexemes_of, lexeme_of}
use Rattle.class_texts.proofs.Ranges.{range_is}
use Rattle.class_texts.proofs.texts.token_range.Goals as goal

pub returns : goal.returns
returns c =
    let count : c.len-count.result ≡ length c.deref.result.now = omega arith in
    let end : c.min-end.result ≡ min (c.args.last + 1) (length c.deref.result.now) = c.min-end.ensures ∙ ap (min (c.args.last + 1)) count in
    range_is lexeme_of c.deref.result.now c.args.first (c.args.last + 1) c.min-start.result c.min-end.result end c.min-start.ensures
    ∙ ap (λ z. slice_range (map lexeme_of z) c.args.first (c.args.last + 1)) c.deref.ensures.value
    ∙ ap (slice_range (lexemes_of c.args.tokens.now) c.args.first) (add-one c.args.last)
