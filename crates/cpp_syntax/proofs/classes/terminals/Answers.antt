use Rattle.std.proofs.Common.{◌≡◌, ◌≤◌, sym, ◌∙◌, ap, map, length, arith}
use Rattle.std.proofs.lemmas.List.{length-map}
use Rattle.cpp_lex.specs.Tokens.{lexeme_of}
use Rattle.cpp_syntax.specs.Classes.{class_at, each_below}
use Rattle.cpp_syntax.proofs.TokenClasses.{each_more}
use Rattle.cpp_syntax.proofs.classes.terminals.Goals as goal

pub loop-at-preserved : goal.loop-at-preserved
loop-at-preserved c =
    each_more (class_at (map lexeme_of c.args.tokens.now)) c.loop-at.at c.class_at.result c.loop-at.terminals.items c.push.new.self.items
    c.loop-at.invariant c.class_at.ensures c.in_ok-push.ensures.items

pub returns : goal.returns
returns c =
    let low = c.loop-at-test.false in
    let high : c.loop-at.at ≤ length c.args.tokens.now = c.loop-at.auto.at-end in
    let all : c.loop-at.at ≡ length c.args.tokens.now = omega (arith, low, high) in
    c.loop-at.invariant ∙ ap (each_below (class_at (map lexeme_of c.args.tokens.now))) (all ∙ sym (length-map c.args.tokens.now lexeme_of))
