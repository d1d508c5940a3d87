use Rattle.std.proofs.Common.{rules, ◌≡◌, ◌≤◌, length, map, List, ℕ, ◌∙◌, ap, subst, arith}
use Rattle.cpp_lex.specs.Tokens.{Lexeme, lexeme_of}
use Rattle.cpp_syntax.specs.Balance.{IsPartner, partner_in}
use Rattle.cpp_syntax.specs.Classes.{terminals_of}
use Rattle.cpp_syntax.specs.declared.terminal.Terminal.{Terminal}
use Rattle.cpp_syntax.proofs.TokenClasses.{terminals_long, table_of}
use Rattle.cpp_syntax.proofs.outline.Outline.of.Goals as goal

pub partners-requires : goal.partners-requires
partners-requires c =
    let few : length c.args.tokens.now.items.items ≤ 1048576 = c.requires in
    let are : c.deref.result.now ≡ terminals_of (map lexeme_of c.args.tokens.now.items.items) = search rules in
    let long = terminals_long c.args.tokens.now.items.items c.deref.result.now are in
    omega (arith, few, long)

pub invariant_of-result : goal.invariant_of-result
invariant_of-result c =
    let are : c.in_ok-terminals.terminals.items ≡ terminals_of (map lexeme_of c.args.tokens.now.items.items) = search rules in
    let begin : c.in_ok-begins.field-0.items ≡ map (λ (t : Lexeme). t.from) (map lexeme_of c.args.tokens.now.items.items) = search rules in
    table_of c.args.tokens.now.items.items c.in_ok-terminals.terminals.items c.in_ok-begins.field-0.items c.in_ok-partners.partners.items are begin
    c.requires (subst (λ (xs : List Terminal). (a : ℕ) → IsPartner xs a (partner_in c.in_ok-partners.partners.items a)) c.deref.ensures.value
    c.in_ok-partners.ensures)
