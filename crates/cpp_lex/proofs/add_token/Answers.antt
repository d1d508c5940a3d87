use Rattle.std.proofs.Common.{◌≡◌, ◌++◌, [], ◌∷◌, true, false, sym, ◌&&◌}
use Rattle.cpp_lex.specs.Tokens.{is_str}
use Rattle.cpp_lex.proofs.TokenLists.{put_joined, put_both}
use Rattle.cpp_lex.proofs.add_token.Goals as goal

pub returns-then-are_strings : goal.returns-then-are_strings
returns-then-are_strings c =
    let old : c.args.tokens.now.items ≡ c.pop.new.self.items ++ c.in-Some.last ∷ [] = c.in-Some.ensures.items in
    let both : (is_str c.in-Some.last.kind && is_str c.args.token.kind) ≡ true = sym c.if-are_strings.ensures in
    put_joined c.args.tokens.now.items c.pop.new.self.items c.push-then-are_strings.new.self.items c.in-Some.last c.args.token c.in_ok-joined.joined old both
    c.in_ok-joined.ensures c.in_ok-push-2.ensures.items

pub returns : goal.returns
returns c =
    let old : c.args.tokens.now.items ≡ c.pop.new.self.items ++ c.in-Some.last ∷ [] = c.in-Some.ensures.items in
    let not_both : (is_str c.in-Some.last.kind && is_str c.args.token.kind) ≡ false = sym c.if-are_strings.ensures in
    put_both c.args.tokens.now.items c.pop.new.self.items c.push-2.new.self.items c.push-3.new.self.items c.in-Some.last c.args.token old not_both
    c.in_ok-push-3.ensures.items c.in_ok-push-4.ensures.items
