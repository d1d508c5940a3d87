use Rattle.std.proofs.Common.{rules, ◌≡◌, ◌+◌, ◌<◌, ◌++◌, ◌∷◌, [], length, set, true, false, refl, sym, subst, arith, List, ℕ}
use Rattle.cpp_syntax.specs.Balance.{terminal_in, closes}
use Rattle.cpp_syntax.specs.Pairing.{Paired}
use Rattle.cpp_syntax.proofs.BracketPairs.{closed_one, last_before, left_all, left_last, stops_by}
use Rattle.cpp_syntax.proofs.partners.close.Goals as goal

pub index_mut-requires : goal.index_mut-requires
index_mut-requires c =
    let popped : c.args.opened.now.items ≡ c.pop.new.self.items ++ c.in-Some.last ∷ [] = search rules in
    let less : c.in-Some.last < c.args.at = last_before c.args.terminals.now c.args.partners.now.items c.args.opened.now.items c.pop.new.self.items
    c.in-Some.last c.args.at c.requires.paired popped in
    let long = c.requires.paired.long in
    let own = c.args.partners.now.ok.0 in
    omega (arith, less, long, own)

pub returns-then-closes : goal.returns-then-closes
returns-then-closes c =
    let popped : c.args.opened.now.items ≡ c.pop.new.self.items ++ c.in-Some.last ∷ [] = search rules in
    let less : c.in-Some.last < c.args.at = last_before c.args.terminals.now c.args.partners.now.items c.args.opened.now.items c.pop.new.self.items
    c.in-Some.last c.args.at c.requires.paired popped in
    let closed : closes (terminal_in c.args.terminals.now c.in-Some.last) (terminal_in c.args.terminals.now c.args.at) ≡ true = search rules in
    closed_one c.args.terminals.now c.args.partners.now.items c.args.opened.now.items (set c.args.partners.now.items c.in-Some.last c.args.at)
    c.pop.new.self.items c.in-Some.last c.args.at c.requires.paired popped closed refl less

pub returns-else-closes : goal.returns-else-closes
returns-else-closes c =
    let popped : c.args.opened.now.items ≡ c.pop.new.self.items ++ c.in-Some.last ∷ [] = search rules in
    let other : closes (terminal_in c.args.terminals.now c.in-Some.last) (terminal_in c.args.terminals.now c.args.at) ≡ false = search rules in
    let all = left_all c.args.terminals.now c.args.partners.now.items c.args.opened.now.items c.args.at c.requires.paired
    (stops_by (terminal_in c.args.terminals.now c.args.at) c.requires.closing c.requires.opening)
    (left_last c.args.terminals.now c.args.opened.now.items c.pop.new.self.items c.in-Some.last c.args.at popped other) in
    subst (λ (ys : List ℕ). Paired c.args.terminals.now c.args.partners.now.items ys c.args.at (c.args.at + 1)) (sym c.clear.ensures.items) all
