-- What stood before an expression stands there still.
use Rattle.std.proofs.Common.{◌≡◌, sym, ap, ◌∙◌, ℕ, List, ◌++◌, length, map, take, Vec, Result, Ok, rules, subst}
use Rattle.std.specs.Vec.{vec_len}
use Rattle.std.specs.declared.alloc.Global.{Global as Alloc}
use Rattle.std.proofs.lemmas.List.{length-map}
use Rattle.elab_rules.specs.cpp_tree.Units.{Global}
use Rattle.std.proofs.Math.Seq.{take-append_seam}
use Rattle.elab_rules.specs.cpp_types.Typ.{Typ}
use Rattle.elab_rules.specs.cpp_lex.Tokens.{Lexeme}
use Rattle.elab_rules.specs.cpp_ast.Trees as syntax
use Rattle.elab_rules.specs.cpp_tree.declared.faults.ElabFault.{ElabFault}
use Rattle.elab_rules.specs.elab_ctx.Ctx.{Ctx, Work, Closure}
use Rattle.elab_rules.specs.elab_ctx.Steps.{and_then, Typed}
use Rattle.elab_rules.specs.Initialising
use Rattle.elab_rules.specs.Expressions.{expression_with, operands_with, chosen_operand}
use Rattle.elab_growth.specs.Growth.{Follows, ExpressionsGrow, OperandsGrow, InitialsGrow}
use Rattle.elab_growth.proofs.Growth.{Behind, Holds, made, typed, all_typed, initial, chosen, expression, operands}

seam : {A : Type 0} (xs ys more : List A) → ys ≡ xs ++ more → take (length xs) ys ≡ xs
seam {A} xs ys more h = ap (λ (z : List A). take (length xs) z) h ∙ take-append_seam xs more

pub follows : (a b : Work) → Behind a b → Follows a b
follows a b h = record { frame = seam a.frame b.frame h.items h.frame; globals = seam a.globals b.globals h.texts h.globals }

-- what holds of the answer holds of the value that it is
held : {A : Type 0} (P : A → Type 0) (r : Result A ElabFault) (x : A) → Holds P r → r ≡ Ok x → P x
held {A} P r x h e = subst (λ (z : Result A ElabFault). Holds P z) e h

pub expressions_law : ExpressionsGrow
expressions_law s c l w e x h = follows w x.work (held (typed w) (expression_with s c l w e) x (expression s c l w e) h)

pub operands_law : OperandsGrow
operands_law s c l w es x h = follows w x.work (held (all_typed w) (operands_with s c l w es) x (operands s c l w es) h)

pub initials_law : InitialsGrow
initials_law c w t o m h = follows w m.work (held (made w) (Initialising.initial c w t o) m (initial c w t o) h)

-- an operand whose functions are one function
pub chosen_follows : (s : List Lexeme) (c : Ctx) (l : List Closure) (w : Work) (e : syntax.Tree) (x : Typed)
    → and_then (expression_with s c l w e) (chosen_operand c) ≡ Ok x → Follows w x.work
chosen_follows s c l w e x h = follows w x.work (held (typed w) (and_then (expression_with s c l w e) (chosen_operand c)) x
    (chosen c w (expression_with s c l w e) (expression s c l w e)) h)

-- What is cut back to what stood before

pub cut_again : (a b c : Work) (n k : ℕ) → Follows a b → n ≡ length a.frame → k ≡ length a.globals
    → c ≡ record { frame = take n b.frame; globals = take k b.globals } → c ≡ a
cut_again a b c n k h p q e = e
    ∙ ap (λ (z : List Typ). record { frame = z; globals = take k b.globals }) (ap (λ (i : ℕ). take i b.frame) p ∙ h.frame)
    ∙ ap (λ (z : List Global). record { frame = a.frame; globals = z }) (ap (λ (i : ℕ). take i b.globals) q ∙ h.globals)

-- so many stand in a list of the code, and in what it shows
pub shown_length : {A B : Type 0} (f : A → B) (v : Vec A Alloc) (n : ℕ) → n ≡ vec_len v → n ≡ length (map f v.items)
shown_length {A} f v n h = let is : vec_len v ≡ length v.items = search rules in h ∙ is ∙ sym (length-map v.items f)
