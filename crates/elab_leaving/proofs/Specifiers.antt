-- Words before a declaration that are read twice are read once.
use Rattle.std.proofs.Common.{◌≡◌, ℕ, Bool, true, false, List, refl, sym, ap, ◌∙◌, Some}
use Rattle.std.specs.Prelude.{codes, if◌then◌else◌}
use Rattle.std.specs.Str.{bytes_eq}
use Rattle.elab_rules.specs.cpp_lex.Tokens.{Lexeme}
use Rattle.elab_rules.specs.cpp_ast.declared.kinds.NodeKind.TheVariants as k
use Rattle.elab_rules.specs.cpp_ast.Trees as syntax
use Rattle.elab_rules.specs.elab_ctx.Steps.{spelling}
use Rattle.elab_rules.specs.Functions.{Storage, with_specifier}
use Rattle.elab_rules.specs.Classes.{started_from}

-- a word that is `static`, `extern`, `inline` or `virtual`
abbrev with_word : Storage → Bool → Bool → Bool → Bool → Storage
with_word x a b c d = if a then record x { is_static = true } else
    (if b then record x { is_extern = true } else (if c then record x { is_inline = true } else (if d then record x { is_virtual = true } else x)))

words_commute : (x : Storage) (a1 a2 a3 a4 b1 b2 b3 b4 : Bool)
    → with_word (with_word x a1 a2 a3 a4) b1 b2 b3 b4 ≡ with_word (with_word x b1 b2 b3 b4) a1 a2 a3 a4
words_commute x true a2 a3 a4 true b2 b3 b4 = refl
words_commute x true a2 a3 a4 false true b3 b4 = refl
words_commute x true a2 a3 a4 false false true b4 = refl
words_commute x true a2 a3 a4 false false false true = refl
words_commute x true a2 a3 a4 false false false false = refl
words_commute x false true a3 a4 true b2 b3 b4 = refl
words_commute x false true a3 a4 false true b3 b4 = refl
words_commute x false true a3 a4 false false true b4 = refl
words_commute x false true a3 a4 false false false true = refl
words_commute x false true a3 a4 false false false false = refl
words_commute x false false true a4 true b2 b3 b4 = refl
words_commute x false false true a4 false true b3 b4 = refl
words_commute x false false true a4 false false true b4 = refl
words_commute x false false true a4 false false false true = refl
words_commute x false false true a4 false false false false = refl
words_commute x false false false true true b2 b3 b4 = refl
words_commute x false false false true false true b3 b4 = refl
words_commute x false false false true false false true b4 = refl
words_commute x false false false true false false false true = refl
words_commute x false false false true false false false false = refl
words_commute x false false false false true b2 b3 b4 = refl
words_commute x false false false false false true b3 b4 = refl
words_commute x false false false false false false true b4 = refl
words_commute x false false false false false false false true = refl
words_commute x false false false false false false false false = refl

words_again : (x : Storage) (a1 a2 a3 a4 : Bool) → with_word (with_word x a1 a2 a3 a4) a1 a2 a3 a4 ≡ with_word x a1 a2 a3 a4
words_again x true a2 a3 a4 = refl
words_again x false true a3 a4 = refl
words_again x false false true a4 = refl
words_again x false false false true = refl
words_again x false false false false = refl

commute : (x : Storage) (a b : List ℕ) → with_specifier (with_specifier x a) b ≡ with_specifier (with_specifier x b) a
commute x a b = words_commute x (bytes_eq a (codes "static")) (bytes_eq a (codes "extern")) (bytes_eq a (codes "inline")) (bytes_eq a (codes "virtual"))
    (bytes_eq b (codes "static")) (bytes_eq b (codes "extern")) (bytes_eq b (codes "inline")) (bytes_eq b (codes "virtual"))

again : (x : Storage) (a : List ℕ) → with_specifier (with_specifier x a) a ≡ with_specifier x a
again x a = words_again x (bytes_eq a (codes "static")) (bytes_eq a (codes "extern")) (bytes_eq a (codes "inline")) (bytes_eq a (codes "virtual"))

-- a word before the others is as one behind them
word_last : (s : List Lexeme) (x : Storage) (a : List ℕ) (ts : syntax.Trees)
    → (started_from s (with_specifier x a) ts).storage ≡ with_specifier (started_from s x ts).storage a
word_last s x a (syntax.more (syntax.node k.Attribute p token kids) ts) = word_last s x a ts
word_last s x a (syntax.more (syntax.node k.DeclSpecifier p (Some t) kids) ts) =
    ap (λ (z : Storage). (started_from s z ts).storage) (commute x a (spelling s t)) ∙ word_last s (with_specifier x (spelling s t)) a ts
word_last s x a ts = refl

-- words that are known already add nothing
pub started_again : (s : List Lexeme) (x : Storage) (ts : syntax.Trees) → started_from s (started_from s x ts).storage ts ≡ started_from s x ts
started_again s x (syntax.more (syntax.node k.Attribute p token kids) ts) = started_again s x ts
started_again s x (syntax.more (syntax.node k.DeclSpecifier p (Some t) kids) ts) =
    let a : List ℕ = spelling s t in
    ap (λ (z : Storage). started_from s z ts) (ap (λ (z : Storage). with_specifier z a) (word_last s x a ts) ∙ again (started_from s x ts).storage a ∙ sym
    (word_last s x a ts)) ∙ started_again s (with_specifier x a) ts
started_again s x ts = refl
