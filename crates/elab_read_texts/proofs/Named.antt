-- What a unit declares is named as the grammar has it.
use Rattle.std.proofs.Common.{◌≡◌, ℕ, ◌+◌, Bool, true, false, ◌&&◌, refl, sym as back, subst, List, Option, Some, None, true≢false}
use Rattle.std.proofs.lemmas.Bool.{and_parts, and_from}
use Rattle.cpp_lex.specs.Tokens.{Lexeme}
use Rattle.cpp_ast.specs.declared.arena.At.{At}
use Rattle.cpp_ast.specs.declared.kinds.NodeKind.{NodeKind}
use Rattle.cpp_ast.specs.declared.kinds.NodeKind.TheVariants as k
use Rattle.cpp_ast.specs.Trees.{node, Trees, none, more}
use Rattle.cpp_syntax.specs.Source.{Source, terminal_at, position_at}
use Rattle.cpp_syntax.specs.Terminals.{is_name}
use Rattle.cpp_syntax.specs.Rules.{Lookahead, Rule, mark, ◌·◌, node_at}
use Rattle.cpp_syntax.specs.Grammar.{production}
use Rattle.cpp_syntax.specs.Derivations.{Read, join, one_tree, no_read, in_trees, Derives, is_nothing, is_word, is_mark, is_mark_next}
use Rattle.cpp_syntax.specs.Derivations.{is_mark_name, is_both, is_left, is_right, is_last, is_more, is_form, is_node, is_wrap, is_kept_apart, is_in_tree}
use Rattle.cpp_syntax.specs.Derivations.{is_where, is_before, is_if, is_unless, positioned, position_of_first}
use Rattle.cpp_syntax.specs.Classes.{is_introduced, is_introducer}
use Rattle.cpp_syntax.proofs.TerminalTables.{implied}
use Rattle.elab_rules.specs.elab_ctx.Steps.{spelling}
use Rattle.elab_read_texts.specs.Names.{is_class_name, is_node_named, is_named, are_named}
use Rattle.elab_read_texts.proofs.CalmRules.{calms, is_read, introduces_first, names_first, introduces_name}
use Rattle.elab_read_texts.proofs.CalmRules.{node_named, is_free_node, reads_named}
use Rattle.elab_read_texts.proofs.CalmTables.{named_holds}
use Rattle.elab_read_texts.proofs.Calm.{calmed}
use Rattle.elab_read_texts.proofs.Plain.{AreKnown, followed, plainly}
use Rattle.elab_read_texts.proofs.Virtual.{AreOtherWords, without}

-- what is known of the tokens
pub record AreAllKnown (ls : List Lexeme) (source : Source) : Type 0 where
  pub known : AreKnown ls source
  pub others : AreOtherWords ls source
  -- a name behind a word that introduces a type is the name of one
  pub typed : (a : ℕ) → is_introducer (terminal_at source a) ≡ true → is_name (terminal_at source (a + 1)) ≡ true → is_class_name ls (spelling ls (a + 1)) ≡ true

joined_named : (ls : List Lexeme) (ts us : Trees) → are_named ls ts ≡ true → are_named ls us ≡ true → are_named ls (join ts us) ≡ true
joined_named ls none us h i = i
joined_named ls (more t ts) us h i =
    let p = and_parts (is_named ls t) (are_named ls ts) h in
    and_from (is_named ls t) (are_named ls (join ts us)) p.0 (joined_named ls ts us p.1 i)

one_named : (ls : List Lexeme) (kind : NodeKind) (at : At) (token : Option ℕ) (ts : Trees) → is_node_named ls kind token ts ≡ true
    → are_named ls ts ≡ true → are_named ls (one_tree (node kind at token ts)) ≡ true
one_named ls kind at token ts h i = and_from (is_named ls (node kind at token ts)) true
    (and_from (is_node_named ls kind token ts) (are_named ls ts) h i) refl

free_named : (ls : List Lexeme) (kind : NodeKind) (token : Option ℕ) (ts : Trees) → is_free_node kind ≡ true → is_node_named ls kind token ts ≡ true
free_named ls k.ClassSpecifier token ts h = absurd (true≢false (back h))
free_named ls k.MemberDeclaration token ts h = absurd (true≢false (back h))
free_named ls k.FunctionDefinition token ts h = absurd (true≢false (back h))
free_named ls k.ConstructorDeclaration token ts h = absurd (true≢false (back h))
free_named ls k.ConstructorDefinition token ts h = absurd (true≢false (back h))
free_named ls kind token ts h = refl

-- a class

abbrev is_type_token : List Lexeme → Option ℕ → Bool
is_type_token ls (Some t) = is_class_name ls (spelling ls t)
is_type_token ls None = true

-- the word that introduces it is one token
record Introduced (source : Source) (a b : ℕ) (k : Option ℕ) : Type 0 where
  word : is_introducer (terminal_at source a) ≡ true
  ends : b ≡ a + 1
  none : k ≡ None

introduced : {lookahead : Lookahead → ℕ → Type 0} {source : Source} {r s : Read} {a b : ℕ} {k : Option ℕ} (p : Rule) → introduces_first p ≡ true
    → Derives lookahead in_trees source p r a b k s → Introduced source a b k
introduced {source = source} {a = a} (node_at positioning kind (mark test)) h (is_node (is_mark t e f g) n m) =
    record { word = followed test is_introducer h (terminal_at source a) t; ends = e; none = n }
introduced p h x = absurd (true≢false (back h))

record Named (source : Source) (a : ℕ) (k : Option ℕ) : Type 0 where
  word : is_name (terminal_at source a) ≡ true
  token : k ≡ Some a

named_first : {lookahead : Lookahead → ℕ → Type 0} {source : Source} {r s : Read} {a b : ℕ} {k : Option ℕ} (p : Rule) → names_first p ≡ true
    → Derives lookahead in_trees source p r a b k s → Named source a k
named_first {source = source} {a = a} (mark test · p) h (is_both (is_mark t e f g) y j) =
    record { word = followed test is_name h (terminal_at source a) t; token = rw j (rw f refl) }
named_first p h x = absurd (true≢false (back h))

class_named : {lookahead : Lookahead → ℕ → Type 0} {source : Source} {r s : Read} {a b : ℕ} {k : Option ℕ} (ls : List Lexeme) (p : Rule)
    → AreAllKnown ls source → introduces_name p ≡ true → Derives lookahead in_trees source p r a b k s → is_type_token ls k ≡ true
class_named {source = source} {a = a} ls (p · q) all h (is_both {m = m} x y j) =
    let n = and_parts (introduces_first p) (names_first q) h in
    let i = introduced p n.0 x in
    let z = named_first q n.1 y in
    let word : is_name (terminal_at source (a + 1)) ≡ true = subst (λ (c : ℕ). is_name (terminal_at source c) ≡ true) i.ends z.word in
    rw j (rw i.none (rw z.token (rw i.ends (all.typed a i.word word))))
class_named ls p all h x = absurd (true≢false (back h))

class_is_named : (ls : List Lexeme) (token : Option ℕ) (ts : Trees) → is_type_token ls token ≡ true → is_node_named ls k.ClassSpecifier token ts ≡ true
class_is_named ls (Some t) ts h = h
class_is_named ls None ts h = refl

node_is_named : {lookahead : Lookahead → ℕ → Type 0} {source : Source} {p : Rule} {s : Read} {a b : ℕ} {l : Option ℕ} (ls : List Lexeme) (c : Bool)
    (kind : NodeKind) → AreAllKnown ls source → Derives lookahead in_trees source p no_read a b l s → node_named kind p c ≡ true
    → (c ≡ true → is_introduced ls a ≡ false) → is_node_named ls kind l s.trees ≡ true
node_is_named {p = p} {s = s} {l = l} ls c k.ClassSpecifier all x h i = class_is_named ls l s.trees (class_named ls p all h x)
node_is_named ls c k.MemberDeclaration all x h i = plainly ls c all.known x h i refl
node_is_named ls c k.FunctionDefinition all x h i = plainly ls c all.known x h i refl
node_is_named ls c k.ConstructorDeclaration all x h i = without ls all.others x h refl
node_is_named ls c k.ConstructorDefinition all x h i = without ls all.others x h refl
node_is_named ls c kind all x h i = refl

pub named : {lookahead : Lookahead → ℕ → Type 0} {source : Source} {p : Rule} {r s : Read} {a b : ℕ} {k : Option ℕ} (ls : List Lexeme) (c : Bool)
    → AreAllKnown ls source → Derives lookahead in_trees source p r a b k s → reads_named p c ≡ true → (c ≡ true → is_introduced ls a ≡ false)
    → are_named ls r.trees ≡ true → are_named ls s.trees ≡ true
named ls c all (is_nothing e f g) h i t = rw g t
named ls c all (is_word u e f g) h i t = rw g t
named ls c all (is_mark u e f g) h i t = rw g t
named ls c all (is_mark_next e f g) h i t = rw g t
named ls c all (is_mark_name e f g) h i t = rw g t
named ls c all (is_both {p = p} {q = q} x y e) h i t =
    let m = and_parts (reads_named p c) (reads_named q (calms p c)) h in
    named ls (calms p c) all y m.1 (λ z. calmed ls c all.known.stays x z i) (named ls c all x m.0 i t)
named ls c all (is_left {p = p} {q = q} x) h i t = named ls c all x (and_parts (reads_named p c) (reads_named q c) h).0 i t
named ls c all (is_right {p = p} {q = q} x) h i t = named ls c all x (and_parts (reads_named p c) (reads_named q c) h).1 i t
named ls c all (is_last e f g) h i t = rw g t
named ls c all (is_more {p = p} x y e) h i t =
    let m = and_parts c (calms p true && reads_named p true) h in
    let n = and_parts (calms p true) (reads_named p true) m.1 in
    let behind = calmed ls true all.known.stays x n.0 (λ z. i m.0) in
    named ls c all y h (λ z. behind) (named ls true all x n.1 (λ z. i m.0) t)
named ls c all (is_form {f = f} {r = r} {t = u} x e g) h i t =
    let m = and_parts c (is_read f) h in
    let made = named ls true all x (implied (is_read f) (reads_named (production f) true) (named_holds f) m.1) (λ z. i m.0) refl in
    rw g (joined_named ls r.trees u.trees t made)
named {source = source} ls c all (is_node {positioning = positioning} {kind = kind} {p = p} {r = r} {t = u} {a = a} {l = l} x e g) h i t =
    let m = and_parts (node_named kind p c) (reads_named p c) h in
    let made = named ls c all x m.1 i refl in
    let at = positioned positioning source a l u.trees in
    rw g (joined_named ls r.trees (one_tree (node kind at l u.trees)) t (one_named ls kind at l u.trees (node_is_named ls c kind all x m.0 i) made))
named {source = source} ls c all (is_wrap {kind = kind} {p = p} {r = r} {t = u} {a = a} {l = l} x e g) h i t =
    let m = and_parts (is_free_node kind) (reads_named p c) h in
    rw g (one_named ls kind (position_of_first source a r.trees) l u.trees (free_named ls kind l u.trees m.0) (named ls c all x m.1 i t))
named ls c all (is_kept_apart e x f o y d g j n) h i t = absurd cc
named {source = source} ls c all (is_in_tree {kind = kind} {p = p} {r = r} {u = v} {a = a} {l = l} e x y f g) h i t =
    let m = and_parts (is_free_node kind) (calms p c && reads_named p c) h in
    let n = and_parts (calms p c) (reads_named p c) m.1 in
    let before = named ls c all x n.1 i refl in
    let body = named ls true all y refl (λ z. calmed ls c all.known.stays x n.0 i) before in
    let at = position_at source a in
    rw g (joined_named ls r.trees (one_tree (node kind at l v.trees)) t (one_named ls kind at l v.trees (free_named ls kind l v.trees m.0) body))
named ls c all (is_where x e) h i t = named ls c all x h i t
named ls c all (is_before x e) h i t = named ls c all x h i t
named ls c all (is_if l x) h i t = named ls c all x h i t
named ls c all (is_unless l x) h i t = named ls c all x h i t
