-- What derives from a rule: the texts of a rule, with the trees that they add.
use Rattle.std.specs.Prelude.{◌≡◌, ℕ, ◌+◌, ◌-◌, if◌then◌else◌, Bool, true, false, ◌||◌, is_some, List, [], ◌∷◌, ◌++◌, Option, Some, None}
use Rattle.cpp_ast.specs.declared.arena.At.{At}
use Rattle.cpp_ast.specs.declared.kinds.NodeKind.{NodeKind}
use Rattle.cpp_ast.specs.declared.kinds.NodeKind.TheVariants as kind
use Rattle.cpp_ast.specs.Trees.{Tree, node, Trees, none, more}
use Rattle.cpp_syntax.specs.declared.terminal.Terminal.{Terminal}
use Rattle.cpp_syntax.specs.Source.{Source, terminal_at, position_at}
use Rattle.cpp_syntax.specs.Rules.{Nonterminal, balanced, compound_statement, Lookahead, Positioning, at_first, at_token, at_name, Rule, nothing, word, mark}
use Rattle.cpp_syntax.specs.Rules.{mark_next, mark_name, ◌·◌, ◌∣◌, many, form, node_at, wrap, with_body, where_, before_no, if_, unless}
use Rattle.cpp_syntax.specs.Terminals.{open_brace, close_brace}
use Rattle.cpp_syntax.specs.Grammar.{production}

-- A lambda's body that is kept apart from its tree: the token of the lambda, and the tokens between its braces.
pub record Body : Type 0 where
  pub lambda : ℕ
  pub from : ℕ
  pub to : ℕ

-- What was read: trees one behind the other, and the bodies that are kept apart.
pub record Read : Type 0 where
  pub trees : Trees
  pub bodies : List Body

abbrev pub join : Trees → Trees → Trees
join none us = us
join (more t ts) us = more t (join ts us)

abbrev pub one_tree : Tree → Trees
one_tree t = more t none

abbrev pub no_read : Read
no_read = record { trees = none; bodies = [] }

-- what was read, and behind it what was read then
abbrev pub and_then : Read → Read → Read
and_then r s = record { trees = join r.trees s.trees; bodies = r.bodies ++ s.bodies }

abbrev pub first_or : Option ℕ → Option ℕ → Option ℕ
first_or None l = l
first_or (Some k) l = Some k

-- The name that a declarator declares: its first token (`~` of a destructor) and its token.
pub record Name : Type 0 where
  pub first : ℕ
  pub token : ℕ

-- kinds that lead from a declarator to the name that it declares
abbrev pub leads_to_name : NodeKind → Bool
leads_to_name kind.PointerDeclarator = true
leads_to_name kind.ReferenceDeclarator = true
leads_to_name kind.ArrayDeclarator = true
leads_to_name kind.FunctionDeclarator = true
leads_to_name kind.ParenthesizedDeclarator = true
leads_to_name kind.InitDeclarator = true
leads_to_name kind.MemberDeclarator = true
leads_to_name _ = false

abbrev pub name_by : NodeKind → Option ℕ → Option Name
name_by kind.DeclaratorId (Some k) = Some (record { first = k; token = k })
name_by kind.QualifiedDeclaratorId (Some k) = Some (record { first = k; token = k })
name_by kind.DestructorId (Some k) = Some (record { first = k - 1; token = k })
name_by kind.QualifiedDestructorId (Some k) = Some (record { first = k - 1; token = k })
name_by _ _ = None

-- a name, or what leads to one
abbrev pub is_of_declarator : Tree → Bool
is_of_declarator (node kind at token kids) = leads_to_name kind || is_some (name_by kind token)

-- The name that a tree declares, and that the first of some trees does which is of a declarator.
abbrev mutual
  pub declared : Tree → Option Name
  declared (node kind at token kids) = if leads_to_name kind then declared_in kids else name_by kind token

  pub declared_in : Trees → Option Name
  declared_in none = None
  declared_in (more t ts) = if is_of_declarator t then declared t else declared_in ts

abbrev pub token_of_name : Option Name → Option ℕ
token_of_name None = None
token_of_name (Some name) = Some name.token

-- Where a node has its position, that begins at a token, and has this token and these kids.

abbrev pub or_first : Source → ℕ → Option ℕ → At
or_first source a None = position_at source a
or_first source a (Some k) = position_at source k

abbrev pub first_of_name : Option Name → Option ℕ
first_of_name None = None
first_of_name (Some name) = Some name.first

abbrev pub positioned : Positioning → Source → ℕ → Option ℕ → Trees → At
positioned at_first source a token kids = position_at source a
positioned at_token source a token kids = or_first source a token
positioned at_name source a token kids = or_first source a (first_of_name (declared_in kids))

abbrev pub at_of : Tree → At
at_of (node kind at token kids) = at

-- the position of the first of some trees
abbrev pub position_of_first : Source → ℕ → Trees → At
position_of_first source a none = position_at source a
position_of_first source a (more t ts) = at_of t

abbrev pub reads_node : NodeKind → At → Option ℕ → Read → Read
reads_node kind at token r = record { trees = one_tree (node kind at token r.trees); bodies = r.bodies }

-- a node whose body is kept apart
abbrev pub with_body_apart : NodeKind → At → ℕ → ℕ → ℕ → Read → Read
with_body_apart kind at lambda from to r = record {
  trees = one_tree (node kind at (Some lambda) r.trees);
  bodies = r.bodies ++ record { lambda = lambda; from = from; to = to } ∷ [];
}

-- Whether the body of a lambda is its last kid, or is kept apart from its tree as a run of tokens.
pub data Bodies : Type 0 where
  in_trees : Bodies
  kept_apart : Bodies

-- The texts of a rule: from one index to another, behind what was read before, with the token that is marked and with
-- what was read afterwards.
pub data Derives (lookahead : Lookahead → ℕ → Type 0) (bodies : Bodies) (source : Source) : Rule → Read → ℕ → ℕ → Option ℕ → Read → Type 0 where
  is_nothing : {r s : Read} {a b : ℕ} {k : Option ℕ} → b ≡ a → k ≡ None → s ≡ r → Derives lookahead bodies source nothing r a b k s
  is_word : {test : Terminal → Bool} {r s : Read} {a b : ℕ} {k : Option ℕ} → test (terminal_at source a) ≡ true → b ≡ a + 1 → k ≡ None → s ≡ r
      → Derives lookahead bodies source (word test) r a b k s
  is_mark : {test : Terminal → Bool} {r s : Read} {a b : ℕ} {k : Option ℕ} → test (terminal_at source a) ≡ true → b ≡ a + 1 → k ≡ Some a → s ≡ r
      → Derives lookahead bodies source (mark test) r a b k s
  is_mark_next : {r s : Read} {a b : ℕ} {k : Option ℕ} → b ≡ a → k ≡ Some a → s ≡ r → Derives lookahead bodies source mark_next r a b k s
  is_mark_name : {r s : Read} {a b : ℕ} {k : Option ℕ} → b ≡ a → k ≡ token_of_name (declared_in r.trees) → s ≡ r
      → Derives lookahead bodies source mark_name r a b k s
  is_both : {p q : Rule} {r s t : Read} {a m b : ℕ} {j k l : Option ℕ} → Derives lookahead bodies source p r a m k s
      → Derives lookahead bodies source q s m b l t → j ≡ first_or k l → Derives lookahead bodies source (p · q) r a b j t
  is_left : {p q : Rule} {r s : Read} {a b : ℕ} {k : Option ℕ} → Derives lookahead bodies source p r a b k s → Derives lookahead bodies source (p ∣ q) r a b k s
  is_right : {p q : Rule} {r s : Read} {a b : ℕ} {k : Option ℕ} → Derives lookahead bodies source q r a b k s
      → Derives lookahead bodies source (p ∣ q) r a b k s
  is_last : {p : Rule} {r s : Read} {a b : ℕ} {k : Option ℕ} → b ≡ a → k ≡ None → s ≡ r → Derives lookahead bodies source (many p) r a b k s
  is_more : {p : Rule} {r s t : Read} {a m b : ℕ} {j k l : Option ℕ} → Derives lookahead bodies source p r a m k s
      → Derives lookahead bodies source (many p) s m b l t → j ≡ first_or k l → Derives lookahead bodies source (many p) r a b j t
  is_form : {f : Nonterminal} {r s t : Read} {a b : ℕ} {k l : Option ℕ} → Derives lookahead bodies source (production f) no_read a b l t → k ≡ None
      → s ≡ and_then r t → Derives lookahead bodies source (form f) r a b k s
  is_node : {positioning : Positioning} {kind : NodeKind} {p : Rule} {r s t : Read} {a b : ℕ} {k l : Option ℕ}
      → Derives lookahead bodies source p no_read a b l t → k ≡ None
      → s ≡ and_then r (reads_node kind (positioned positioning source a l t.trees) l t)
      → Derives lookahead bodies source (node_at positioning kind p) r a b k s
  is_wrap : {kind : NodeKind} {p : Rule} {r s t : Read} {a b : ℕ} {k l : Option ℕ} → Derives lookahead bodies source p r a b l t → k ≡ None
      → s ≡ reads_node kind (position_of_first source a r.trees) l t → Derives lookahead bodies source (wrap kind p) r a b k s
  is_kept_apart : {kind : NodeKind} {p : Rule} {r s t u : Read} {a m n b lambda : ℕ} {j k l : Option ℕ} → bodies ≡ kept_apart
      → Derives lookahead bodies source p no_read a m l t → l ≡ Some lambda → open_brace (terminal_at source m) ≡ true
      → Derives lookahead bodies source (form balanced) no_read (m + 1) n j u → close_brace (terminal_at source n) ≡ true → b ≡ n + 1 → k ≡ None
      → s ≡ and_then r (with_body_apart kind (position_at source a) lambda (m + 1) n t) → Derives lookahead bodies source (with_body kind p) r a b k s
  is_in_tree : {kind : NodeKind} {p : Rule} {r s t u : Read} {a m b : ℕ} {j k l : Option ℕ} → bodies ≡ in_trees
      → Derives lookahead bodies source p no_read a m l t → Derives lookahead bodies source (form compound_statement) t m b j u → k ≡ None
      → s ≡ and_then r (reads_node kind (position_at source a) l u) → Derives lookahead bodies source (with_body kind p) r a b k s
  is_where : {test : Source → ℕ → ℕ → Bool} {p : Rule} {r s : Read} {a b : ℕ} {k : Option ℕ} → Derives lookahead bodies source p r a b k s
      → test source a b ≡ true → Derives lookahead bodies source (where_ test p) r a b k s
  is_before : {test : Terminal → Bool} {p : Rule} {r s : Read} {a b : ℕ} {k : Option ℕ} → Derives lookahead bodies source p r a b k s
      → test (terminal_at source b) ≡ false → Derives lookahead bodies source (before_no test p) r a b k s
  is_if : {look : Lookahead} {p : Rule} {r s : Read} {a b : ℕ} {k : Option ℕ} → lookahead look a → Derives lookahead bodies source p r a b k s
      → Derives lookahead bodies source (if_ look p) r a b k s
  is_unless : {look : Lookahead} {p : Rule} {r s : Read} {a b : ℕ} {k : Option ℕ} → (lookahead look a → ⊥)
      → Derives lookahead bodies source p r a b k s → Derives lookahead bodies source (unless look p) r a b k s
