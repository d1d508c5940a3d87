-- What a member can be of which the head was read: its type, its first declarator, and what stands before the type.
use Rattle.std.proofs.Common.{◌≡◌, ℕ, ◌≤◌, length, Option, Some, None, true, false, not, refl, sym as back, subst}
use Rattle.std.proofs.lemmas.Bool.{not-true}
use Rattle.cpp_ast.specs.declared.kinds.NodeKind.TheVariants.{MemberDeclaration, FunctionDefinition}
use Rattle.cpp_ast.specs.declared.kinds.NodeKind.{NodeKind}
use Rattle.cpp_syntax.specs.declared.terminal.Terminal.{Terminal}
use Rattle.cpp_syntax.specs.declared.positions.Checkpoint.{Checkpoint}
use Rattle.cpp_syntax.specs.Source.{Source, terminal_at}
use Rattle.cpp_syntax.specs.Terminals.{inline_word, semicolon}
use Rattle.cpp_syntax.specs.FirstSets.{first_of_types}
use Rattle.cpp_syntax.specs.Rules.{at_name, Rule, ◌·◌, form, word, member_declarator}
use Rattle.cpp_syntax.specs.Derivations.{Read, reads_node, positioned, token_of_name, declared_in}
use Rattle.cpp_syntax.specs.View.{BuilderState, appended, IsMark}
use Rattle.cpp_syntax.specs.Parsed.{Leaves, ReadsLongest, NoneOf}
use Rattle.cpp_syntax.proofs.TerminalTables.{at_each, implies, implied}
use Rattle.cpp_syntax.proofs.LongestMatches.{mark_none, node_none}
use Rattle.cpp_syntax.proofs.Readers.{leaves_both, leaves_read, reads_seq, reads_left_out, none_behind, none_seq}
use Rattle.cpp_syntax.proofs.ReaderLoops.{reads_mark_next}
use Rattle.cpp_parse_expr.proofs.ReaderAnswers.{none_unlike, made_at_name}
use Rattle.cpp_parse_expr.proofs.PostfixReaders.{Instead}
use Rattle.cpp_parse.specs.declared.single_members.MemberHead.{MemberHead}
use Rattle.cpp_parse.specs.MemberHeads.{IsTyped, IsHead, rest_single, rest_initialized, rest_listed, rest_function}
use Rattle.cpp_parse.specs.Alternatives.{single_declaration, member_function_alone, member_function}
use Rattle.cpp_parse.specs.Alternatives.{initialized, listed, types, named_declarator, optional_attribute, optional_virtual}
use Rattle.cpp_parse.proofs.LongestAlone.{reached, none_marked, none_skipped}
use Rattle.cpp_parse.proofs.MemberShapes.{no_single, no_initialized, no_listed, no_function_body}

-- a node made of the trees since a mark, which has its position at a declared name
abbrev pub MadeAtName : Source → NodeKind → ℕ → Option ℕ → Checkpoint → BuilderState → BuilderState → Type 0
MadeAtName source kind at token start old new = (before : BuilderState) (got : Read) → IsMark start before → old ≡ appended before got
    → new ≡ appended before (reads_node kind (positioned at_name source at token got.trees) token got)

-- Where nothing stands before the type.

types_not_inline : (z : Terminal) → first_of_types z ≡ true → inline_word z ≡ false
types_not_inline z t =
    not-true (inline_word z) (implied (first_of_types z) (not (inline_word z)) (at_each (λ y. implies (first_of_types y) (not (inline_word y))) refl z) t)

pub typed_head : (head : MemberHead) {source : Source} {from : ℕ} {before between now : BuilderState}
    → ReadsLongest source types from head.named None before between → IsMark head.first between
    → (y : ReadsLongest source named_declarator head.named head.behind None between now)
    → head.name ≡ token_of_name (declared_in (y.got).trees) → IsTyped source head from before now
typed_head head {between = between} x m y e = record { between = between; typed = x; mark = m; declared = y; name = e }

pub typed_until : {source : Source} {head : MemberHead} {from : ℕ} {before now new : BuilderState} → new ≡ now → IsTyped source head from before now
    → IsTyped source head from before new
typed_until {source = source} {head = head} {from = from} {before = before} e x = subst (λ (w : BuilderState). IsTyped source head from before w) (back e) x

pub bare_head : (head : MemberHead) {source : Source} {before now : BuilderState} → head.at ≤ length source.terminals
    → first_of_types (terminal_at source head.at) ≡ true → IsMark head.start before → IsTyped source head head.at before now
    → IsHead source head before now
bare_head head {source = source} {before = before} i t m x = record {
  after = head.at;
  from = head.at;
  first = before;
  second = before;
  begins = m;
  attribute = reads_left_out (none_unlike first_of_types t refl refl) i refl;
  change = reads_left_out (none_unlike first_of_types t refl refl) i refl;
  plain = types_not_inline (terminal_at source head.at) t;
  rest = x;
}

pub full_head : (head : MemberHead) {source : Source} {after from : ℕ} {before first second now : BuilderState} → IsMark head.start before
    → ReadsLongest source optional_attribute head.at after None before first → ReadsLongest source optional_virtual after from None first second
    → inline_word (terminal_at source from) ≡ false → IsTyped source head from second now → IsHead source head before now
full_head head {after = after} {from = from} {first = first} {second = second} m x y f z = record {
  after = after;
  from = from;
  first = first;
  second = second;
  begins = m;
  attribute = x;
  change = y;
  plain = f;
  rest = z;
}

-- Of a type and a declarator.
module _ {source : Source} {head : MemberHead} {from : ℕ} {before now : BuilderState} (x : IsTyped source head from before now) where
  pub leaves_typed : Leaves before now
  leaves_typed = leaves_both (leaves_read x.typed) (leaves_read x.declared)

  pub none_initialized : NoneOf source rest_initialized head.behind → NoneOf source initialized from
  none_initialized n = no_initialized (reached x.typed) (reached x.declared) n

  pub none_listed : NoneOf source rest_listed head.behind → NoneOf source listed from
  none_listed n = no_listed (reached x.typed) (reached x.declared) n

-- Of a head.
module _ {source : Source} {head : MemberHead} {before now : BuilderState} (x : IsHead source head before now) where
  -- up to the declarator
  pub leaves_front : Leaves before x.rest.between
  leaves_front = leaves_both (leaves_read x.attribute) (leaves_both (leaves_read x.change) (leaves_read x.rest.typed))

  pub leaves_head : Leaves before now
  leaves_head = leaves_both (leaves_read x.attribute) (leaves_both (leaves_read x.change) (leaves_typed x.rest))

  pub none_single : NoneOf source rest_single head.behind → NoneOf source single_declaration head.at
  none_single n =
      node_none (none_marked (none_behind x.attribute (none_behind x.change (no_single (reached x.rest.typed) (reached x.rest.declared) n) refl refl refl)
      refl refl refl))

  pub none_function : NoneOf source rest_function head.behind → NoneOf source member_function head.at
  none_function n =
      none_seq (node_none (none_marked (none_behind x.attribute (none_behind x.change (none_skipped (node_none (mark_none x.plain))
      (no_function_body (reached x.rest.typed) (reached x.rest.declared) n) refl refl) refl refl refl) refl refl refl)))

  pub single_made : {end : ℕ} {v w : BuilderState} → head.at ≤ length source.terminals
      → ReadsLongest source (form member_declarator · word semicolon) head.named end None x.rest.between v
      → MadeAtName source MemberDeclaration head.at (Some head.at) head.start v w → ReadsLongest source single_declaration head.at end None before w
  single_made i y f =
      made_at_name (reads_seq (reads_mark_next i) (reads_seq x.attribute (reads_seq x.change (reads_seq x.rest.typed y refl refl) refl refl) refl refl) refl
      refl) x.begins f

  pub function_made : {end : ℕ} {v w : BuilderState} → head.at ≤ length source.terminals
      → ReadsLongest source rest_function head.behind end None now v
      → MadeAtName source FunctionDefinition head.at (Some head.at) head.start v w
      → ReadsLongest source member_function_alone head.at end None before w
  function_made i y f =
      made_at_name (reads_seq (reads_mark_next i) (reads_seq x.attribute (reads_seq x.change
      (reads_seq (reads_left_out (node_none (mark_none x.plain)) x.change.inside refl) (reads_seq x.rest.typed (reads_seq x.rest.declared y refl refl) refl
      refl) refl refl) refl refl) refl refl) refl refl) x.begins f

pub as_it_is : {s : Source} {p : Rule} {a : ℕ} → Instead s p p a
as_it_is = record { to = λ b k t u. u; fro = λ b k t u. u }
