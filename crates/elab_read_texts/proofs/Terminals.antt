-- Which tokens are names and keywords to the grammar.
use Rattle.std.proofs.Common.{◌≡◌, ℕ, Bool, true, false, not, ◌&&◌, ◌||◌, nat_lt, refl, sym as back, ◌∙◌, ap, List, [], ◌∷◌, codes}
use Rattle.std.proofs.Common.{Option, Some, None, is_some, if◌then◌else◌, true≢false}
use Rattle.std.specs.List.{list_all}
use Rattle.std.specs.Str.{bytes_eq}
use Rattle.std.proofs.lemmas.Bool.{and_parts, not-true}
use Rattle.std.proofs.lemmas.Slice.Eq.{bytes_eq-Decides}
use Rattle.cpp_lex.specs.Tokens.{Lexeme}
use Rattle.cpp_lex.specs.declared.TokKind.{TokKind}
use Rattle.cpp_lex.specs.declared.TokKind.TheVariants as token
use Rattle.cpp_syntax.specs.declared.terminal.Terminal.{Terminal}
use Rattle.cpp_syntax.specs.declared.terminal.Terminal.TheVariants as terminal
use Rattle.cpp_syntax.specs.Terminals.{is_name, as_type_name, before_type_name, explicit_word, inline_word}
use Rattle.cpp_syntax.specs.Classes.{Spelled, keys, puncts, special_names, terminal_by, key_terminal, punct_terminal, integer_terminal, name_terminal}
use Rattle.cpp_syntax.specs.Classes.{is_introducer, is_key, name_class, class_by}
use Rattle.cpp_syntax.proofs.TerminalTables.{passes, at_each}

-- no row of a table, nor what is not in it, passes the test
no_row : (test : Terminal → Bool) (rows : List Spelled) (word : List ℕ) (otherwise : Terminal) → list_all (λ (r : Spelled). not (test r.terminal)) rows ≡ true
    → test otherwise ≡ false → test (terminal_by rows word otherwise) ≡ false
no_row test [] word otherwise h e = e
no_row test (row ∷ rows) word otherwise h e =
    let p = and_parts (not (test row.terminal)) (list_all (λ (r : Spelled). not (test r.terminal)) rows) h in
    by_row (bytes_eq row.word word) (not-true (test row.terminal) p.0) (no_row test rows word otherwise p.1 e)
  where
    by_row : (b : Bool) → test row.terminal ≡ false → test (terminal_by rows word otherwise) ≡ false
        → test (if b then row.terminal else terminal_by rows word otherwise) ≡ false
    by_row true f g = f
    by_row false f g = g

choice : (test : Terminal → Bool) (b : Bool) (s t : Terminal) → test s ≡ false → test t ≡ false → test (if b then s else t) ≡ false
choice test true s t e f = e
choice test false s t e f = f

-- A test that only keywords pass.
pub record IsOfKeys (test : Terminal → Bool) : Type 0 where
  pub punct : (word : List ℕ) → test (punct_terminal word) ≡ false
  pub name : (word : List ℕ) (b : Bool) → test (name_terminal word b) ≡ false
  pub integer : (word : List ℕ) → test (integer_terminal word) ≡ false
  pub later : passes (λ (s : Terminal). not (test (as_type_name s))) ≡ true
  pub before : passes (λ (s : Terminal). not (test (before_type_name s))) ≡ true
  pub character : test terminal.Character ≡ false
  pub string : test terminal.String ≡ false

name_classed : (test : Terminal → Bool) (b : Bool) (index : Option ℕ) (k : ℕ) (s : Terminal) → test s ≡ false
    → passes (λ (s : Terminal). not (test (as_type_name s))) ≡ true → passes (λ (s : Terminal). not (test (before_type_name s))) ≡ true
    → test (name_class b index k s) ≡ false
name_classed test true index k s e f g = e
name_classed test false None k s e f g = e
name_classed test false (Some i) k s e f g = choice test (nat_lt i k) (as_type_name s) (before_type_name s)
    (not-true (test (as_type_name s)) (at_each (λ (s : Terminal). not (test (as_type_name s))) f s))
    (not-true (test (before_type_name s)) (at_each (λ (s : Terminal). not (test (before_type_name s))) g s))

pub of_keys : (test : Terminal → Bool) → IsOfKeys test → (tokens : List Lexeme) (k : ℕ) (kind : TokKind) (word : List ℕ)
    → test (class_by tokens k kind word) ≡ true → kind ≡ token.Key
of_keys test x tokens k token.Key word h = refl
of_keys test x tokens k token.Name word h = absurd (true≢false (back h ∙ name_classed test _ _ k _ (x.name word _) x.later x.before))
of_keys test x tokens k token.Punct word h = absurd (true≢false (back h ∙ x.punct word))
of_keys test x tokens k token.Int word h = absurd (true≢false (back h ∙ x.integer word))
of_keys test x tokens k token.Char word h = absurd (true≢false (back h ∙ x.character))
of_keys test x tokens k token.Str word h = absurd (true≢false (back h ∙ x.string))

no_punct : (test : Terminal → Bool) → list_all (λ (r : Spelled). not (test r.terminal)) puncts ≡ true → test terminal.Other ≡ false → (word : List ℕ)
    → test (punct_terminal word) ≡ false
unfolding puncts punct_terminal
no_punct test h e word = no_row test puncts word terminal.Other h e

no_named : (test : Terminal → Bool) → list_all (λ (r : Spelled). not (test r.terminal)) special_names ≡ true → test terminal.Name ≡ false
    → test terminal.Std ≡ false → (word : List ℕ) (b : Bool) → test (name_terminal word b) ≡ false
unfolding special_names name_terminal
no_named test h e f word b = choice test (b && bytes_eq word (codes "std")) terminal.Std (terminal_by special_names word terminal.Name) f
    (no_row test special_names word terminal.Name h e)

no_integer : (test : Terminal → Bool) → test terminal.Zero ≡ false → test terminal.Integer ≡ false → (word : List ℕ) → test (integer_terminal word) ≡ false
unfolding integer_terminal
no_integer test e f word = choice test (bytes_eq word (codes "0")) terminal.Zero terminal.Integer e f

introducers_of_keys : IsOfKeys is_introducer
unfolding puncts special_names
introducers_of_keys = record {
  punct = no_punct is_introducer refl refl;
  name = no_named is_introducer refl refl refl;
  integer = no_integer is_introducer refl refl;
  later = refl;
  before = refl;
  character = refl;
  string = refl;
}

abbrev pub is_other_word : Terminal → Bool
is_other_word s = explicit_word s || inline_word s

others_of_keys : IsOfKeys is_other_word
unfolding puncts special_names
others_of_keys = record {
  punct = no_punct is_other_word refl refl;
  name = no_named is_other_word refl refl refl;
  integer = no_integer is_other_word refl refl;
  later = refl;
  before = refl;
  character = refl;
  string = refl;
}

-- behind a token that is none of those words, nothing is introduced
pub calm_by : (tokens : List Lexeme) (k : ℕ) (kind : TokKind) (word : List ℕ) → is_introducer (class_by tokens k kind word) ≡ false
    → (is_key kind && is_introducer (key_terminal word)) ≡ false
calm_by tokens k token.Key word h = h
calm_by tokens k token.Name word h = refl
calm_by tokens k token.Punct word h = refl
calm_by tokens k token.Int word h = refl
calm_by tokens k token.Char word h = refl
calm_by tokens k token.Str word h = refl

pub introduced_by : (tokens : List Lexeme) (k : ℕ) (kind : TokKind) (word : List ℕ) → is_introducer (class_by tokens k kind word) ≡ true
    → (is_key kind && is_introducer (key_terminal word)) ≡ true
introduced_by tokens k token.Key word h = h
introduced_by tokens k token.Name word h = absurd (let e = of_keys is_introducer introducers_of_keys tokens k token.Name word h in cc)
introduced_by tokens k token.Punct word h = absurd (let e = of_keys is_introducer introducers_of_keys tokens k token.Punct word h in cc)
introduced_by tokens k token.Int word h = absurd (let e = of_keys is_introducer introducers_of_keys tokens k token.Int word h in cc)
introduced_by tokens k token.Char word h = absurd (let e = of_keys is_introducer introducers_of_keys tokens k token.Char word h in cc)
introduced_by tokens k token.Str word h = absurd (let e = of_keys is_introducer introducers_of_keys tokens k token.Str word h in cc)

no_virtual : (word : List ℕ) → is_other_word (key_terminal word) ≡ true → bytes_eq word (codes "virtual") ≡ true → ⊥
unfolding keys key_terminal
no_virtual word h e =
    let f : word ≡ codes "virtual" = (bytes_eq-Decides word (codes "virtual")).0 e in
    let g : is_other_word (key_terminal word) ≡ false = ap (λ (w : List ℕ). is_other_word (key_terminal w)) f in
    true≢false (back h ∙ g)

-- neither `explicit` nor `inline` is spelled `virtual`
pub other_word : (tokens : List Lexeme) (k : ℕ) (kind : TokKind) (word : List ℕ) → is_other_word (class_by tokens k kind word) ≡ true
    → bytes_eq word (codes "virtual") ≡ true → ⊥
other_word tokens k token.Key word h e = no_virtual word h e
other_word tokens k token.Name word h e = let f = of_keys is_other_word others_of_keys tokens k token.Name word h in cc
other_word tokens k token.Punct word h e = let f = of_keys is_other_word others_of_keys tokens k token.Punct word h in cc
other_word tokens k token.Int word h e = let f = of_keys is_other_word others_of_keys tokens k token.Int word h in cc
other_word tokens k token.Char word h e = let f = of_keys is_other_word others_of_keys tokens k token.Char word h in cc
other_word tokens k token.Str word h e = let f = of_keys is_other_word others_of_keys tokens k token.Str word h in cc

-- Names

no_key : (word : List ℕ) → is_name (key_terminal word) ≡ false
unfolding keys key_terminal
no_key word = no_row is_name keys word terminal.Other refl refl

no_punct_name : (word : List ℕ) → is_name (punct_terminal word) ≡ false
unfolding puncts
no_punct_name word = no_punct is_name refl refl word

pub name_kind : (tokens : List Lexeme) (k : ℕ) (kind : TokKind) (word : List ℕ) → is_name (class_by tokens k kind word) ≡ true → kind ≡ token.Name
name_kind tokens k token.Name word h = refl
name_kind tokens k token.Key word h = absurd (true≢false (back h ∙ no_key word))
name_kind tokens k token.Punct word h = absurd (true≢false (back h ∙ no_punct_name word))
name_kind tokens k token.Int word h = absurd (true≢false (back h ∙ no_integer is_name refl refl word))
name_kind tokens k token.Char word h = absurd (true≢false (back h))
name_kind tokens k token.Str word h = absurd (true≢false (back h))

-- a name that is not introduced where it stands is that of no type
pub no_index : (b : Bool) (index : Option ℕ) (k : ℕ) (s : Terminal) → is_name (name_class b index k s) ≡ true → b ≡ false → is_some index ≡ false
no_index true index k s h e = absurd (true≢false e)
no_index false None k s h e = refl
no_index false (Some i) k s h e = absurd (true≢false (back h ∙ choice is_name (nat_lt i k) (as_type_name s) (before_type_name s)
    (not-true (is_name (as_type_name s)) (at_each (λ (s : Terminal). not (is_name (as_type_name s))) refl s))
    (not-true (is_name (before_type_name s)) (at_each (λ (s : Terminal). not (is_name (before_type_name s))) refl s))))
