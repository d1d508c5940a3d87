-- Where nothing fails, the words name one of the commands, and the matches have what its arguments ask for.
use Rattle.std.proofs.Common.{◌≡◌, ◌∙◌, ◌⊎◌, inl, inr, ap, sym, subst, refl, true, false, true≢false, ℕ, List, [], ◌∷◌, ◌++◌, Bool, Option, Some, None, codes}
use Rattle.std.proofs.Common.{IfSome, is_some}
use Rattle.std.specs.Prelude.{if◌then◌else◌, find, not, ◌&&◌, ◌||◌, slice_get, take, drop, option_map, option_and_then, unwrap_or, zero, suc}
use Rattle.std.specs.Option.{option_map_or}
use Rattle.std.specs.List.{list_all, list_any}
use Rattle.std.specs.Str.{bytes_eq}
use Rattle.clap.proofs.WalkLemmas.{both}
use Rattle.std.proofs.lemmas.Slice.Eq.{bytes_eq-Decides}
use Rattle.clap.specs.Walk.{Row, Rule, Text, Held, first_of, all_of, one_of, row_text, nothing_held, rows_after, answers_to, reading_by, action_of, walk, Names}
use Rattle.clap.specs.Walk.{walk_from, settled, finished}
use Rattle.clap.specs.Takes.{is_given, value_passes, values_pass}
use Rattle.clap.specs.Facts.{explicit_source}
use Rattle.clap.specs.Faults.{walk_fault, settle_fault, defaults_fault, level_fault, entered_fault}
use Rattle.clap.specs.Values.{read_as}
use Rattle.clap.specs.Simple.{App, Shape, entered, label_of, rows_at, help_rule}
use Rattle.clap.specs.Kinds.{Kinds, check_kinds}
use Rattle.clap.specs.declared.builder.action.ArgAction.{ArgAction}
use Rattle.clap.specs.declared.builder.action.ArgAction.TheVariants.{Count}
use Rattle.clap.specs.declared.builder.value_parser.Reading.TheVariants.{AsWritten}
use Rattle.tx_words.specs.Reads.{HasText, HasTexts}
use Rattle.tx_words.proofs.Walks.{AllPlain, Plain, RowsOk, is_nil, has_value, level_ok, nil_both}

-- ---- what a row of an argument has

-- the row of an id among rows that stand for the argument
abbrev pub Sound : Rule → Row → Type 0
Sound a r = (values_pass a r.values ≡ true) × (r.reading ≡ reading_by a) × (is_nil r.values ≡ false)

pub row_found : (a : Rule) (rows : List Row) → RowsOk a rows → IfSome (find (λ r. bytes_eq r.id a.id) rows) (Sound a)
row_found a [] p = tt
row_found a (r ∷ rs) p = pick (row_found a rs p.1) (bytes_eq r.id a.id) refl
  where
    pick : IfSome (find (λ r. bytes_eq r.id a.id) rs) (Sound a) → (t : Bool) → bytes_eq r.id a.id ≡ t
        → IfSome (if t then Some r else find (λ r. bytes_eq r.id a.id) rs) (Sound a)
    pick rest true e = p.0 e
    pick rest false e = rest

-- the text that `get_one` reads passes
pub one_passes : (a : Rule) (rows : List Row) → reading_by a ≡ AsWritten → RowsOk a rows → IfSome (one_of a.id rows) (λ t. value_passes a t ≡ true)
one_passes a rows how p = at (find (λ r. bytes_eq r.id a.id) rows) (row_found a rows p)
  where
    first : (vs : List Text) → values_pass a vs ≡ true → IfSome (slice_get vs 0) (λ t. value_passes a t ≡ true)
    first [] e = tt
    first (v ∷ vs) e = (both _ _ e).0

    text : (o : Option Text) → IfSome o (λ t. value_passes a t ≡ true) → IfSome (option_map (read_as AsWritten) o) (λ t. value_passes a t ≡ true)
    text None h = tt
    text (Some t) h = h

    at : (o : Option Row) → IfSome o (Sound a) → IfSome (option_and_then row_text o) (λ t. value_passes a t ≡ true)
    at None h = tt
    at (Some r) h = rw (h.1 ∙ how) (text (slice_get r.values 0) (first r.values h.0))

-- an argument that is given has a row with a value
pub has_first : (vs : List Text) → is_nil vs ≡ false → is_some (slice_get vs 0) ≡ true
has_first [] e = absurd (true≢false e)
has_first (v ∷ vs) e = refl

pub given_first : (a : Rule) (rows : List Row) → RowsOk a rows → is_given a.id rows ≡ true → is_some (first_of a.id rows) ≡ true
given_first a rows p g = at (find (λ r. bytes_eq r.id a.id) rows) (row_found a rows p) g
  where
    at : (o : Option Row) → IfSome o (Sound a) → option_map_or (λ r. explicit_source r.source) o false ≡ true
        → is_some (option_and_then (λ r. slice_get r.values 0) o) ≡ true
    at None h g = absurd (true≢false (sym g))
    at (Some r) h g = has_first r.values h.2

pub given_one : (a : Rule) (rows : List Row) → RowsOk a rows → is_given a.id rows ≡ true → is_some (one_of a.id rows) ≡ true
given_one a rows p g = at (find (λ r. bytes_eq r.id a.id) rows) (row_found a rows p) g
  where
    kept : (f : Text → Text) (o : Option Text) → is_some o ≡ true → is_some (option_map f o) ≡ true
    kept f None e = absurd (true≢false (sym e))
    kept f (Some t) e = refl

    at : (o : Option Row) → IfSome o (Sound a) → option_map_or (λ r. explicit_source r.source) o false ≡ true → is_some (option_and_then row_text o) ≡ true
    at None h g = absurd (true≢false (sym g))
    at (Some r) h g = kept (read_as r.reading) (slice_get r.values 0) (has_first r.values h.2)

pub given_all : (id : Text) (rows : List Row) → is_given id rows ≡ true → is_some (all_of id rows) ≡ true
given_all id rows g = at (find (λ r. bytes_eq r.id id) rows) g
  where
    at : (o : Option Row) → option_map_or (λ r. explicit_source r.source) o false ≡ true → is_some (option_map (λ r. r.values) o) ≡ true
    at None g = absurd (true≢false (sym g))
    at (Some r) g = refl

-- ---- a level of the parse at which nothing fails

abbrev pub is_count : ArgAction → Bool
is_count Count = true
is_count _ = false

-- a rule of another argument than a, and the rule of a itself
abbrev pub is_apart : Rule → Rule → Bool
is_apart a b = not (bytes_eq b.id a.id) && (not (is_count (action_of b)) && values_pass b b.defaults)

abbrev pub is_own : Rule → Bool
is_own a = has_value a && (not (is_count (action_of a)) && values_pass a a.defaults)

not_true : (t : Bool) → not t ≡ true → t ≡ true → ⊥
not_true true e f = true≢false (sym e)
not_true false e f = true≢false (sym f)

apart_plain : (a b : Rule) → is_apart a b ≡ true → Plain a b
apart_plain a b e =
    let one = both _ _ e in
    let two = both _ _ one.1 in
    ((λ f. absurd (not_true _ one.0 f)), ((λ f. not_true _ two.0 (ap is_count f)), two.1))

own_plain : (a : Rule) → is_own a ≡ true → Plain a a
own_plain a e =
    let one = both _ _ e in
    let two = both _ _ one.1 in
    ((λ f. (refl, one.0)), ((λ f. not_true _ two.0 (ap is_count f)), two.1))

rest_plain : (a : Rule) (bs : List Rule) → list_all (is_apart a) bs ≡ true → AllPlain a bs
rest_plain a [] e = tt
rest_plain a (b ∷ bs) e = let two = both _ _ e in (apart_plain a b two.0, rest_plain a bs two.1)

split_plain : (a : Rule) (front back : List Rule) → list_all (is_apart a) front ≡ true → is_own a ≡ true → list_all (is_apart a) back ≡ true
    → AllPlain a (front ++ a ∷ back)
split_plain a [] back e f g = (own_plain a f, rest_plain a back g)
split_plain a (b ∷ front) back e f g = let two = both _ _ e in (apart_plain a b two.0, split_plain a front back two.1 f g)

-- the rule at a position, and whether it is the only one of its argument
abbrev pub rule_at : List Rule → ℕ → Rule
rule_at rules i = unwrap_or (slice_get rules i) help_rule

abbrev pub is_one_at : List Rule → ℕ → Bool
is_one_at rules i = list_all (is_apart (rule_at rules i)) (take i rules)
    && (is_own (rule_at rules i) && list_all (is_apart (rule_at rules i)) (drop (suc i) rules))

no_kinds : (x w y : Bool) → check_kinds x w y ≡ [] → (w ≡ false) × (y ≡ false)
no_kinds true w y e = absurd (true≢false (sym (ap is_nil e)))
no_kinds false true y e = absurd (true≢false (sym (ap is_nil e)))
no_kinds false false true e = absurd (true≢false (sym (ap is_nil e)))
no_kinds false false false e = (refl, refl)

-- the last checks at a level where nothing fails
pub level_checked : (s : Shape) (names : Names) (h : Held) (words : List Text) (has : Bool) (below : Kinds) → level_fault s names h words has below ≡ []
    → ((not has && s.subcommand_required) ≡ false)
    × ((not (s.subcommand_negates_reqs && has) && list_any
    (λ a. a.required && not (is_given a.id (finished s.rules (walk s.rules names h words).held))) s.rules) ≡ false)
level_checked s names h words has below e =
    let one = nil_both (walk_fault s names (walk_from h) words) _ e in
    let two = nil_both below _ one.1 in
    let three = nil_both (settle_fault s.rules s.args_override_self (walk s.rules names h words).held) _ two.1 in
    let four = nil_both (defaults_fault (settled s.rules (walk s.rules names h words).held).rows s.rules) _ three.1 in
    no_kinds (not has && (s.arg_required_else_help && not
    (list_any (λ r. explicit_source r.source) (finished s.rules (walk s.rules names h words).held)))) _ _ four.1

required_given : (rules : List Rule) (i : ℕ) (rows : List Row) → list_any (λ a. a.required && not (is_given a.id rows)) rules ≡ false
    → (rule_at rules i).required ≡ true → is_given (rule_at rules i).id rows ≡ true
required_given [] i rows e q = absurd (true≢false (sym q))
required_given (a ∷ more) i rows e q = at i (λ i q. required_given more i rows (two e) q) q
  where
    none : (x y : Bool) → (x || y) ≡ false → (x ≡ false) × (y ≡ false)
    none true y e = absurd (true≢false e)
    none false y e = (refl, e)

    two : list_any (λ a. a.required && not (is_given a.id rows)) (a ∷ more) ≡ false → list_any (λ a. a.required && not (is_given a.id rows)) more ≡ false
    two e = (none (a.required && not (is_given a.id rows)) _ e).1

    here : (r g : Bool) → (r && not g) ≡ false → r ≡ true → g ≡ true
    here r true e q = refl
    here true false e q = absurd (true≢false e)
    here false false e q = absurd (true≢false (sym q))

    at : (i : ℕ) → ((i : ℕ) → (rule_at more i).required ≡ true → is_given (rule_at more i).id rows ≡ true) → (rule_at (a ∷ more) i).required ≡ true
        → is_given (rule_at (a ∷ more) i).id rows ≡ true
    at zero rest q = here _ _ (none (a.required && not (is_given a.id rows)) _ e).0 q
    at (suc i) rest q = rest i q

-- ---- the commands

-- a subcommand at which nothing fails, on some words
abbrev pub Passes : Shape → List Text → Type 0
Passes s ws = level_fault s [] nothing_held ws false [] ≡ []

abbrev pub after : Shape → List Text → List Row
after s ws = rows_after s.rules [] ws

-- the rules before the one at a position, that one, and those behind it
pub split_at : (rules : List Rule) (i : ℕ) → is_some (slice_get rules i) ≡ true → rules ≡ take i rules ++ rule_at rules i ∷ drop (suc i) rules
split_at [] i e = absurd (true≢false (sym e))
split_at (a ∷ more) zero e = refl
split_at (a ∷ more) (suc i) e = ap (λ rs. a ∷ rs) (split_at more i e)

-- the rules of a command hold the rule at a position, and no other of its argument
abbrev pub is_one : List Rule → ℕ → Bool
is_one rules i = is_some (slice_get rules i) && is_one_at rules i

pub rows_ok : (s : Shape) (i : ℕ) (ws : List Text) → is_one s.rules i ≡ true → Passes s ws → RowsOk (rule_at s.rules i) (after s ws)
rows_ok s i ws h e =
    let one = both _ _ h in
    let two = both _ _ one.1 in
    let three = both _ _ two.1 in
    level_ok (rule_at s.rules i) s [] ws false []
    (subst (AllPlain (rule_at s.rules i)) (sym (split_at s.rules i one.0))
    (split_plain (rule_at s.rules i) (take i s.rules) (drop (suc i) s.rules) two.0 three.0 three.1)) e

pub is_given_at : (s : Shape) (i : ℕ) (ws : List Text) → s.subcommand_negates_reqs ≡ false → (rule_at s.rules i).required ≡ true → Passes s ws
    → is_given (rule_at s.rules i).id (after s ws) ≡ true
is_given_at s i ws n q e = required_given s.rules i (after s ws) (go s.subcommand_negates_reqs n (level_checked s [] nothing_held ws false [] e).1) q
  where
    go : (t : Bool) → t ≡ false → (not (t && false) && list_any (λ a. a.required && not (is_given a.id (after s ws))) s.rules) ≡ false
        → list_any (λ a. a.required && not (is_given a.id (after s ws))) s.rules ≡ false
    go true e f = absurd (true≢false e)
    go false e f = f

pub text_at : (s : Shape) (i : ℕ) (ws : List Text) → is_one s.rules i ≡ true → s.subcommand_negates_reqs ≡ false → (rule_at s.rules i).required ≡ true
    → Passes s ws → HasText (rule_at s.rules i).id (after s ws)
text_at s i ws h n q e = given_first (rule_at s.rules i) (after s ws) (rows_ok s i ws h e) (is_given_at s i ws n q e)

pub number_at : (s : Shape) (i : ℕ) (ws : List Text) → is_one s.rules i ≡ true → s.subcommand_negates_reqs ≡ false → (rule_at s.rules i).required ≡ true
    → Passes s ws → is_some (one_of (rule_at s.rules i).id (after s ws)) ≡ true
number_at s i ws h n q e = given_one (rule_at s.rules i) (after s ws) (rows_ok s i ws h e) (is_given_at s i ws n q e)

pub texts_at : (s : Shape) (i : ℕ) (ws : List Text) → s.subcommand_negates_reqs ≡ false → (rule_at s.rules i).required ≡ true → Passes s ws
    → HasTexts (rule_at s.rules i).id (after s ws)
texts_at s i ws n q e = given_all (rule_at s.rules i).id (after s ws) (is_given_at s i ws n q e)

-- the text that is read of an argument has what its parser sees to
pub one_at : (P : Text → Type 0) (s : Shape) (i : ℕ) (ws : List Text) → is_one s.rules i ≡ true → reading_by (rule_at s.rules i) ≡ AsWritten
    → ((t : Text) → value_passes (rule_at s.rules i) t ≡ true → P t)
    → Passes s ws → IfSome (one_of (rule_at s.rules i).id (after s ws)) P
one_at P s i ws h how weak e = go (one_of (rule_at s.rules i).id (after s ws)) (one_passes (rule_at s.rules i) (after s ws) how (rows_ok s i ws h e))
  where
    go : (o : Option Text) → IfSome o (λ t. value_passes (rule_at s.rules i) t ≡ true) → IfSome o P
    go None h = tt
    go (Some t) h = weak t h

pub flag_text : (t : Text) → (bytes_eq t (codes "true") || bytes_eq t (codes "false")) ≡ true → (t ≡ codes "true") ⊎ (t ≡ codes "false")
flag_text t e = go (bytes_eq t (codes "true")) (bytes_eq t (codes "false")) refl refl e
  where
    go : (x y : Bool) → bytes_eq t (codes "true") ≡ x → bytes_eq t (codes "false") ≡ y → (x || y) ≡ true → (t ≡ codes "true") ⊎ (t ≡ codes "false")
    go true y p q e = inl ((bytes_eq-Decides t (codes "true")).0 p)
    go false true p q e = inr ((bytes_eq-Decides t (codes "false")).0 q)
    go false false p q e = absurd (true≢false (sym e))

-- what holds of each subcommand at which nothing fails holds of the one that was entered
abbrev pub Each : (Text × List Row → Type 0) → List Shape → Type 0
Each Q [] = Unit
Each Q (s ∷ ss) = ((ws : List Text) → Passes s ws → Q (rows_at s ws)) × Each Q ss

pub entered_ok : (Q : Text × List Row → Type 0) (a : App) (stop : Option (Text × List Text)) → Each Q a.subs → entered_fault a stop ≡ []
    → IfSome (entered a stop) Q
entered_ok Q a None each e = tt
entered_ok Q a (Some p) each e = go a.subs each e
  where
    go : (ss : List Shape) → Each Q ss → option_map_or (λ s. level_fault s [] nothing_held p.1 false []) (find (λ s. answers_to p.0 (label_of s)) ss) [] ≡ []
        → IfSome (option_map (λ s. rows_at s p.1) (find (λ s. answers_to p.0 (label_of s)) ss)) Q
    go [] each e = tt
    go (s ∷ ss) each e = pick (go ss each.1) (answers_to p.0 (label_of s)) e
      where
        pick : (option_map_or (λ s. level_fault s [] nothing_held p.1 false []) (find (λ s. answers_to p.0 (label_of s)) ss) [] ≡ []
            → IfSome (option_map (λ s. rows_at s p.1) (find (λ s. answers_to p.0 (label_of s)) ss)) Q) → (t : Bool)
            → option_map_or (λ s. level_fault s [] nothing_held p.1 false []) (if t then Some s else find (λ s. answers_to p.0 (label_of s)) ss) [] ≡ []
            → IfSome (option_map (λ s. rows_at s p.1) (if t then Some s else find (λ s. answers_to p.0 (label_of s)) ss)) Q
        pick rest true e = each.0 p.1 e
        pick rest false e = rest e
