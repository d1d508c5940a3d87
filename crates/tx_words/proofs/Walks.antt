-- Where no step fails, the values of an argument's row pass its parser.
use Rattle.std.proofs.Common.{◌≡◌, ap, sym, subst, refl, true, false, true≢false, ℕ, List, [], ◌∷◌, ◌++◌, Bool, Option, Some, None, ◌&&◌}
use Rattle.std.specs.Prelude.{if◌then◌else◌, find, is_some, slice_get, drop, length, zero, suc, encode_utf8, fold, nat_lt, not, ◌||◌, ◌==◌}
use Rattle.std.specs.Option.{option_map_or}
use Rattle.std.specs.Str.{chars}
use Rattle.clap.specs.declared.error.kind.ErrorKind.TheVariants.{InvalidValue, TooFewValues, TooManyValues, WrongNumberOfValues}
use Rattle.std.specs.List.{list_all}
use Rattle.std.specs.Str.{bytes_eq}
use Rattle.clap.specs.Walk.{Row, Rule, Text, Held, at_row, used, used_as, values_or_missing, action_of, reading_by, without, with_values, more_values}
use Rattle.clap.specs.Walk.{default_rows, with_default, has_row, settled, reacted, arg_by_id, Names, Outcome, Step, Waiting, Walk, settled_rows, used_by_id}
use Rattle.clap.specs.Walk.{option_met, flag_met, long_met, short_met, bundle_met, bundle_step, takes_values, attached_value, arg_by_long, arg_by_short}
use Rattle.clap.specs.Walk.{arg_by_index, after_flag, plain_word, short_or_plain, long_or_other, subcommand_or_other, subcommand_met, word_met, walked}
use Rattle.clap.specs.Walk.{walked_from, after_step, to_positional, is_pending, takes_several, walk, walk_from, option_word, done, waits, plain, refused, idle}
use Rattle.clap.specs.Walk.{option, positional, next, trailing, subcommand, value, nothing_held, rows_after, most_values}
use Rattle.clap.specs.Simple.{Shape}
use Rattle.clap.specs.Lexer.{long_of, short_of}
use Rattle.clap.specs.Takes.{values_pass}
use Rattle.clap.specs.Kinds.{Kinds, or_else, range_kinds}
use Rattle.clap.specs.Faults.{use_fault, values_fault, action_fault, settle_fault, react_fault, option_fault, long_fault, short_fault, bundle_step_fault}
use Rattle.clap.specs.Faults.{flags_fault, bundle_fault, flag_word_fault, other_fault, word_fault, positional_fault, step_fault, turn_fault, walk_fault}
use Rattle.clap.specs.Faults.{level_fault, stray_fault}
use Rattle.clap.specs.Values.{refused_kind}
use Rattle.clap.proofs.WalkLemmas.{both}
use Rattle.std.proofs.lemmas.Slice.Eq.{bytes_eq-Decides}
use Rattle.clap.specs.Facts.{parser_of_value, unwrap_or_range}
use Rattle.clap.specs.ValueTests.{accepts}
use Rattle.clap.specs.declared.builder.action.ArgAction.{ArgAction}
use Rattle.clap.specs.declared.builder.action.ArgAction.TheVariants.{Set, Append, SetTrue, SetFalse, Count, Help, HelpShort, HelpLong, Version}
use Rattle.clap.specs.declared.parser.matches.ValueSource.{ValueSource}
use Rattle.clap.specs.declared.parser.matches.ValueSource.TheVariants.{CommandLine, DefaultValue}

abbrev pub is_nil : {X : Type 0} → List X → Bool
is_nil [] = true
is_nil (x ∷ xs) = false

-- the argument's row has values, which pass, and is read as its parser says
abbrev pub RowOk : Rule → Row → Type 0
RowOk a r = bytes_eq r.id a.id ≡ true → (values_pass a r.values ≡ true) × (r.reading ≡ reading_by a) × (is_nil r.values ≡ false)

abbrev pub RowsOk : Rule → List Row → Type 0
RowsOk a [] = Unit
RowsOk a (r ∷ rs) = RowOk a r × RowsOk a rs

-- each use of the argument gives it a value
abbrev pub has_value : Rule → Bool
has_value a = nat_lt 0 (unwrap_or_range a.range).start_inclusive || not (is_nil a.missing)

-- the rule is that of the argument, which has a value in each use, or of another
abbrev pub Fits : Rule → Rule → Type 0
Fits a b = bytes_eq b.id a.id ≡ true → (b ≡ a) × (has_value b ≡ true)

pub nil_both : (a b : Kinds) → or_else a b ≡ [] → (a ≡ []) × (b ≡ [])
nil_both [] b e = (refl, e)
nil_both (k ∷ ks) b e = absurd (true≢false (sym (ap is_nil e)))

pub rows_append : (a : Rule) (xs ys : List Row) → RowsOk a xs → RowsOk a ys → RowsOk a (xs ++ ys)
rows_append a [] ys p q = q
rows_append a (x ∷ xs) ys p q = (p.0, rows_append a xs ys p.1 q)

pub at_row_ok : (a : Rule) (id : Text) (change : Row → List Row) (missing rows : List Row) → RowsOk a rows
    → ((r : Row) → bytes_eq r.id id ≡ true → RowOk a r → RowsOk a (change r)) → RowsOk a missing → RowsOk a (at_row id change missing rows)
at_row_ok a id change missing [] p f m = m
at_row_ok a id change missing (r ∷ rs) p f m = go (at_row_ok a id change missing rs p.1 f m) (bytes_eq r.id id) refl
  where
    go : RowsOk a (at_row id change missing rs) → (b : Bool) → bytes_eq r.id id ≡ b → RowsOk a (if b then change r ++ rs else r ∷ at_row id change missing rs)
    go rest true e = rows_append a (change r) rs (f r e p.0) p.1
    go rest false e = (p.0, rest)

pub without_ok : (a : Rule) (id : Text) (rows : List Row) → RowsOk a rows → RowsOk a (without id rows)
without_ok a id rows p = at_row_ok a id (λ _. []) [] rows p (λ r e ok. tt) tt

values_append : (f : Text → Bool) (xs ys : List Text) → list_all f xs ≡ true → list_all f ys ≡ true → list_all f (xs ++ ys) ≡ true
values_append f [] ys p q = q
values_append f (x ∷ xs) ys p q = let h = both (f x) (list_all f xs) p in rw h.0 (values_append f xs ys h.1 q)

same_id : (a b r : Text) → bytes_eq r b ≡ true → bytes_eq r a ≡ true → bytes_eq b a ≡ true
same_id a b r e f = subst (λ (t : Text). bytes_eq t a ≡ true) ((bytes_eq-Decides r b).0 e) f

values_some : (xs ys : List Text) → is_nil xs ≡ false → is_nil (xs ++ ys) ≡ false
values_some [] ys e = absurd (true≢false e)
values_some (x ∷ xs) ys e = refl

pub with_ok : (a b : Rule) (s : ValueSource) (vs : List Text) (rows : List Row) → Fits a b → values_pass b vs ≡ true → (has_value b ≡ true → is_nil vs ≡ false)
    → RowsOk a rows → RowsOk a (with_values b.id (reading_by b) s vs rows)
with_ok a b s vs rows fits pass some p = at_row_ok a b.id (more_values s vs) _ rows p changed
    ((λ e. let is = (fits e).0 in (subst (λ (x : Rule). values_pass x vs ≡ true) is pass, ap reading_by is, some (fits e).1)), tt)
  where
    changed : (r : Row) → bytes_eq r.id b.id ≡ true → RowOk a r → RowsOk a (more_values s vs r)
    changed r e ok = (
      (λ f.
          let is = (fits (same_id a.id b.id r.id e f)).0 in
          (values_append _ r.values vs (ok f).0 (subst (λ (x : Rule). values_pass x vs ≡ true) is pass), (ok f).1, values_some r.values vs (ok f).2)),
      tt,
    )

pub values_ok : (b : Rule) (vs : List Text) → values_fault b vs ≡ [] → values_pass b vs ≡ true
values_ok b [] e = refl
values_ok b (v ∷ vs) e = go (values_ok b vs (nil_both _ _ e).1) (accepts b.ignore_case (parser_of_value b.parser) v) refl (nil_both _ _ e).0
  where
    go : values_pass b vs ≡ true → (t : Bool) → accepts b.ignore_case (parser_of_value b.parser) v ≡ t
        → (if t then [] else refused_kind (parser_of_value b.parser) ∷ []) ≡ [] → values_pass b (v ∷ vs) ≡ true
    go rest true is none = rw is rest
    go rest false is none = absurd (true≢false (sym (ap is_nil none)))

-- a use of an argument that wants values has one
pub some_value : (b : Rule) (vs : List Text) → range_kinds (unwrap_or_range b.range).start_inclusive (most_values b) (length vs) ≡ [] → has_value b ≡ true
    → is_nil (values_or_missing b vs) ≡ false
some_value b (v ∷ vs) e h = refl
some_value b [] e h = go (nat_lt 0 (unwrap_or_range b.range).start_inclusive) e h
  where
    not_nil : (t : Bool) → not t ≡ true → t ≡ false
    not_nil true q = absurd (true≢false (sym q))
    not_nil false q = refl

    go : (t : Bool) → (if t && true then InvalidValue ∷ [] else
        (if (unwrap_or_range b.range).start_inclusive == most_values b then
        (if (unwrap_or_range b.range).start_inclusive == 0 then [] else WrongNumberOfValues ∷ [])
        else (if nat_lt 0 (unwrap_or_range b.range).start_inclusive then TooFewValues ∷ [] else (if nat_lt (most_values b) 0 then TooManyValues ∷ [] else []))))
        ≡ [] → (t || not (is_nil b.missing)) ≡ true → is_nil b.missing ≡ false
    go true q r = absurd (true≢false (sym (ap is_nil q)))
    go false q r = not_nil (is_nil b.missing) r

pub used_ok : (a b : Rule) (again : Bool) (vs : List Text) (rows : List Row) → Fits a b → (action_of b ≡ Count → ⊥) → use_fault again b vs rows ≡ []
    → RowsOk a rows → RowsOk a (used b vs rows)
used_ok a b again vs rows fits apart e p = go (action_of b) apart (nil_both _ _ e).1
  where
    some : has_value b ≡ true → is_nil (values_or_missing b vs) ≡ false
    some = some_value b vs (nil_both _ _ e).0

    go : (x : ArgAction) → (x ≡ Count → ⊥) → action_fault x again b (values_or_missing b vs) rows ≡ []
        → RowsOk a (used_as x b.id (reading_by b) (values_or_missing b vs) rows)
    go Set apart e = with_ok a b CommandLine _ _ fits (values_ok b _ (nil_both _ _ e).1) some (without_ok a b.id rows p)
    go SetTrue apart e = with_ok a b CommandLine _ _ fits (values_ok b _ (nil_both _ _ e).1) some (without_ok a b.id rows p)
    go SetFalse apart e = with_ok a b CommandLine _ _ fits (values_ok b _ (nil_both _ _ e).1) some (without_ok a b.id rows p)
    go Append apart e = with_ok a b CommandLine _ _ fits (values_ok b _ e) some p
    go Count apart e = absurd (apart refl)
    go Help apart e = p
    go HelpShort apart e = p
    go HelpLong apart e = p
    go Version apart e = p

-- ---- the walk

abbrev pub Plain : Rule → Rule → Type 0
Plain a b = Fits a b × ((action_of b ≡ Count → ⊥) × (values_pass b b.defaults ≡ true))

abbrev pub AllPlain : Rule → List Rule → Type 0
AllPlain a [] = Unit
AllPlain a (b ∷ bs) = Plain a b × AllPlain a bs

abbrev pub Found : Rule → Option Rule → Type 0
Found a None = Unit
Found a (Some b) = Plain a b

pub find_plain : (a : Rule) (test : Rule → Bool) (c : List Rule) → AllPlain a c → Found a (find test c)
find_plain a test [] p = tt
find_plain a test (b ∷ bs) p = go (find_plain a test bs p.1) (test b)
  where
    go : Found a (find test bs) → (t : Bool) → Found a (if t then Some b else find test bs)
    go rest true = p.0
    go rest false = rest

pub by_id_ok : (a : Rule) (again : Bool) (o : Option Rule) (vs : List Text) (rows : List Row) → Found a o
    → option_map_or (λ b. use_fault again b vs rows) o [] ≡ [] → RowsOk a rows → RowsOk a (used_by_id o vs rows)
by_id_ok a again None vs rows f e p = p
by_id_ok a again (Some b) vs rows f e p = used_ok a b again vs rows f.0 f.1.0 e p

pub settled_ok : (a : Rule) (c : List Rule) (again : Bool) (h : Held) → AllPlain a c → settle_fault c again h ≡ [] → RowsOk a h.rows
    → RowsOk a (settled c h).rows
settled_ok a c again h all e p = go h.pending e
  where
    go : (o : Option (Text × List Text)) → option_map_or (λ q. option_map_or (λ b. use_fault again b q.1 h.rows) (arg_by_id c q.0) []) o [] ≡ []
        → RowsOk a (settled_rows c o h.rows)
    go None e = p
    go (Some q) e = by_id_ok a again (arg_by_id c q.0) q.1 h.rows (find_plain a _ c all) e p

pub reacted_ok : (a b : Rule) (c : List Rule) (again : Bool) (vs : List Text) (h : Held) → AllPlain a c → Plain a b → react_fault c again b vs h ≡ []
    → RowsOk a h.rows → RowsOk a (reacted c b vs h).rows
reacted_ok a b c again vs h all f e p =
    let two = nil_both _ _ e in
    used_ok a b again vs _ f.0 f.1.0 two.1 (settled_ok a c again h all two.0 p)

pub option_ok : (a b : Rule) (c : List Rule) (again : Bool) (v : Option Text) (h : Held) → AllPlain a c → Plain a b → option_fault c again b v h ≡ []
    → RowsOk a h.rows → RowsOk a (option_met c b v h).0.rows
option_ok a b c again (Some v) h all f e p = reacted_ok a b c again (v ∷ []) h all f e p
option_ok a b c again None h all f e p = settled_ok a c again h all e p

pub long_ok : (a : Rule) (c : List Rule) (again : Bool) (o : Option Rule) (v : Option Text) (h : Held) → AllPlain a c → Found a o
    → long_fault c again o v h ≡ [] → RowsOk a h.rows → RowsOk a (long_met c o v h).0.rows
long_ok a c again None v h all f e p = p
long_ok a c again (Some b) v h all f e p = go (takes_values b) v e
  where
    go : (t : Bool) (v : Option Text) → (if t then option_fault c again b v h else (if is_some v then TooManyValues ∷ [] else react_fault c again b [] h)) ≡ []
        → RowsOk a (if t then option_met c b v h else flag_met c b v h).0.rows
    go true v e = option_ok a b c again v h all f e p
    go false (Some v) e = p
    go false None e = reacted_ok a b c again [] h all f e p

pub short_ok : (a : Rule) (c : List Rule) (again : Bool) (o : Option Rule) (rest : Text) (h : Held) (fault : Held → Kinds) (met : Held → Held × Outcome)
    → AllPlain a c → Found a o
    → ((g : Held) → fault g ≡ [] → RowsOk a g.rows → RowsOk a (met g).0.rows) → short_fault c again o rest h fault ≡ [] → RowsOk a h.rows
    → RowsOk a (short_met c o rest h met).0.rows
short_ok a c again None rest h fault met all f ih e p = p
short_ok a c again (Some b) rest h fault met all f ih e p = go (takes_values b) e
  where
    go : (t : Bool) → (if t then option_fault c again b (attached_value rest) h else or_else (react_fault c again b [] h) (fault (reacted c b [] h))) ≡ []
        → RowsOk a (if t then option_met c b (attached_value rest) h else met (reacted c b [] h)).0.rows
    go true e = option_ok a b c again (attached_value rest) h all f e p
    go false e = let two = nil_both _ _ e in ih (reacted c b [] h) two.1 (reacted_ok a b c again [] h all f two.0 p)

pub bundle_step_ok : (a : Rule) (c : List Rule) (again : Bool) (o : Option ℕ) (flags : Text) (skip : ℕ) (so_far : Outcome) (h : Held)
    (fault : Text → ℕ → Held → Kinds) (met : Text → ℕ → Outcome → Held → Held × Outcome)
    → AllPlain a c → ((fs : Text) (n : ℕ) (s : Outcome) (g : Held) → fault fs n g ≡ [] → RowsOk a g.rows → RowsOk a (met fs n s g).0.rows)
    → bundle_step_fault c again o flags skip h fault ≡ [] → RowsOk a h.rows → RowsOk a (bundle_step c o flags skip so_far h met).0.rows
bundle_step_ok a c again None flags skip so_far h fault met all ih e p = p
bundle_step_ok a c again (Some x) flags zero so_far h fault met all ih e p =
    let rest = drop (length (encode_utf8 x)) flags in
    short_ok a c again (arg_by_short c x) rest h (fault rest 0) (met rest 0 done) all (find_plain a _ c all) (ih rest 0 done) e p
bundle_step_ok a c again (Some x) flags (suc skip) so_far h fault met all ih e p = ih (drop (length (encode_utf8 x)) flags) skip so_far h e p

pub bundle_ok : (a : Rule) (c : List Rule) (again : Bool) (k : ℕ) (flags : Text) (skip : ℕ) (so_far : Outcome) (h : Held) → AllPlain a c
    → flags_fault c again k flags skip h ≡ []
    → RowsOk a h.rows → RowsOk a (bundle_met c k flags skip so_far h).0.rows
unfolding bundle_met flags_fault
bundle_ok a c again zero flags skip so_far h all e p = p
bundle_ok a c again (suc k) flags skip so_far h all e p =
    bundle_step_ok a c again (slice_get (chars flags) 0) flags skip so_far h (flags_fault c again k) (bundle_met c k) all
    (λ fs n s g e p. bundle_ok a c again k fs n s g all e p) e p

pub plain_word_ok : (a : Rule) (c : List Rule) (waiting : Waiting) (word : Text) (h : Held) → RowsOk a h.rows → RowsOk a (plain_word c waiting word h).0.rows
plain_word_ok a c (option id) word h p = go (arg_by_id c id)
  where
    go : (o : Option Rule) → RowsOk a (option_word o id word h).0.rows
    go None = p
    go (Some b) = p
plain_word_ok a c idle word h p = p
plain_word_ok a c positional word h p = p

pub after_flag_ok : (a : Rule) (c : List Rule) (waiting : Waiting) (word : Text) (h : Held) (o : Outcome) → RowsOk a h.rows
    → RowsOk a (after_flag c waiting word h o).0.rows
after_flag_ok a c waiting word h done p = p
after_flag_ok a c waiting word h (waits id) p = p
after_flag_ok a c waiting word h plain p = plain_word_ok a c waiting word h p
after_flag_ok a c waiting word h refused p = plain_word_ok a c waiting word h p

pub short_word_ok : (a : Rule) (c : List Rule) (again : Bool) (waiting : Waiting) (word : Text) (o : Option Text) (h : Held) → AllPlain a c
    → option_map_or (λ flags. bundle_fault c again flags h) o [] ≡ []
    → RowsOk a h.rows → RowsOk a (short_or_plain c waiting word o h).0.rows
short_word_ok a c again waiting word None h all e p = plain_word_ok a c waiting word h p
short_word_ok a c again waiting word (Some flags) h all e p =
    after_flag_ok a c waiting word _ _ (bundle_ok a c again (length flags) flags h.skip plain (record h { skip = 0 }) all e p)

pub flag_word_ok : (a : Rule) (c : List Rule) (again : Bool) (waiting : Waiting) (word : Text) (o : Option (Text × Option Text)) (h : Held) → AllPlain a c
    → flag_word_fault c again o word h ≡ []
    → RowsOk a h.rows → RowsOk a (long_or_other c waiting word o h).0.rows
flag_word_ok a c again waiting word (Some q) h all e p =
    after_flag_ok a c waiting word _ _ (long_ok a c again (arg_by_long c q.0) q.1 h all (find_plain a _ c all) e p)
flag_word_ok a c again waiting word None h all e p = short_word_ok a c again waiting word (short_of word) h all e p

pub word_ok : (a : Rule) (s : Shape) (names : Names) (past : Bool) (waiting : Waiting) (position : ℕ) (word : Text) (h : Held) → AllPlain a s.rules
    → word_fault s names past waiting word h ≡ []
    → RowsOk a h.rows → RowsOk a (word_met s.rules names past waiting position word h).0.rows
word_ok a s names true waiting position word h all e p = p
word_ok a s names false waiting position word h all e p = go (subcommand_met names waiting word) e
  where
    dash : (t : Bool) → (if t then [] else flag_word_fault s.rules s.args_override_self (long_of word) word h) ≡ []
        → RowsOk a (if t then (h, trailing position) else long_or_other s.rules waiting word (long_of word) h).0.rows
    dash true e = p
    dash false e = flag_word_ok a s.rules s.args_override_self waiting word (long_of word) h all e p

    go : (o : Option Text) → other_fault s o word h ≡ [] → RowsOk a (subcommand_or_other s.rules o waiting position word h).0.rows
    go None e = dash (bytes_eq word (45 ∷ 45 ∷ [])) e
    go (Some name) e = p

pub step_ok : (a : Rule) (s : Shape) (word : Text) (w : Walk) (h : Held) (step : Step) → AllPlain a s.rules → step_fault s w.position h step ≡ []
    → RowsOk a h.rows → RowsOk a (after_step s.rules word w h step).held.rows
step_ok a s word w h (next waiting) all e p = p
step_ok a s word w h (trailing position) all e p = p
step_ok a s word w h (subcommand name) all e p = p
step_ok a s word w h value all e p = go (arg_by_index s.rules w.position) e
  where
    kept : (t : Bool) → (if t then [] else settle_fault s.rules s.args_override_self h) ≡ [] → RowsOk a (if t then h else settled s.rules h).rows
    kept true e = p
    kept false e = settled_ok a s.rules s.args_override_self h all e p

    go : (o : Option Rule) → option_map_or (λ b. positional_fault s.rules s.args_override_self b h) o (stray_fault s) ≡ []
        → RowsOk a (to_positional s.rules o word w h).held.rows
    go None e = p
    go (Some b) e = kept (is_pending b h.pending && takes_several b) e

pub turn_ok : (a : Rule) (s : Shape) (names : Names) (w : Walk) (word : Text) → AllPlain a s.rules → turn_fault s names w word ≡ [] → RowsOk a w.held.rows
    → RowsOk a (walked s.rules names w word).held.rows
unfolding walked
turn_ok a s names w word all e p = go w.stopped e
  where
    go : (o : Option (Text × List Text)) → (if is_some o then [] else or_else (word_fault s names w.is_trailing w.waiting word w.held) (step_fault s w.position
        (word_met s.rules names w.is_trailing w.waiting w.position word w.held).0 (word_met s.rules names w.is_trailing w.waiting w.position word w.held).1))
        ≡ []
        → RowsOk a (walked_from s.rules names o w word).held.rows
    go (Some q) e = p
    go None e = let two = nil_both _ _ e in step_ok a s word w _ _ all two.1 (word_ok a s names w.is_trailing w.waiting w.position word w.held all two.0 p)

pub walk_ok : (a : Rule) (s : Shape) (names : Names) (w : Walk) (words : List Text) → AllPlain a s.rules → walk_fault s names w words ≡ []
    → RowsOk a w.held.rows → RowsOk a (fold (walked s.rules names) w words).held.rows
unfolding walk_fault
walk_ok a s names w [] all e p = p
walk_ok a s names w (word ∷ rest) all e p = let two = nil_both _ _ e in
    walk_ok a s names (walked s.rules names w word) rest all two.1 (turn_ok a s names w word all two.0 p)

pub defaults_ok : (a : Rule) (c : List Rule) (rows : List Row) → AllPlain a c → RowsOk a rows → RowsOk a (fold with_default rows c)
defaults_ok a [] rows all p = p
defaults_ok a (b ∷ bs) rows all p = defaults_ok a bs (with_default rows b) all.1 (go (has_row b.id rows))
  where
    given : (ds : List Text) → values_pass b ds ≡ true → RowsOk a (default_rows b.id (reading_by b) ds rows)
    given [] e = p
    given (v ∷ vs) e = with_ok a b DefaultValue (v ∷ vs) rows all.0.0 e (λ h. refl) p

    go : (t : Bool) → RowsOk a (if t then rows else default_rows b.id (reading_by b) b.defaults rows)
    go true = p
    go false = given b.defaults all.0.1.1

-- a level of the parse at which nothing fails
pub level_ok : (a : Rule) (s : Shape) (names : Names) (words : List Text) (has : Bool) (below : Kinds) → AllPlain a s.rules
    → level_fault s names nothing_held words has below ≡ []
    → RowsOk a (rows_after s.rules names words)
level_ok a s names words has below all e =
    let one = nil_both _ _ e in
    let two = nil_both _ _ one.1 in
    let three = nil_both _ _ two.1 in
    defaults_ok a s.rules _ all (settled_ok a s.rules s.args_override_self (walk s.rules names nothing_held words).held all three.0
    (walk_ok a s names (walk_from nothing_held) words all one.0 tt))
