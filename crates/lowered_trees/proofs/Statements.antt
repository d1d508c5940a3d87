-- Statements, and what chooses among operands.
use Rattle.std.proofs.Common.{◌≡◌, Bool, true, false, not, ◌&&◌, ◌||◌, List, [], ◌∷◌, refl, sym, ap, ◌∙◌, subst, arith}
use Rattle.std.proofs.lemmas.Bool.{and_parts}
use Rattle.cpp_tree.specs.tx_events.declared.BlockKind.{BlockKind}
use Rattle.cpp_tree.specs.cpp_types.Typ.{Typ}
use Rattle.cpp_tree.specs.cpp_types.declared.ranks.Cat.{Cat}
use Rattle.cpp_tree.specs.declared.arena.TNodeId.{TNodeId}
use Rattle.cpp_tree.specs.declared.kinds.TKind.TheVariants.{Block, Loop, Switch, Default, Break, Continue, Try, Atomic, Synchronized}
use Rattle.cpp_tree.specs.declared.roles.Position.{Position}
use Rattle.cpp_tree.specs.declared.roles.Role.{Role}
use Rattle.cpp_tree.specs.declared.roles.Role.TheVariants.{Value, Statement, BlockItem, SwitchItem, Step, Catch}
use Rattle.cpp_tree.specs.Typing.{Head, is_statement_typ, is_bool, gives_promoted, kind_in, form_in, is_prvalue}
use Rattle.cpp_tree.specs.Rows.{are_cases}
use Rattle.cpp_tree.specs.WellFormed.{inside}
use Rattle.unwind_lower.specs.declared.items.Way.{Way}
use Rattle.unwind_lower.specs.declared.items.Way.TheVariants.{Dropped}
use Rattle.unwind_lower.specs.Blocks.{is_default}
use Rattle.unwind_lower.specs.Settings.{Setting}
use Rattle.lowered_trees.specs.Shapes.{Stands, HasOneDefault}
use Rattle.lowered_trees.specs.Shapes as shapes
use Rattle.lowered_trees.specs.Suiting.{has_word, have_words, has_default, has_one_default}
use Rattle.lowered_trees.specs.Running.{Runs, block, loop, switch, default, break, continue, try, atomic, synchronized, Handlers, no_handlers, handler}
use Rattle.lowered_trees.proofs.Known.{Serves, Holds, IsHandler, for_value, statement, block_item, switch_item, step, caught}
use Rattle.lowered_trees.proofs.Kids.{AllKids, none_kid, one_kid, three_kids, any_kids, one_and_any, two_and_any, all_run, word_of}
use Rattle.lowered_trees.proofs.Facts.{stands_as, words_as, row_as, suit_as, no_typ}
use Rattle.lowered_trees.proofs.Ways.{drops_it}

one_default_kids : (g : Setting) (p : Position) (ids : List TNodeId) (hs : List Head) → AllKids g p SwitchItem ids hs
    → shapes.has_default g ids ≡ has_default hs
one_default_kids g p [] [] k = refl
one_default_kids g p [] (h ∷ hs) k = absurd k
one_default_kids g p (id ∷ ids) [] k = absurd k
one_default_kids g p (id ∷ ids) (h ∷ hs) k =
    ap (λ kind. is_default kind || shapes.has_default g ids) (k.0).kind_is ∙ ap (λ b. is_default h.kind || b) (one_default_kids g p ids hs k.1)

no_second : (a b : Bool) → not (a && b) ≡ true → a ≡ true → b ≡ false
no_second true true e f = absurd cc
no_second true false e f = refl
no_second false b e f = absurd cc

one_default : (g : Setting) (p : Position) (ids : List TNodeId) (hs : List Head) → AllKids g p SwitchItem ids hs → has_one_default hs ≡ true
    → HasOneDefault g ids
one_default g p [] [] k e = tt
one_default g p [] (h ∷ hs) k e = absurd k
one_default g p (id ∷ ids) [] k e = absurd k
one_default g p (id ∷ ids) (h ∷ hs) k e =
    let w = and_parts (not (is_default h.kind && has_default hs)) (has_one_default hs) e in (
      λ d. one_default_kids g p ids hs k.1 ∙ no_second (is_default h.kind) (has_default hs) w.0 (sym (ap is_default (k.0).kind_is) ∙ d),
      one_default g p ids hs k.1 w.1,
    )

handlers : (g : Setting) (p : Position) (ids : List TNodeId) (hs : List Head) → AllKids g p Catch ids hs → Handlers g p ids
handlers g p [] [] k = no_handlers
handlers g p [] (h ∷ hs) k = absurd k
handlers g p (id ∷ ids) [] k = absurd k
handlers g p (id ∷ ids) (h ∷ hs) k =
    let i : IsHandler g p id = (k.0).comes caught in
    handler i.place i.body i.fields i.stands i.runs i.are_fields i.unnamed (handlers g p ids hs k.1)

-- a statement is dropped
as_dropped : (g : Setting) (p : Position) (id : TNodeId) (way : Way) → way ≡ Dropped → Runs g p id Dropped → Runs g p id way
as_dropped g p id way e r = subst (λ v. Runs g p id v) (sym e) r

module _ (g : Setting) {p : Position} {role : Role} {a : Bool} {way : Way} {id : TNodeId} {t : Typ} {cat : Cat} {ids : List TNodeId} {hs : List Head} where
  pub block_runs : (b : Bool) → Serves a role way → Holds g p role a id (Block b) t cat ids hs → Runs g p id way
  block_runs b w h = as_dropped g p id way (drops_it w (Block b) h.fit.serves refl refl refl refl refl refl)
      (block b ids (stands_as g ids h refl) (no_typ g (Block b) h h.fit.row)
      (all_run g p BlockItem Dropped (λ j x k. k.comes block_item) ids hs (any_kids g p BlockItem 0 ids hs h.kids)))

  pub loop_runs : (b : Bool) → Serves a role way → Holds g p role a id (Loop b) t cat ids hs → Runs g p id way
  loop_runs b w h =
      let o = three_kids g (inside (Loop b) p) Value Statement Step false ids hs h.kids h.fit.many in
      let r = and_parts (is_statement_typ t cat) (is_bool o.head) (row_as g (Loop b) (o.head ∷ o.other_head ∷ o.last_head ∷ []) h o.hs_are) in
      let e = and_parts (has_word o.head) (have_words []) (words_as g (Loop b) (o.head ∷ o.other_head ∷ o.last_head ∷ []) h o.hs_are) in
      as_dropped g p id way (drops_it w (Loop b) h.fit.serves refl refl refl refl refl refl)
      (loop b o.id o.other o.last (stands_as g (o.id ∷ o.other ∷ o.last ∷ []) h o.ids_are) (no_typ g (Loop b) h r.0)
      (o.kid.comes for_value) (word_of g o.kid e.0) (o.other_kid.comes statement) (o.last_kid.comes step))

  pub switch_runs : Serves a role way → Holds g p role a id Switch t cat ids hs → Runs g p id way
  switch_runs w h =
      let o = one_and_any g (inside Switch p) Value SwitchItem false ids hs h.kids h.fit.many in
      let r = and_parts (is_statement_typ t cat) (is_prvalue o.head.cat && gives_promoted (kind_in (form_in o.head.typ))
      && are_cases (kind_in (form_in o.head.typ)) o.other_heads) (row_as g Switch (o.head ∷ o.other_heads) h o.hs_are) in
      let e = and_parts (has_word o.head) (have_words []) (words_as g Switch (o.head ∷ o.other_heads) h o.hs_are) in
      let d = and_parts (not (is_default o.head.kind && has_default o.other_heads)) (has_one_default o.other_heads)
      (suit_as g Switch (o.head ∷ o.other_heads) h o.hs_are) in
      as_dropped g p id way (drops_it w Switch h.fit.serves refl refl refl refl refl refl)
      (switch o.id o.others (stands_as g (o.id ∷ o.others) h o.ids_are) (no_typ g Switch h r.0) (o.kid.comes for_value) (word_of g o.kid e.0)
      (all_run g (inside Switch p) SwitchItem Dropped (λ j x k. k.comes switch_item) o.others o.other_heads o.other_kids)
      (one_default g (inside Switch p) o.others o.other_heads o.other_kids d.1))

  pub default_runs : Serves a role way → Holds g p role a id Default t cat ids hs → Runs g p id way
  default_runs w h = as_dropped g p id way (drops_it w Default h.fit.serves refl refl refl refl refl refl)
      (default (stands_as g [] h (none_kid g p false ids hs h.kids).0) (no_typ g Default h h.fit.row))

  pub break_runs : Serves a role way → Holds g p role a id Break t cat ids hs → Runs g p id way
  break_runs w h = as_dropped g p id way (drops_it w Break h.fit.serves refl refl refl refl refl refl)
      (break (stands_as g [] h (none_kid g p false ids hs h.kids).0) (no_typ g Break h h.fit.row) h.fit.place)

  pub continue_runs : Serves a role way → Holds g p role a id Continue t cat ids hs → Runs g p id way
  continue_runs w h = as_dropped g p id way (drops_it w Continue h.fit.serves refl refl refl refl refl refl)
      (continue (stands_as g [] h (none_kid g p false ids hs h.kids).0) (no_typ g Continue h h.fit.row) h.fit.place)

  pub try_runs : Serves a role way → Holds g p role a id Try t cat ids hs → Runs g p id way
  try_runs w h =
      let o = two_and_any g p Statement Catch Catch false ids hs h.kids h.fit.many in
      as_dropped g p id way (drops_it w Try h.fit.serves refl refl refl refl refl refl)
      (try o.id (o.other ∷ o.others) (stands_as g (o.id ∷ o.other ∷ o.others) h o.ids_are) (no_typ g Try h h.fit.row) (o.kid.comes statement)
      (handlers g p (o.other ∷ o.others) (o.other_head ∷ o.other_heads) (o.other_kid, o.other_kids)) (omega arith))

  pub atomic_runs : (b : BlockKind) → Serves a role way → Holds g p role a id (Atomic b) t cat ids hs → Runs g p id way
  atomic_runs b w h =
      let o = one_kid g p Statement false ids hs h.kids h.fit.many in
      as_dropped g p id way (drops_it w (Atomic b) h.fit.serves refl refl refl refl refl refl)
      (atomic b o.id (stands_as g (o.id ∷ []) h o.ids_are) (no_typ g (Atomic b) h h.fit.row) (o.kid.comes statement))

  pub synchronized_runs : Serves a role way → Holds g p role a id Synchronized t cat ids hs → Runs g p id way
  synchronized_runs w h =
      let o = one_kid g p Statement false ids hs h.kids h.fit.many in
      as_dropped g p id way (drops_it w Synchronized h.fit.serves refl refl refl refl refl refl)
      (synchronized o.id (stands_as g (o.id ∷ []) h o.ids_are) (no_typ g Synchronized h h.fit.row) (o.kid.comes statement))
