-- A discipline of statements is one with whole items, where its operands and objects are whole.
use Rattle.std.proofs.Common.{◌≡◌, ℕ, List, Option, Ok}
use Rattle.elab_rules.specs.cpp_types.Typ.{Typ}
use Rattle.elab_rules.specs.cpp_types.declared.classes.At.{At}
use Rattle.elab_rules.specs.cpp_lex.Tokens.{Lexeme}
use Rattle.elab_rules.specs.cpp_ast.declared.arena.At.{At as SyntaxAt}
use Rattle.elab_rules.specs.cpp_ast.declared.kinds.NodeKind.TheVariants as k
use Rattle.elab_rules.specs.cpp_ast.Trees as syntax
use Rattle.elab_rules.specs.cpp_tree.Trees.{Tree}
use Rattle.elab_rules.specs.cpp_tree.Rows.{Setting}
use Rattle.elab_rules.specs.elab_ctx.Ctx.{Work}
use Rattle.elab_rules.specs.elab_ctx.Steps.{Made, TypedAll}
use Rattle.elab_rules.specs.Initialising
use Rattle.elab_rules.specs.Braces.{item_of}
use Rattle.elab_rules.specs.Expressions.{operands_of}
use Rattle.elab_rules.specs.Statements
use Rattle.elab_rules.specs.Statements.{State, Lambdas, Full, full_operand, all_lambdas, with_work}
use Rattle.elab_places.proofs.Steps.{held_by}
use Rattle.elab_fits_statements.specs.Discipline.{Words, Goes, Gains, Discipline}
use Rattle.elab_frame_items.specs.Frames.{IsWholeState}
use Rattle.elab_frame_items.specs.Items.{AreWhole, AllWhole}
use Rattle.elab_frame_items.proofs.Objects.{Mades, initial, class_from, one_item}
use Rattle.elab_frame_items.proofs.Expressions.{dropped}
use Rattle.elab_frame_items.proofs.Braces.{braced}
use Rattle.elab_frame_items.proofs.Variables.{copy_initialised, directly_initialised, placed}
use Rattle.elab_frame_items.proofs.Full.{full_whole, operands_whole}
use Rattle.elab_whole_states.specs.States.{with_items, ReadsItems, GivesItems, StaysWhole}

goes_with : (w : Words) (a b : State) → Goes w a b → IsWholeState b → Goes (with_items w) a b
goes_with w a b g h = record { good = (g.good, h); leads = g.leads; stands = g.stands }

gains_with : (w : Words) (a b : State) (Q : Setting → Type 0) → Gains w a b Q → IsWholeState b → Gains (with_items w) a b Q
gains_with w a b Q g h = record { goes = goes_with w a b g.goes h; fits = g.fits }

-- where more is made in the same context
made_whole : (a : State) (v : Work) → IsWholeState a → AreWhole a.ctx.classes v → IsWholeState (with_work a v)
made_whole a v h i = record { items = i; defaults = h.defaults; bodies = h.bodies }

module _ (w : Words) (lams : Lambdas) (P : State → Work → Type 0) (s : List Lexeme) (d : Discipline w lams s) (i : GivesItems w lams P s) where
  abbrev Good : State → Type 0
  Good a = w.Good a × IsWholeState a

  read_whole : (a : State) (e : syntax.Tree) (f : Full) → Good a → w.Text e → full_operand lams s a e ≡ Ok f → IsWholeState f.state
  read_whole a e f g t q = held_by (λ (z : Full). IsWholeState z.state) (full_operand lams s a e) f
      (full_whole P w.Text w.Texts s lams a e (λ x y. (i.behind a x e g.0 t y, i.left a x e g.0 t y g.1)) t) q

  values_whole : (a x : State) (t : Typ) (p : At) (es : syntax.Trees) (xs : TypedAll) (m : Made) → Good a → w.Texts es
      → all_lambdas lams s a es ≡ Ok x → operands_of s x.ctx x.work es ≡ Ok xs
      → Statements.directly_initialised x.ctx xs.work t p xs.operands ≡ Ok m → IsWholeState (with_work x m.work)
  values_whole a x t p es xs m g ts y z v = made_whole x m.work before
      ((held_by (Mades x.ctx.classes xs.work) (Statements.directly_initialised x.ctx xs.work t p xs.operands) m
      (directly_initialised x.ctx xs.work t p xs.operands r.reads.functions whole) v).whole there)
    where
      r : ReadsItems P w.Text w.Texts s x
      r = i.behind_all a x es g.0 ts y

      before : IsWholeState x
      before = i.left_all a x es g.0 ts y g.1

      there : AreWhole x.ctx.classes xs.work
      there = held_by (λ (z : TypedAll). AreWhole x.ctx.classes z.work) (operands_of s x.ctx x.work es) xs
          (operands_whole P w.Text w.Texts s x es r.reads ts before.items) z

      whole : AllWhole x.ctx.classes xs.operands
      whole = (held_by (λ (z : TypedAll). AllWhole x.ctx.classes z.operands × P x z.work) (operands_of s x.ctx x.work es) xs
          (r.reads.supplies.operands x.work es r.reads.here ts) z).0

  braces_whole : (a x : State) (t : Typ) (variable : Tree) (p : SyntaxAt) (token : Option ℕ) (es : syntax.Trees) (m : Made) → Good a → w.Texts es
      → all_lambdas lams s a es ≡ Ok x → item_of s x.ctx x.work variable t (syntax.node k.BracedInitList p token es) ≡ Ok m
      → IsWholeState (with_work x m.work)
  braces_whole a x t variable p token es m g ts y z = made_whole x m.work before
      ((held_by (Mades x.ctx.classes x.work) (item_of s x.ctx x.work variable t (syntax.node k.BracedInitList p token es)) m
      (braced (P x) w.Text w.Texts s x.ctx r.reads.supplies r.items r.reads.functions before.defaults x.work variable t p token es r.reads.here ts) z).whole
      before.items)
    where
      r : ReadsItems P w.Text w.Texts s x
      r = i.behind_all a x es g.0 ts y

      before : IsWholeState x
      before = i.left_all a x es g.0 ts y g.1

  pub items_discipline : Discipline (with_items w) lams s
  items_discipline = record {
    kids = d.kids;
    first = d.first;
    rest = d.rest;
    handled = d.handled;
    stays = d.stays;
    goes_on = d.goes_on;
    still = λ a b g l p role e h. d.still a b g.0 l p role e h;
    classes = λ a g. d.classes a g.0;
    ordered = λ a g. d.ordered a g.0;
    written_still = d.written_still;
    object_still = d.object_still;
    settles = λ a g. (d.settles a g.0, g.1);
    settles_leads = d.settles_leads;
    opens = λ a l ls b c g. (d.opens a l ls b c g.0, g.1);
    opens_leads = d.opens_leads;
    closes = λ a b g h l. (d.closes a b g.0 h.0 l, h.1);
    closes_leads = d.closes_leads;
    relabels = λ a ls g. (d.relabels a ls g.0, g.1);
    relabels_leads = d.relabels_leads;
    returns = λ a g. d.returns a g.0;
    result = λ a t g x y. d.result a t g.0 x y;
    reads = λ a e f g t q. let r = d.reads a e f g.0 t q in
        record { goes = goes_with w a f.state r.goes (read_whole a e f g t q); operand = r.operand };
    operand = d.operand;
    constant = λ a e o g t q. d.constant a e o g.0 t q;
    drops = λ a o g r. gains_with w a _ _ (d.drops a o g.0 r)
        (made_whole a _ g.1 ((dropped a.ctx a.work o (i.whole a o g.0 r)).whole g.1.items));
    gives = λ a t o m g r x y e. gains_with w a (with_work a m.work) _ (d.gives a t o m g.0 r x y e) (made_whole a m.work g.1
        ((held_by (Mades a.ctx.classes a.work) (Initialising.initial a.ctx a.work t o) m (initial a.ctx a.work t o (i.whole a o g.0 r)) e).whole g.1.items));
    builds = λ a t o m g r x y e. gains_with w a (with_work a m.work) _ (d.builds a t o m g.0 r x y e)
        (made_whole a m.work g.1 ((held_by (Mades a.ctx.classes a.work) (Initialising.class_from a.ctx a.work t o.at o) m
        (class_from a.ctx a.work t o.at o (i.whole a o g.0 r)) e).whole g.1.items));
    leaves = λ a b t p g o h l. d.leaves a b t p g.0 o h.0 l;
    copies = λ a t o m g x r e. gains_with w a (with_work a m.work) _ (d.copies a t o m g.0 x r e)
        (made_whole a m.work g.1 ((held_by (Mades a.ctx.classes a.work) (Statements.copy_initialised a.ctx a.work t o) m
        (copy_initialised a.ctx a.work t o (i.whole a o g.0 r)) e).whole g.1.items));
    defaults = λ a t p e g o q. d.defaults a t p e g.0 o q;
    strings = λ a t p bytes e g o c q. d.strings a t p bytes e g.0 o c q;
    values = λ a x t p q es xs m g o ts y z v. let r = d.values a x t p q es xs m g.0 o ts y z v in record {
      goes = goes_with w a (with_work x m.work) r.goes (values_whole a x t p es xs m g ts y z v);
      builds = r.builds;
      destroys = r.destroys;
    };
    braces = λ a x t q variable p token es m g o ts f h j y z. let r = d.braces a x t q variable p token es m g.0 o ts f h j y z in record {
      goes = goes_with w a (with_work x m.work) r.goes (braces_whole a x t variable p token es m g ts y z);
      builds = r.builds;
      destroys = r.destroys;
    };
    specifiers = λ a e t g x q. d.specifiers a e t g.0 x q;
    declares = λ a p t x r g y z q. d.declares a p t x r g.0 y z q;
    objects = λ a p t init x y z g wr n e b u v. d.objects a p t init x y z g.0 wr n e b u v;
    deduces = λ a p t u o m g wr au r q e. d.deduces a p t u o m g.0 wr au r q e;
    places = λ a name t g o. let x = d.places a name t g.0 o in record {
      good = (x.good, record { items = (placed a name t (i.object a t g.0 o)).whole g.1.items; defaults = g.1.defaults; bodies = g.1.bodies });
      leads = x.leads;
      item = x.item;
    };
    names = λ a name g. (d.names a name g.0, g.1);
    names_leads = d.names_leads;
    autos = λ a n t g o. let x = d.autos a n t g.0 o in record {
      good = (x.good, record { items = (one_item a.ctx.classes a.work t (i.object a t g.0 o)).whole g.1.items; defaults = g.1.defaults; bodies = g.1.bodies });
      leads = x.leads;
      item = x.item;
    };
    caught = λ a p t u g wr e. let x = d.caught a p t u g.0 wr e in record { object = x.object; sized = x.sized; ready = x.ready };
  }

pub places_law : StaysWhole
places_law before st h = (h, h)
