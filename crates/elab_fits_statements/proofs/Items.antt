-- Lists of items.
use Rattle.std.proofs.Common.{◌≡◌, refl, ap, ◌∙◌, Bool, true, false, not, ◌&&◌, ◌||◌, Option}
use Rattle.std.proofs.lemmas.Bool.{and_parts}
use Rattle.elab_rules.specs.tx_ints.declared.kinds.IntKind.{IntKind}
use Rattle.elab_rules.specs.cpp_tree.declared.kinds.TKind.TheVariants as forms
use Rattle.elab_rules.specs.cpp_tree.declared.roles.Position.{Position}
use Rattle.elab_rules.specs.cpp_tree.declared.roles.Role.{Role}
use Rattle.elab_rules.specs.cpp_tree.declared.roles.Role.TheVariants.{Statement, BlockItem, SwitchItem}
use Rattle.elab_rules.specs.cpp_tree.Trees.{Tree, node, Trees, none, more, kind_of}
use Rattle.elab_rules.specs.cpp_tree.Typing.{head_of}
use Rattle.elab_rules.specs.cpp_tree.Roles.{is_label}
use Rattle.elab_rules.specs.cpp_tree.Rows.{Setting, is_case_of, are_cases}
use Rattle.elab_rules.specs.cpp_tree.WellFormed.{fits, heads_of, labels_fit, skips}
use Rattle.elab_rules.specs.Objects.{followed_by}
use Rattle.elab_fits.proofs.Nodes.{both}
use Rattle.elab_fits_statements.specs.Anywhere.{Allows, AllServe}
use Rattle.elab_fits_statements.specs.Items.{role_if, skipped}
use Rattle.elab_fits_statements.proofs.Forms.{as_item, as_switch_item, anywhere_else}

-- where all may stand
abbrev open_position : Position
open_position = record { full = true; breaks = true; continues = true }

allowed : (b c : Bool) → Allows b c open_position
allowed b c = record { breaks = λ x. refl; continues = λ x. refl }

-- no label
record NoLabel (e : Tree) : Type 0 where
  label : is_label (kind_of e) ≡ false
  case : (o : Option IntKind) → is_case_of o (head_of e).kind ≡ true

no_item_label : (s : Setting) (p : Position) (e : Tree) → fits s p BlockItem e ≡ true → NoLabel e
no_item_label s p (node (forms.Case n) t cat at kids) h = absurd cc
no_item_label s p (node forms.Default t cat at kids) h = absurd cc
no_item_label s p (node kind t cat at kids) h = record { label = refl; case = λ o. refl }

no_declaration : (s : Setting) (p : Position) (e : Tree) → fits s p Statement e ≡ true → skips e ≡ false
no_declaration s p (node forms.Init t cat at kids) h = absurd cc
no_declaration s p (node kind t cat at kids) h = refl

pub all_items : (s : Setting) (b c : Bool) (ts : Trees) → AllServe s b c Statement ts → AllServe s b c BlockItem ts
all_items s b c none h = tt
all_items s b c (more t ts) (h, hs) = (as_item s b c t h, all_items s b c ts hs)

pub all_switch_items : (s : Setting) (b c : Bool) (ts : Trees) → AllServe s b c BlockItem ts → AllServe s b c SwitchItem ts
all_switch_items s b c none h = tt
all_switch_items s b c (more t ts) (h, hs) = (as_switch_item s b c t h, all_switch_items s b c ts hs)

pub all_in : (s : Setting) (b c direct : Bool) (ts : Trees) → AllServe s b c BlockItem ts → AllServe s b c (role_if direct) ts
all_in s b c true ts h = all_switch_items s b c ts h
all_in s b c false ts h = h

pub all_else : (s : Setting) (b c : Bool) (role : Role) (ts : Trees) → AllServe s false false role ts → AllServe s b c role ts
all_else s b c role none h = tt
all_else s b c role (more t ts) (h, hs) = (anywhere_else s b c role t h, all_else s b c role ts hs)

pub all_followed : (s : Setting) (b c : Bool) (role : Role) (ts us : Trees) → AllServe s b c role ts → AllServe s b c role us
    → AllServe s b c role (followed_by ts us)
all_followed s b c role none us h g = g
all_followed s b c role (more t ts) us (h, hs) g = (h, all_followed s b c role ts us hs g)

pub item_cases : (s : Setting) (b c : Bool) (o : Option IntKind) (ts : Trees) → AllServe s b c BlockItem ts → are_cases o (heads_of ts) ≡ true
item_cases s b c o none h = refl
item_cases s b c o (more t ts) (h, hs) = both ((no_item_label s open_position t (h.fits open_position (allowed b c))).case o) (item_cases s b c o ts hs)

no_label_and : (b l : Bool) → l ≡ false → not (b && l) ≡ true
no_label_and true l h = ap not h
no_label_and false l h = refl

pub item_labels : (s : Setting) (b c q : Bool) (ts : Trees) → AllServe s b c BlockItem ts → labels_fit q ts ≡ true
item_labels s b c q none h = refl
item_labels s b c q (more t ts) (h, hs) =
    both (no_label_and q (is_label (kind_of t)) (no_item_label s open_position t (h.fits open_position (allowed b c))).label)
    (item_labels s b c (q || skips t) ts hs)

or_false : (b c : Bool) → c ≡ false → (b || c) ≡ b
or_false true c h = refl
or_false false c h = h

pub statements_skip : (s : Setting) (b c q : Bool) (ts : Trees) → AllServe s b c Statement ts → skipped q ts ≡ q
statements_skip s b c q none h = refl
statements_skip s b c q (more t ts) (h, hs) = statements_skip s b c (q || skips t) ts hs
    ∙ or_false q (skips t) (no_declaration s open_position t (h.fits open_position (allowed b c)))

pub one_skips : (q : Bool) (t : Tree) → skips t ≡ false → skipped q (more t none) ≡ q
one_skips q t h = or_false q (skips t) h

-- one list behind another

pub skipped_followed : (q : Bool) (ts us : Trees) → skipped q (followed_by ts us) ≡ skipped (skipped q ts) us
skipped_followed q none us = refl
skipped_followed q (more t ts) us = skipped_followed (q || skips t) ts us

pub labels_followed : (q : Bool) (ts us : Trees) → labels_fit q ts ≡ true → labels_fit (skipped q ts) us ≡ true → labels_fit q (followed_by ts us) ≡ true
labels_followed q none us h g = g
labels_followed q (more t ts) us h g =
    let a = and_parts (not (q && is_label (kind_of t))) (labels_fit (q || skips t) ts) h in
    both a.0 (labels_followed (q || skips t) ts us a.1 g)

pub cases_followed : (o : Option IntKind) (ts us : Trees) → are_cases o (heads_of ts) ≡ true → are_cases o (heads_of us) ≡ true
    → are_cases o (heads_of (followed_by ts us)) ≡ true
cases_followed o none us h g = g
cases_followed o (more t ts) us h g =
    let a = and_parts (is_case_of o (head_of t).kind) (are_cases o (heads_of ts)) h in
    both a.0 (cases_followed o ts us a.1 g)
