-- What a body names is read, step by step.
use Rattle.std.proofs.Common.{◌≡◌, ◌∙◌, ℕ, min, Bool, true, false, ◌||◌, length, take, List, [], ◌∷◌, ◌++◌, map, Option, Some, None, Result, Ok, Err, OnOk}
use Rattle.std.proofs.Common.{refl, sym, ap, subst, arith, append_assoc, append-nil}
use Rattle.std.specs.List.{list_any, fold}
use Rattle.std.proofs.lemmas.List.{take_all, take_at, take-take, length-take}
use Rattle.std.proofs.lemmas.List.Sums.{fold-append}
use Rattle.elab_init.specs.cpp_ast.Trees as syntax
use Rattle.elab_init.specs.cpp_ast.declared.arena.At.{At as SyntaxAt}
use Rattle.elab_init.specs.cpp_ast.declared.arena.NodeId.{NodeId}
use Rattle.elab_init.specs.cpp_ast.declared.kinds.NodeKind.{NodeKind}
use Rattle.elab_init.specs.cpp_ast.declared.kinds.NodeKind.TheVariants as k
use Rattle.std.specs.declared.alloc.AllocError.{AllocError}
use Rattle.elab_types.specs.Syntax.{trees_at}
use Rattle.elab_init.specs.cpp_lex.Tokens.{Lexeme}
use Rattle.elab_init.specs.elab_ctx.Ctx.{Ctx}
use Rattle.elab_init.specs.elab_ctx.Steps.{spelling}
use Rattle.elab_init.specs.elab_rules.Types.{Parameter}
use Rattle.elab_init.specs.elab_rules.Lambdas.{Used, Scan, using, declaring, scanned, scanned_all, left_scope, names_if, name_among, parameter_names, used_in}
use Rattle.lambda_captures.specs.declared.scanning.Used.{Used as UsedRec}
use Rattle.lambda_captures.specs.declared.scanning.Scan.{Scan as ScanRec}
use Rattle.lambda_captures.specs.Shown.{used_of, with_own, own_of, scan_of}
use Rattle.lambda_captures.specs.Steps.{spells, is_name, declarator_scanned, tokens_back, token_if}
use Rattle.lambda_captures.specs.Says.{Scanned}

-- Names that are declared stay in front

kept_refl : (a : List ℕ) → take (length a) a ≡ a
kept_refl a = take_all (length a) a (omega arith)

kept_trans : (a b c : List ℕ) → take (length a) b ≡ a → take (length b) c ≡ b → take (length a) c ≡ a
kept_trans a b c h g =
    let n : length a ≡ min (length a) (length b) = ap length (sym h) ∙ length-take (length a) b in
    sym (take-take (length a) (length b) c (omega (arith, n))) ∙ ap (take (length a)) g ∙ h

kept_more : (a b : List ℕ) → take (length a) (a ++ b) ≡ a
kept_more a b = take_at a b (length a) refl

-- Steps

pub scanned_same : (s : List Lexeme) (a : ScanRec) → Scanned s a a (scan_of s a)
scanned_same s a = record { kept = kept_refl a.own.items; is = refl }

pub scanned_is : (s : List Lexeme) (a b : ScanRec) (x y : Scan) → x ≡ y → Scanned s a b x → Scanned s a b y
scanned_is s a b x y e m = record { kept = m.kept; is = m.is ∙ e }

pub scanned_after : (s : List Lexeme) (a b c : ScanRec) (x : Scan) (f : Scan → Scan) → Scanned s a b x → Scanned s b c (f (scan_of s b)) → Scanned s a c (f x)
scanned_after s a b c x f m n = record { kept = kept_trans a.own.items b.own.items c.own.items m.kept n.kept; is = n.is ∙ ap f m.is }

pub used_more : (s : List Lexeme) (a b : ScanRec) (u : UsedRec) → b.own.items ≡ a.own.items → b.used.items ≡ a.used.items ++ u ∷ []
    → Scanned s a b (using (scan_of s a) u.variable u.at)
used_more s a b u e h = record {
  kept = ap (take (length a.own.items)) e ∙ kept_refl a.own.items;
  is = ap (λ (z : List ℕ). record { own = own_of s z; used = map used_of b.used.items }) e
      ∙ ap (λ (z : List Used). record { own = own_of s a.own.items; used = z }) (ap (map used_of) h ∙ map_last a.used.items u);
}
  where
    map_last : (xs : List UsedRec) (u : UsedRec) → map used_of (xs ++ u ∷ []) ≡ map used_of xs ++ used_of u ∷ []
    map_last [] u = refl
    map_last (x ∷ xs) u = ap (λ z. used_of x ∷ z) (map_last xs u)

pub declared_more : (s : List Lexeme) (a b : ScanRec) (t : ℕ) → b.own.items ≡ a.own.items ++ t ∷ [] → b.used.items ≡ a.used.items
    → Scanned s a b (declaring s (scan_of s a) (Some t))
declared_more s a b t e h = record {
  kept = ap (take (length a.own.items)) e ∙ kept_more a.own.items (t ∷ []);
  is = ap (λ (z : List (List ℕ)). record { own = z; used = map used_of b.used.items }) (ap (own_of s) e ∙ fold-append (with_own s) [] a.own.items (t ∷ []))
      ∙ ap (λ (z : List UsedRec). record { own = spelling s t ∷ own_of s a.own.items; used = map used_of z }) h;
}

pub left_is : (s : List Lexeme) (a b c : ScanRec) (x : Scan) (n : ℕ) → n ≡ length a.own.items → Scanned s a b x → c.own.items ≡ take n b.own.items
    → c.used.items ≡ b.used.items → Scanned s a c (left_scope (scan_of s a) x)
left_is s a b c x n l m e h =
    let own : c.own.items ≡ a.own.items = e ∙ ap (λ (z : ℕ). take z b.own.items) l ∙ m.kept in
    record {
      kept = ap (take (length a.own.items)) own ∙ kept_refl a.own.items;
      is = ap (λ (z : List ℕ). record { own = own_of s z; used = map used_of c.used.items }) own
          ∙ ap (λ (z : List UsedRec). record { own = own_of s a.own.items; used = map used_of z }) h
          ∙ ap (λ (z : Scan). record { own = own_of s a.own.items; used = z.used }) m.is;
    }

-- Several nodes, of which `rest` are left, where all give `x`
pub record Scanning (a b : ScanRec) (rest x : Scan) : Type 0 where
  pub kept : take (length a.own.items) b.own.items ≡ a.own.items
  pub is : x ≡ rest

pub scanning_none : (a : ScanRec) (x : Scan) → Scanning a a x x
scanning_none a x = record { kept = kept_refl a.own.items; is = refl }

pub scanning_more : (s : List Lexeme) (a b c : ScanRec) (rest x y : Scan) (f : Scan → Scan) → Scanning a b rest x → rest ≡ f y → Scanned s b c y
    → Scanning a c (f (scan_of s c)) x
scanning_more s a b c rest x y f m e n = record { kept = kept_trans a.own.items b.own.items c.own.items m.kept n.kept; is = m.is ∙ e ∙ ap f (sym n.is) }

pub scanning_done : (s : List Lexeme) (a b : ScanRec) (rest x : Scan) → Scanning a b rest x → rest ≡ scan_of s b → Scanned s a b x
scanning_done s a b rest x m e = record { kept = m.kept; is = sym (m.is ∙ e) }

-- The names that are the body's own

or_swap : (a b c : Bool) → (b || (a || c)) ≡ ((a || b) || c)
or_swap true true c = refl
or_swap true false c = refl
or_swap false true c = refl
or_swap false false c = refl

any_own : (s : List Lexeme) (name : List ℕ) (ts : List ℕ) (names : List (List ℕ))
    → list_any (is_name name) (fold (with_own s) names ts) ≡ (list_any (spells s name) ts || list_any (is_name name) names)
any_own s name [] names = refl
any_own s name (t ∷ ts) names = any_own s name ts (spelling s t ∷ names)
    ∙ or_swap (spells s name t) (list_any (spells s name) ts) (list_any (is_name name) names)

or_false : (a : Bool) → (a || false) ≡ a
or_false true = refl
or_false false = refl

pub own_is : (s : List Lexeme) (name : List ℕ) (ts : List ℕ) → list_any (spells s name) ts ≡ list_any (is_name name) (own_of s ts)
own_is s name ts = sym (any_own s name ts [] ∙ or_false (list_any (spells s name) ts))

-- Parameters

pub back_last : {P : Type 0} (f : P → Parameter) (ps : List P) (p : P) → tokens_back (map f (ps ++ p ∷ [])) ≡ token_if (f p).name ++ tokens_back (map f ps)
back_last f [] p = sym (append-nil (token_if (f p).name))
back_last f (q ∷ ps) p = ap (λ (z : List ℕ). z ++ token_if (f q).name) (back_last f ps p)
    ∙ append_assoc (token_if (f p).name) (tokens_back (map f ps)) (token_if (f q).name)

with_token_if : (s : List Lexeme) (o : Option ℕ) (names : List (List ℕ)) → fold (with_own s) names (token_if o) ≡ names_if s o names
with_token_if s (Some t) names = refl
with_token_if s None names = refl

pub names_are : (s : List Lexeme) (ps : List Parameter) → own_of s (tokens_back ps) ≡ parameter_names s ps
names_are s [] = refl
names_are s (p ∷ ps) = fold-append (with_own s) [] (tokens_back ps) (token_if p.name) ∙ with_token_if s p.name (own_of s (tokens_back ps))
    ∙ ap (names_if s p.name) (names_are s ps)

-- A declarator

pub declarator_is : (s : List Lexeme) (c : Ctx) (x : Scan) (p : SyntaxAt) (o : Option ℕ) (ts : syntax.Trees)
    → scanned s c x (syntax.node k.InitDeclarator p o ts) ≡ declarator_scanned s c x o ts
declarator_is s c x p o syntax.none = refl
declarator_is s c x p o (syntax.more d init) = refl

pub back_more : {P : Type 0} (f : P → Parameter) (ps before : List P) (p : P) (a b all : List ℕ) → a ++ tokens_back (map f ps) ≡ all → ps ≡ before ++ p ∷ []
    → b ≡ a ++ token_if (f p).name → b ++ tokens_back (map f before) ≡ all
back_more {P} f ps before p a b all h e g =
    ap (λ (z : List ℕ). z ++ tokens_back (map f before)) g
    ∙ append_assoc a (token_if (f p).name) (tokens_back (map f before))
    ∙ ap (λ (z : List ℕ). a ++ z) (sym (back_last f before p))
    ∙ ap (λ (z : List P). a ++ tokens_back (map f z)) (sym e)
    ∙ h

pub used_are : (s : List Lexeme) (c : Ctx) (a b : ScanRec) (ps : List Parameter) (t : syntax.Tree) → a.own.items ≡ tokens_back ps → a.used.items ≡ []
    → Scanned s a b (scanned s c (scan_of s a) t) → map used_of b.used.items ≡ used_in s c ps t
used_are s c a b ps t e h m =
    ap (λ (z : Scan). z.used) m.is
    ∙ ap (λ (z : List (List ℕ)). (scanned s c (record { own = z; used = map used_of a.used.items }) t).used) (ap (own_of s) e ∙ names_are s ps)
    ∙ ap (λ (z : List UsedRec). (scanned s c (record { own = parameter_names s ps; used = map used_of z }) t).used) h

-- The same of something that is equal

ok_same : (r : Result (Unit {0}) AllocError) (s : List Lexeme) (a b : ScanRec) (x y : Scan) → y ≡ x → OnOk r (Scanned s a b x) → OnOk r (Scanned s a b y)
ok_same r s a b x y e m = subst (λ (z : Scan). OnOk r (Scanned s a b z)) (sym e) m

ok_after : (r : Result (Unit {0}) AllocError) (s : List Lexeme) (a b c : ScanRec) (x : Scan) (f : Scan → Scan) → Scanned s a b x
    → OnOk r (Scanned s b c (f (scan_of s b))) → OnOk r (Scanned s a c (f x))
ok_after (Ok u) s a b c x f m n = scanned_after s a b c x f m n
ok_after (Err e) s a b c x f m n = tt

pub init_scanned : (r : Result (Unit {0}) AllocError) (s : List Lexeme) (c : Ctx) (a b : ScanRec) (t : syntax.Tree) (kind : NodeKind) (p : SyntaxAt)
    (o : Option ℕ) (trees : List syntax.Tree) (kids ids : List NodeId) →
    t ≡ syntax.node kind p o (trees_at trees kids) → kind ≡ k.InitDeclarator → ids ≡ kids
    → OnOk r (Scanned s a b (declarator_scanned s c (scan_of s a) o (trees_at trees ids))) → OnOk r (Scanned s a b (scanned s c (scan_of s a) t))
init_scanned r s c a b t kind p o trees kids ids e h q m =
    ok_same r s a b (declarator_scanned s c (scan_of s a) o (trees_at trees ids)) (scanned s c (scan_of s a) t)
    (ap (scanned s c (scan_of s a)) (e ∙ ap (λ (z : NodeKind). syntax.node z p o (trees_at trees kids)) h)
    ∙ declarator_is s c (scan_of s a) p o (trees_at trees kids)
    ∙ ap (λ (z : List NodeId). declarator_scanned s c (scan_of s a) o (trees_at trees z)) (sym q)) m

parameter_is : (s : List Lexeme) (c : Ctx) (x : Scan) (p : SyntaxAt) (o : Option ℕ) (ts : syntax.Trees)
    → scanned s c x (syntax.node k.ParameterDeclaration p o ts) ≡ declaring s (scanned_all s c x ts) (name_among ts)
parameter_is s c x p (Some t) ts = refl
parameter_is s c x p None ts = refl

pub parameter_scanned : (r : Result (Unit {0}) AllocError) (s : List Lexeme) (c : Ctx) (a b d : ScanRec) (t : syntax.Tree) (kind : NodeKind) (p : SyntaxAt)
    (o token : Option ℕ) (trees : List syntax.Tree) (kids ids others : List NodeId) →
    t ≡ syntax.node kind p o (trees_at trees kids) → kind ≡ k.ParameterDeclaration → ids ≡ kids → others ≡ kids
    → Scanned s a b (scanned_all s c (scan_of s a) (trees_at trees ids)) → token ≡ name_among (trees_at trees others)
    → OnOk r (Scanned s b d (declaring s (scan_of s b) token)) → OnOk r (Scanned s a d (scanned s c (scan_of s a) t))
parameter_scanned r s c a b d t kind p o token trees kids ids others e h q w m n l =
    let whole : scanned s c (scan_of s a) t ≡ declaring s (scanned_all s c (scan_of s a) (trees_at trees ids)) token =
    ap (scanned s c (scan_of s a)) (e ∙ ap (λ (z : NodeKind). syntax.node z p o (trees_at trees kids)) h)
    ∙ parameter_is s c (scan_of s a) p o (trees_at trees kids)
    ∙ ap (λ (z : List NodeId). declaring s (scanned_all s c (scan_of s a) (trees_at trees z)) (name_among (trees_at trees kids))) (sym q)
    ∙ ap (declaring s (scanned_all s c (scan_of s a) (trees_at trees ids))) (ap (λ (z : List NodeId). name_among (trees_at trees z)) (sym w) ∙ sym n) in
    ok_same r s a d (declaring s (scanned_all s c (scan_of s a) (trees_at trees ids)) token) (scanned s c (scan_of s a) t) whole
    (ok_after r s a b d (scanned_all s c (scan_of s a) (trees_at trees ids)) (λ (z : Scan). declaring s z token) m l)
