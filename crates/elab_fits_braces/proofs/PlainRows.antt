-- Rows say the same of kids whose kinds are plain.
use Rattle.std.proofs.Common.{◌≡◌, refl, ap, ℕ, zero, suc, Bool, true, false, not, ◌&&◌, List, [], ◌∷◌, Option, Some, None}
use Rattle.std.proofs.Common.{slice_get}
use Rattle.elab_rules.specs.tx_ints.declared.kinds.IntKind.{IntKind}
use Rattle.elab_rules.specs.tx_ints.declared.kinds.BinOp.{BinOp}
use Rattle.elab_rules.specs.cpp_types.Typ.{Typ, typ, void, Signature}
use Rattle.elab_rules.specs.cpp_types.declared.ranks.Cat.{Cat}
use Rattle.elab_rules.specs.cpp_types.declared.ranks.Cat.TheVariants.{Lvalue, Prvalue}
use Rattle.elab_rules.specs.cpp_tree.declared.kinds.TKind.{TKind}
use Rattle.elab_rules.specs.cpp_tree.declared.kinds.TKind.TheVariants.{Literal, Local, Load, Convert, Retype}
use Rattle.elab_rules.specs.cpp_tree.declared.kinds.TKind.TheVariants.{Binary, Conditional, Comma, Assign, Update, CopyAssign, Materialize, FullExpression, Call}
use Rattle.elab_rules.specs.cpp_tree.declared.kinds.TKind.TheVariants.{VirtualCall, PointerCall, Builtin as CallBuiltin, Throw, Store}
use Rattle.elab_rules.specs.cpp_tree.declared.kinds.TKind.TheVariants.{Construct, CopyFrom, Pieces, Piece, Elements, Init, Defer, Loop}
use Rattle.elab_rules.specs.cpp_tree.declared.kinds.TKind.TheVariants.{Switch, Return, Handler}
use Rattle.elab_rules.specs.cpp_tree.declared.program.FuncKind.TheVariants.{Plain}
use Rattle.elab_rules.specs.cpp_tree.Units.{Func}
use Rattle.elab_rules.specs.cpp_tree.Parts.{has_pointer_at}
use Rattle.elab_rules.specs.cpp_tree.Typing.{Head, passes, is_prvalue, form_in, is_result, are_words}
use Rattle.elab_rules.specs.cpp_tree.Rows.{Setting, row_fits, result_of, result_in, is_load, is_retyped, is_binary, is_branch, is_virtual_call, words_of, signature_words}
use Rattle.elab_rules.specs.cpp_tree.Rows.{is_special, called_in, is_constructor_of, builtin_words, kid, two_kids}
use Rattle.elab_fits_braces.specs.Moving.{is_free}
use Rattle.elab_fits_braces.proofs.Plain.{plain_heads, plain_head, first_plain, zero_plain, literal_plain, throw_plain, builds_plain, initialises_plain}
use Rattle.elab_fits_braces.proofs.Plain.{words_plain, destructions_plain, scalars_plain, pieces_plain, elements_plain}

pub passes_same : {A : Type 0} (P Q : A → Bool) → ((a : A) → P a ≡ Q a) → (o : Option A) → passes P o ≡ passes Q o
passes_same {A} P Q h None = refl
passes_same {A} P Q h (Some a) = h a

first_kid : (P Q : Head → Bool) → ((h : Head) → P (plain_head h) ≡ Q h) → (hs : List Head) → kid 0 P (plain_heads hs) ≡ kid 0 Q hs
first_kid P Q h [] = refl
first_kid P Q h (a ∷ hs) = h a

pair : (P Q : Head → Head → Bool) → ((a b : Head) → P (plain_head a) (plain_head b) ≡ Q a b) → (hs : List Head)
    → two_kids P (plain_heads hs) ≡ two_kids Q hs
pair P Q h [] = refl
pair P Q h (a ∷ []) = refl
pair P Q h (a ∷ b ∷ hs) = h a b

load_plain : (result : Typ) (k : IntKind) (volatile : Bool) (t : Typ) (cat : Cat) (h : Head)
    → is_load result k volatile t cat (plain_head h) ≡ is_load result k volatile t cat h
load_plain result k volatile t Prvalue h = let e = first_plain h.kind in rw e refl
load_plain result k volatile t Lvalue h = refl

retyped_plain : (t : Typ) (cat : Cat) (h : Head) → is_retyped t cat (plain_head h) ≡ is_retyped t cat h
retyped_plain (typ void c v) Prvalue h = refl
retyped_plain (typ void c v) Lvalue h = let e = zero_plain h.kind in rw e refl
retyped_plain (typ f c v) cat h = let e = zero_plain h.kind in rw e refl

binary_plain : (op : BinOp) (k : IntKind) (t : Typ) (cat : Cat) (a b : Head)
    → is_binary op k t cat (plain_head a) (plain_head b) ≡ is_binary op k t cat a b
binary_plain op k t Lvalue a b = let e = literal_plain b.kind in rw e refl
binary_plain op k t Prvalue a b = refl

branch_plain : (t : Typ) (cat : Cat) (h : Head) → is_branch t cat (plain_head h) ≡ is_branch t cat h
branch_plain t Lvalue h = let e = throw_plain h.kind in rw e refl
branch_plain t Prvalue h = let e = throw_plain h.kind in rw e refl

called_plain : (s : Setting) (t : Typ) (cat : Cat) (hs : List Head) (g : Func)
    → (not (is_special g.kind) && is_result (result_of g) t cat && are_words (words_of g) (plain_heads hs))
    ≡ (not (is_special g.kind) && is_result (result_of g) t cat && are_words (words_of g) hs)
called_plain s t cat hs g = let e = words_plain (words_of g) hs in rw e refl

virtual_plain : (s : Setting) (n slot : ℕ) (t : Typ) (cat : Cat) (hs : List Head) (g : Func)
    → (is_virtual_call s n slot t cat g && are_words (words_of g) (plain_heads hs)) ≡ (is_virtual_call s n slot t cat g && are_words (words_of g) hs)
virtual_plain s n slot t cat hs g = let e = words_plain (words_of g) hs in rw e refl

pointer_plain : (t : Typ) (cat : Cat) (hs : List Head) (g : Signature)
    → (is_result (result_in Plain g) t cat && are_words (signature_words None g) (plain_heads hs))
    ≡ (is_result (result_in Plain g) t cat && are_words (signature_words None g) hs)
pointer_plain t cat hs g = let e = words_plain (signature_words None g) hs in rw e refl

constructed_plain : (t : Typ) (hs : List Head) (g : Func)
    → (is_constructor_of t g.kind g.class && are_words (signature_words None g.declared.signature) (plain_heads hs))
    ≡ (is_constructor_of t g.kind g.class && are_words (signature_words None g.declared.signature) hs)
constructed_plain t hs g = let e = words_plain (signature_words None g.declared.signature) hs in rw e refl

pub row_plain : (s : Setting) (kind : TKind) (t : Typ) (cat : Cat) (hs : List Head) → is_free kind ≡ true
    → row_fits s kind t cat (plain_heads hs) ≡ row_fits s kind t cat hs
row_plain s (Literal w) t cat hs f = refl
row_plain s (Local place) t cat hs f = absurd cc
row_plain s (Load k volatile) t cat hs f = first_kid _ _ (load_plain (result_of s.function) k volatile t cat) hs
row_plain s (Convert k) t cat [] f = refl
row_plain s (Convert k) t cat (h ∷ hs) f = refl
row_plain s Retype t cat hs f = first_kid _ _ (retyped_plain t cat) hs
row_plain s (Binary op k) t cat hs f = pair _ _ (binary_plain op k t cat) hs
row_plain s Conditional t cat [] f = refl
row_plain s Conditional t cat (a ∷ []) f = refl
row_plain s Conditional t cat (a ∷ b ∷ []) f = let e = branch_plain t cat b in rw e refl
row_plain s Conditional t cat (a ∷ b ∷ d ∷ hs) f = let e = branch_plain t cat b in let g = branch_plain t cat d in rw (e, g) refl
row_plain s Comma t Lvalue [] f = refl
row_plain s Comma t Lvalue (a ∷ []) f = refl
row_plain s Comma t Lvalue (a ∷ b ∷ hs) f = refl
row_plain s Comma t Prvalue [] f = refl
row_plain s Comma t Prvalue (a ∷ []) f = refl
row_plain s Comma t Prvalue (a ∷ b ∷ hs) f = refl
row_plain s (Assign k volatile) t cat [] f = refl
row_plain s (Assign k volatile) t cat (a ∷ []) f = refl
row_plain s (Assign k volatile) t cat (a ∷ b ∷ hs) f = refl
row_plain s (Update op stored operation volatile true) t cat hs f = pair _ _ (λ a b. refl) hs
row_plain s (Update op stored operation volatile false) t cat hs f = pair _ _ (λ a b. refl) hs
row_plain s CopyAssign t cat [] f = refl
row_plain s CopyAssign t cat (a ∷ []) f = refl
row_plain s CopyAssign t cat (a ∷ b ∷ []) f = refl
row_plain s CopyAssign t cat (a ∷ b ∷ d ∷ hs) f = let e = builds_plain t d in rw e refl
row_plain s (Materialize zero argument) t cat hs f = absurd cc
row_plain s (Materialize (suc place) argument) t cat [] f = refl
row_plain s (Materialize (suc place) argument) t cat (h ∷ hs) f = let e = builds_plain t h in let g = destructions_plain s t hs in rw (e, g) refl
row_plain s FullExpression t Lvalue [] f = refl
row_plain s FullExpression t Lvalue (h ∷ hs) f = refl
row_plain s FullExpression t Prvalue [] f = refl
row_plain s FullExpression t Prvalue (h ∷ hs) f = refl
row_plain s (Call i) t cat hs f = passes_same _ _ (called_plain s t cat hs) (slice_get s.funcs i)
row_plain s (VirtualCall i n slot pointer) t cat hs f =
    ap (λ (x : Bool). x && has_pointer_at s.classes pointer n) (passes_same _ _ (virtual_plain s n slot t cat hs) (slice_get s.funcs i))
row_plain s PointerCall t cat [] f = refl
row_plain s PointerCall t cat (h ∷ hs) f =
    ap (λ (x : Bool). is_prvalue h.cat && x) (passes_same _ _ (pointer_plain t cat hs) (called_in (form_in h.typ)))
row_plain s (CallBuiltin b) t cat hs f = let e = words_plain (builtin_words b) hs in rw e refl
row_plain s Throw t cat [] f = refl
row_plain s Throw t cat (h ∷ hs) f = let e = scalars_plain s.classes t hs in rw e refl
row_plain s (Store k volatile) t cat [] f = refl
row_plain s (Store k volatile) t cat (h ∷ hs) f = let e = initialises_plain t h in rw e refl
row_plain s (Construct i) t cat hs f = ap (λ (x : Bool). is_prvalue cat && x) (passes_same _ _ (constructed_plain t hs) (slice_get s.funcs i))
row_plain s CopyFrom t cat [] f = refl
row_plain s CopyFrom t cat (a ∷ []) f = refl
row_plain s CopyFrom t cat (a ∷ b ∷ hs) f = let e = builds_plain t b in rw e refl
row_plain s Pieces t cat hs f = let e = pieces_plain s.classes t hs in rw e refl
row_plain s (Piece offset) t cat [] f = refl
row_plain s (Piece offset) t cat (h ∷ hs) f = let e = builds_plain t h in let g = destructions_plain s t hs in rw (e, g) refl
row_plain s (Elements count stride) t cat [] f = refl
row_plain s (Elements count stride) t cat (h ∷ hs) f =
    let e = elements_plain s.classes count stride 1 t h in let g = destructions_plain s h.typ hs in rw (e, g) refl
row_plain s Init t cat hs f = absurd cc
row_plain s Defer t cat hs f = absurd cc
row_plain s (Loop first) t cat [] f = refl
row_plain s (Loop first) t cat (h ∷ hs) f = refl
row_plain s Switch t cat hs f = absurd cc
row_plain s Return t cat hs f = absurd cc
row_plain s (Handler place) t cat hs f = absurd cc
row_plain s kind t cat hs f = refl
