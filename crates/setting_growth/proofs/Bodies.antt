-- Well-formed bodies are well-formed still where the setting has grown.
use Rattle.std.proofs.Common.{◌≡◌, refl, ap, ◌∙◌, ℕ, ◌+◌, ◌==◌, Bool, true, ◌&&◌, nat_le, nat_lt, List, [], ◌∷◌, map, length, drop, Option}
use Rattle.std.proofs.lemmas.Bool.{and_parts, and_from}
use Rattle.std.specs.List.{list_all}
use Rattle.cpp_types.specs.Typ.{Typ, Signature}
use Rattle.cpp_types.specs.Class.{Class}
use Rattle.cpp_tree.specs.declared.program.FuncKind.{FuncKind}
use Rattle.cpp_tree.specs.Trees.{kind_of}
use Rattle.cpp_tree.specs.Units.{Func, Param}
use Rattle.cpp_tree.specs.Rows.{result_in, result_of, signature_words, object_words}
use Rattle.cpp_tree.specs.WellFormed.{is_body_of, ends_well, words_fit, result_items, param_item, begin_with}
use Rattle.cpp_tree.specs.WellFormed.{object_and_params, is_item, is_free_place, places_of, outermost}
use Rattle.cpp_tree.specs.declared.roles.Role.TheVariants.{Statement}
use Rattle.setting_growth.specs.Growth.{ClassesGrow, SameBody, BodyStill}
use Rattle.setting_growth.proofs.Trees.{fits_law, items_law}

-- the test of the words of a call, by what it reads
abbrev words_by : FuncKind → Option ℕ → Signature → ℕ → List Param → List Typ → Bool
words_by kind class sig words params frame =
    words == length (result_items (result_in kind sig)) + length (signature_words class sig)
    && length (result_items (result_in kind sig)) + length (signature_words class sig)
    == length (result_items (result_in kind sig)) + length (object_words class) + length params
    && (begin_with (result_items (result_in kind sig)) frame
    && object_and_params class (map param_item params) (drop (length (result_items (result_in kind sig))) frame))

module _ (f h : Func) (e : SameBody f h) where
  words_same : words_fit h ≡ words_fit f
  words_same =
      ap (λ (k : FuncKind). words_by k h.class h.declared.signature h.words h.params h.frame) e.kind
      ∙ ap (λ (n : Option ℕ). words_by f.kind n h.declared.signature h.words h.params h.frame) e.class
      ∙ ap (λ (s : Signature). words_by f.kind f.class s h.words h.params h.frame) e.signature
      ∙ ap (λ (n : ℕ). words_by f.kind f.class f.declared.signature n h.params h.frame) e.words
      ∙ ap (λ (ps : List Param). words_by f.kind f.class f.declared.signature f.words ps h.frame) e.params
      ∙ ap (λ (ts : List Typ). words_by f.kind f.class f.declared.signature f.words f.params ts) e.frame

  result_same : result_of h ≡ result_of f
  result_same = ap (λ (k : FuncKind). result_in k h.declared.signature) e.kind ∙ ap (result_in f.kind) e.signature

  free_same : (ns : List ℕ) → list_all (is_free_place h) ns ≡ list_all (is_free_place f) ns
  free_same ns = ap (λ (n : ℕ). list_all (λ (place : ℕ). nat_le n place && nat_lt place (length h.frame)) ns) e.words
      ∙ ap (λ (ts : List Typ). list_all (λ (place : ℕ). nat_le f.words place && nat_lt place (length ts)) ns) e.frame

all_items : (old new : List Class) → ClassesGrow old new → (ts : List Typ) → list_all (is_item old) ts ≡ true → list_all (is_item new) ts ≡ true
all_items old new g [] h = refl
all_items old new g (t ∷ ts) h = let p = and_parts (is_item old t) (list_all (is_item old) ts) h in
    and_from (is_item new t) (list_all (is_item new) ts) (items_law old new g t p.0) (all_items old new g ts p.1)

pub body_law : BodyStill
body_law old new body o g e w = record {
  nodes = fits_law old new o g outermost Statement body w.nodes;
  block = ap (λ (k : FuncKind). is_body_of k (kind_of body)) e.kind ∙ w.block;
  end = ap (λ (r : Typ). ends_well r body) (result_same old.function new.function e) ∙ w.end;
  words = words_same old.function new.function e ∙ w.words;
  items = ap (λ (ts : List Typ). list_all (is_item new.classes) ts) e.frame ∙ all_items old.classes new.classes g.classes old.function.frame w.items;
  within = free_same old.function new.function e (places_of body) ∙ w.within;
  once = w.once;
}
