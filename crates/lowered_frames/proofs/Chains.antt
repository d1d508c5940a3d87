-- Terms in the place of variables, in the objects that wait.
use Rattle.std.proofs.Common.{ℕ, zero, suc, ◌≡◌, refl, ap, ap₂, ◌∙◌, ◌*◌, List, [], ◌∷◌, ◌++◌}
use Rattle.cpp_tree.specs.Trees.{Trees, none, more}
use Rattle.cpp_tree.specs.declared.arena.TNodeId.{TNodeId}
use Rattle.low_code.specs.declared.scopes.Address.{Address}
use Rattle.low_code.specs.declared.scopes.Address.TheVariants.{Frame, Word, Node as OfNode}
use Rattle.low_code.specs.declared.scopes.ScopeKind.{ScopeKind}
use Rattle.low_code.specs.declared.scopes.ScopeKind.TheVariants.{Waits}
use Rattle.symbolic_source.specs.Terms.{Term, plus_number}
use Rattle.symbolic_source.specs.Frames.{Spot, at_word, Waiting, waiting}
use Rattle.symbolic_source.specs.Steps.{first_word}
use Rattle.symbolic_source.specs.Replacing.{Replacing, in_term, in_terms, in_spot, in_waitings}
use Rattle.unwind_lower.specs.Settings.{Setting, node_in}
use Rattle.unwind_lower.specs.Kids.{kids_from}
use Rattle.lowered_frames.specs.Lists.{behind}
use Rattle.lowered_frames.specs.Modes.{trees_in}
use Rattle.lowered_frames.specs.Chains.{spot_with, waiting_with, words_in, waitings, part_waitings, element_waitings}
use Rattle.lowered_frames.proofs.Lists.{first_in, behind_in, waitings_joined_in}
use Rattle.lowered_frames.proofs.Offsets.{plus_in}

module _ (g : Setting) (r : Replacing) where
  spot_in : (address : Address) (ts : List Term) → in_spot r (spot_with g address ts) ≡ spot_with g address (in_terms r ts)
  spot_in (Frame offset) ts = refl
  spot_in (Word offset) ts = ap at_word (plus_in r (first_word ts) offset ∙ ap (λ (z : Term). plus_number z offset) (first_in r ts))
  spot_in (OfNode id) ts = refl

  one_waiting_in : (k : ScopeKind) (ts : List Term) → in_waitings r (waiting_with g k ts) ≡ waiting_with g k (in_terms r ts)
  one_waiting_in (Waits owner always address id first) ts =
      ap (λ (z : Spot). record { address = z; destroys = trees_in g (kids_from (node_in g id) first) } ∷ []) (spot_in address ts)
  one_waiting_in k ts = refl

  pub waitings_in : (chain : List ScopeKind) (ts : List Term) → in_waitings r (waitings g chain ts) ≡ waitings g chain (in_terms r ts)
  waitings_in [] ts = refl
  waitings_in (k ∷ chain) ts = waitings_joined_in r (waiting_with g k ts) (waitings g chain (behind (words_in k) ts))
      ∙ ap₂ (λ (y z : List Waiting). y ++ z) (one_waiting_in k ts)
      (waitings_in chain (behind (words_in k) ts) ∙ ap (λ (z : List Term). waitings g chain z) (behind_in r (words_in k) ts))

  pub parts_in : (chain : List ScopeKind) (t : Term) → in_waitings r (part_waitings g chain t) ≡ part_waitings g chain (in_term r t)
  parts_in [] t = refl
  parts_in (k ∷ chain) t = waitings_joined_in r (waiting_with g k (t ∷ [])) (part_waitings g chain t)
      ∙ ap₂ (λ (y z : List Waiting). y ++ z) (one_waiting_in k (t ∷ [])) (parts_in chain t)

  wait_in : (address : Spot) (destroys : Trees) (ws : List Waiting) → in_waitings r (waiting address destroys ws) ≡ waiting (in_spot r address) destroys (in_waitings r ws)
  wait_in address none ws = refl
  wait_in address (more t ts) ws = refl

  pub elements_in : (id : TNodeId) (stride : ℕ) (t : Term) (n : ℕ) → in_waitings r (element_waitings g id stride t n) ≡ element_waitings g id stride (in_term r t) n
  elements_in id stride t zero = refl
  elements_in id stride t (suc n) = wait_in (at_word (plus_number t (n * stride))) (trees_in g (kids_from (node_in g id) 1)) (element_waitings g id stride t n)
      ∙ ap₂ (λ (y : Term) (z : List Waiting). waiting (at_word y) (trees_in g (kids_from (node_in g id) 1)) z) (plus_in r t (n * stride)) (elements_in id stride t n)
