-- Which tree a record stands for, from one state of the store to the next.
use Rattle.std.proofs.Common.{◌≡◌, ℕ, ◌+◌, ◌^◌, ◌<◌, ◌≤◌, refl, ap, ◌∙◌, arith}
use Rattle.rope.specs.Tree.{Tree, node, size, height}
use Rattle.rope.specs.Memory.{tree_of, Free, Takes}
use Rattle.rope.specs.Steps.{Pushed, Pairs}
use Rattle.rope.specs.declared.store.Store.{Store}
use Rattle.rope.proofs.Keeping.{keeps_tree}

-- record i stands for the tree t
pub record Knows {V R : Type 0} {kind : _} (s : Store V R kind) (i : ℕ) (t : Tree) : Type 0 where
  pub below : i < s.records.used
  pub is : tree_of s i ≡ t

pub known : {V R : Type 0} {kind : _} {s : Store V R kind} {i : ℕ} → i < s.records.used → Knows s i (tree_of s i)
known h = record { below = h; is = refl }

pub knows_after : {V R : Type 0} {kind : _} {s t : Store V R kind} {i n : ℕ} {u : Tree} → Takes s t n → Knows s i u → Knows t i u
knows_after {i} p k = record { below = omega (arith, p.keeps.records.more, k.below); is = keeps_tree p.keeps i k.below ∙ k.is }

-- what lets t and u be children of one record
pub record Near (t u : Tree) : Type 0 where
  pub left : height t ≤ height u + 1
  pub right : height u ≤ height t + 1
  pub short : size t + size u < 2 ^ 32

pub pairs_of : {V R : Type 0} {kind : _} {s : Store V R kind} {l r : ℕ} {t u : Tree} → Knows s l t → Knows s r u → Free s 1 → Near t u → Pairs s l r
pairs_of kl kr free near =
    let hl = ap height kl.is in
    let hr = ap height kr.is in
    record {
      free = free;
      left = kl.below;
      right = kr.below;
      left_near = omega (arith, hl, hr, near.left);
      right_near = omega (arith, hl, hr, near.right);
      short = omega (arith, ap size kl.is, ap size kr.is, near.short);
    }

pub knows_pushed : {V R : Type 0} {kind : _} {s t : Store V R kind} {l r i : ℕ} {u v : Tree} → Knows s l u → Knows s r v → Pushed s t i (node (tree_of s l) (tree_of s r)) → Knows t i (node u v)
knows_pushed {s} {r} {u} kl kr p =
    record {
      below = omega (arith, p.at, p.one);
      is = p.tree ∙ ap (λ (a : Tree). node a (tree_of s r)) kl.is ∙ ap (node u) kr.is;
    }
