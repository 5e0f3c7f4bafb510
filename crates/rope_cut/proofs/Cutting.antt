-- The steps of a front and a back.
use Rattle.std.proofs.Common.{◌≡◌, ℕ, ◌+◌, ◌-◌, ◌*◌, ◌<◌, ◌≤◌, max, List, ◌++◌, length, take, drop, sym, ap, ◌∙◌, subst, arith, length-drop, length-take, take-take}
use lib.Seq.{take-append-le, take-append-add, drop-append-add}
use Rattle.std.proofs.lemmas.List.{take_all, drop-append-le, drop-take, drop-drop}
use Rattle.rope.specs.Tree.{Tree, leaf, text, size, height}
use Rattle.rope.specs.Arena.{Splits}
use Rattle.rope.specs.Memory.{arena_of, tree_of, Free, Takes}
use Rattle.rope.specs.Steps.{Pushed}
use Rattle.rope.specs.declared.store.Store.{Store}
use Rattle.rope.proofs.Keeping.{takes_none, takes_trans, takes_within, free_after, free_less}
use Rattle.rope.proofs.Knows.{Knows, known, knows_after}
use Rattle.rope.proofs.Readings.{splits_size, splits_high}
use Rattle.rope_join.specs.Joins.{apart, join_cost, Joinable, Joined}
use Rattle.rope_join.proofs.Steps.{joinable_of, joined_known}
use Rattle.rope_join.proofs.Trees.{apart_swap}
use Rattle.rope_cut.specs.Parts.{Partable, Parted, part_cost}

-- a part x of one child c, joined with the other child k, takes no more than the result y allows
pub rejoin_cost : (h c k x y : ℕ) → h ≡ max c k + 1 → c ≤ k + 1 → k ≤ c + 1 → x ≤ c → max k x ≤ y → part_cost c x + join_cost k x ≤ part_cost h y
rejoin_cost h c k x y e p q low least = omega arith

rejoin_room : (h c k x : ℕ) → h ≡ max c k + 1 → c ≤ k + 1 → k ≤ c + 1 → x ≤ c → part_cost c x + join_cost k x ≤ 4 * h + 1
rejoin_room h c k x e p q low = omega arith

rejoin_low : (h c k x y : ℕ) → h ≡ max c k + 1 → x ≤ c → y ≤ max k x + 1 → y ≤ h
rejoin_low h c k x y e low most = omega arith

-- a child can be cut where the tree can
module _ {V R : Type 0} {kind : _} {s : Store V R kind} {i l r : ℕ} (p : Partable s i) (e : Splits (arena_of s) i l r) where
  pub left_partable : Partable s l
  left_partable =
      let high = splits_high e in
      record { below = omega (arith, p.below, e.left); short = omega (arith, splits_size e, p.short); free = free_less _ (4 * height (tree_of s i) + 1) (omega arith) p.free }

  pub right_partable : Partable s r
  right_partable =
      let high = splits_high e in
      record { below = omega (arith, p.below, e.right); short = omega (arith, splits_size e, p.short); free = free_less _ (4 * height (tree_of s i) + 1) (omega arith) p.free }

-- a part of a child alone is one of the tree
lifted : {V R : Type 0} {kind : _} {s s' : Store V R kind} {x : ℕ} {t u : Tree} {bs cs : List ℕ} → height t < height u → bs ≡ cs → Parted s s' x t bs → Parted s s' x u cs
lifted h e q = record { takes = takes_within _ (omega arith) q.takes; below = q.below; text_is = q.text_is ∙ e; lower = omega (arith, q.lower) }

-- a front of a tree over l and r
module _ {V R : Type 0} {kind : _} {s : Store V R kind} {i l r : ℕ} (p : Partable s i) (e : Splits (arena_of s) i l r) (b : ℕ) where
  pub front_left : {s' : Store V R kind} {x : ℕ} → b ≤ size (tree_of s l) → Parted s s' x (tree_of s l) (take b (text (tree_of s l))) → Parted s s' x (tree_of s i) (take b (text (tree_of s i)))
  front_left h q =
      let high = splits_high e in
      lifted (omega arith) (sym (take-append-le b (text (tree_of s l)) (text (tree_of s r)) h) ∙ ap (λ (t : Tree). take b (text t)) (sym e.tree)) q

  module _ (n : ℕ) (long : n ≡ size (tree_of s l)) (past : n < b) {s1 : Store V R kind} {x : ℕ} (q : Parted s s1 x (tree_of s r) (take (b - n) (text (tree_of s r)))) where
    stays : Knows s1 l (tree_of s l)
    stays = knows_after q.takes (known (omega (arith, p.below, e.left)))

    part : Knows s1 x (tree_of s1 x)
    part = known q.below

    cost : apart (tree_of s l) (tree_of s1 x) ≡ apart (tree_of s1 l) (tree_of s1 x)
    cost = ap (λ (t : Tree). apart t (tree_of s1 x)) (sym stays.is)

    pub front_joinable : Joinable s1 l x (apart (tree_of s1 l) (tree_of s1 x))
    front_joinable =
        let room = rejoin_room (height (tree_of s i)) (height (tree_of s r)) (height (tree_of s l)) (height (tree_of s1 x)) (omega (arith, splits_high e)) e.right_near e.left_near q.lower in
        joinable_of stays part (subst (Free s1) cost (free_after _ (4 * height (tree_of s i) + 1) room p.free q.takes))
        (omega (arith, splits_size e, p.short, ap length q.text_is, length-take (b - n) (text (tree_of s r))))

    pub front_joined : {s2 : Store V R kind} {y : ℕ} → Joined s1 s2 y (tree_of s1 l) (tree_of s1 x) (apart (tree_of s1 l) (tree_of s1 x)) → Parted s s2 y (tree_of s i) (take b (text (tree_of s i)))
    front_joined {s2} {y} j =
        let k = joined_known stays part j in
        let tl = text (tree_of s l) in
        let tr = text (tree_of s r) in
        let at : length tl + (b - n) ≡ b = omega arith in
        let high = splits_high e in
        let most = rejoin_cost (height (tree_of s i)) (height (tree_of s r)) (height (tree_of s l)) (height (tree_of s1 x)) (height (tree_of s2 y)) (omega arith) e.right_near e.left_near q.lower k.least in
        record {
          takes = takes_within _ most (takes_trans q.takes (subst (Takes s1 s2) (sym cost) j.takes));
          below = j.below;
          text_is = k.text_is ∙ ap (λ ys. tl ++ ys) q.text_is ∙ sym (take-append-add tl tr (b - n)) ∙ ap (λ c. take c (tl ++ tr)) at ∙ ap (λ (t : Tree). take b (text t)) (sym e.tree);
          lower = rejoin_low (height (tree_of s i)) (height (tree_of s r)) (height (tree_of s l)) (height (tree_of s1 x)) (height (tree_of s2 y)) (omega arith) q.lower k.most;
        }

-- a back of a tree over l and r
module _ {V R : Type 0} {kind : _} {s : Store V R kind} {i l r : ℕ} (p : Partable s i) (e : Splits (arena_of s) i l r) (a : ℕ) where
  pub back_right : {s' : Store V R kind} {x : ℕ} (n : ℕ) → n ≡ size (tree_of s l) → n ≤ a → Parted s s' x (tree_of s r) (drop (a - n) (text (tree_of s r))) → Parted s s' x (tree_of s i) (drop a (text (tree_of s i)))
  back_right n long h q =
      let tl = text (tree_of s l) in
      let tr = text (tree_of s r) in
      let at : length tl + (a - n) ≡ a = omega arith in
      let high = splits_high e in
      lifted (omega arith) (sym (drop-append-add tl tr (a - n)) ∙ ap (λ c. drop c (tl ++ tr)) at ∙ ap (λ (t : Tree). drop a (text t)) (sym e.tree)) q

  module _ (h : a < size (tree_of s l)) {s1 : Store V R kind} {x : ℕ} (q : Parted s s1 x (tree_of s l) (drop a (text (tree_of s l)))) where
    rest : Knows s1 r (tree_of s r)
    rest = knows_after q.takes (known (omega (arith, p.below, e.right)))

    piece : Knows s1 x (tree_of s1 x)
    piece = known q.below

    price : apart (tree_of s r) (tree_of s1 x) ≡ apart (tree_of s1 x) (tree_of s1 r)
    price = apart_swap (tree_of s r) (tree_of s1 x) ∙ ap (apart (tree_of s1 x)) (sym rest.is)

    pub back_joinable : Joinable s1 x r (apart (tree_of s1 x) (tree_of s1 r))
    back_joinable =
        let room = rejoin_room (height (tree_of s i)) (height (tree_of s l)) (height (tree_of s r)) (height (tree_of s1 x)) (splits_high e) e.left_near e.right_near q.lower in
        joinable_of piece rest (subst (Free s1) price (free_after _ (4 * height (tree_of s i) + 1) room p.free q.takes))
        (omega (arith, splits_size e, p.short, ap length q.text_is, length-drop a (text (tree_of s l))))

    pub back_joined : {s2 : Store V R kind} {y : ℕ} → Joined s1 s2 y (tree_of s1 x) (tree_of s1 r) (apart (tree_of s1 x) (tree_of s1 r)) → Parted s s2 y (tree_of s i) (drop a (text (tree_of s i)))
    back_joined {s2} {y} j =
        let k = joined_known piece rest j in
        let tl = text (tree_of s l) in
        let tr = text (tree_of s r) in
        let most = rejoin_cost (height (tree_of s i)) (height (tree_of s l)) (height (tree_of s r)) (height (tree_of s1 x)) (height (tree_of s2 y)) (splits_high e) e.left_near e.right_near q.lower (omega (arith, k.least)) in
        record {
          takes = takes_within _ most (takes_trans q.takes (subst (Takes s1 s2) (sym price) j.takes));
          below = j.below;
          text_is = k.text_is ∙ ap (λ ys. ys ++ tr) q.text_is ∙ sym (drop-append-le a tl tr (omega arith)) ∙ ap (λ (t : Tree). drop a (text t)) (sym e.tree);
          lower = rejoin_low (height (tree_of s i)) (height (tree_of s l)) (height (tree_of s r)) (height (tree_of s1 x)) (height (tree_of s2 y)) (splits_high e) q.lower (omega (arith, k.most));
        }

pub whole : {V R : Type 0} {kind : _} {s : Store V R kind} {i : ℕ} {bs : List ℕ} → Partable s i → text (tree_of s i) ≡ bs → Parted s s i (tree_of s i) bs
whole {s} p e = record { takes = takes_within _ (omega arith) (takes_none s); below = p.below; text_is = e; lower = omega arith }

pub part_leaf : {V R : Type 0} {kind : _} {s s' : Store V R kind} {x : ℕ} {t : Tree} {us bs : List ℕ} → us ≡ bs → Pushed s s' x (leaf us) → Parted s s' x t bs
part_leaf e q =
    let h = ap height q.tree in
    record { takes = takes_within _ (omega arith) q.takes; below = omega (arith, q.at, q.one); text_is = ap text q.tree ∙ e; lower = omega arith }

pub front_whole : (b : ℕ) (xs : List ℕ) → b ≡ length xs → xs ≡ take b xs
front_whole b xs e = sym (take_all b xs (omega arith))

pub front_part : (xs : List ℕ) (start n b : ℕ) → b ≤ n → take b (drop start xs) ≡ take b (take n (drop start xs))
front_part xs start n b h = sym (take-take b n (drop start xs) h)

pub back_part : (xs : List ℕ) (start n a : ℕ) → a ≤ n → take (n - a) (drop (start + a) xs) ≡ drop a (take n (drop start xs))
back_part xs start n a h =
    let e : a + (n - a) ≡ n = omega arith in
    ap (take (n - a)) (sym (drop-drop a start xs)) ∙ sym (drop-take a (n - a) (drop start xs)) ∙ ap (λ k. drop a (take k (drop start xs))) e
