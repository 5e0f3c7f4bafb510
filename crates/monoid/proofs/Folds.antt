-- What the laws of a monoid give of its fold.
use Rattle.std.proofs.Common.{◌≡◌, ℕ, zero, suc, ◌+◌, ◌<◌, true, ltb, List, [], ◌∷◌, ◌++◌, length, get_or, take, drop, sym, refl, ap, ◌∙◌, arith}
use Rattle.std.proofs.lemmas.List.{take_more}
use Rattle.std.proofs.lemmas.Bool.{and_parts, and_from}
use Rattle.std.proofs.lemmas.Bool.Decides.{nat_tests}
use Rattle.monoid.specs.Monoid.{Model, Lawful, fold_from, fold_of, all_bytes}

module _ {V R : Type 0} (m : Model V R) where
  pub fold_onto : (x : V) (u v : List ℕ) → fold_from m x (u ++ v) ≡ fold_from m (fold_from m x u) v
  fold_onto x [] v = refl
  fold_onto x (k ∷ u) v = fold_onto (m.joined x (m.of_byte k)) u v

  -- one byte more
  pub fold_more : (x : V) (text : List ℕ) (i : ℕ) → i < length text
      → m.joined (fold_from m x (take i text)) (m.of_byte (get_or text i 0)) ≡ fold_from m x (take (i + 1) text)
  fold_more x text i h = sym (ap (fold_from m x) (take_more text i 0 h) ∙ fold_onto x (take i text) (get_or text i 0 ∷ []))

  module _ (l : Lawful m) where
    pub fold_joined : (x : V) (u : List ℕ) → fold_from m x u ≡ m.joined x (fold_of m u)
    fold_joined x [] = sym (l.right x)
    fold_joined x (k ∷ u) =
        let b = m.of_byte k in
        fold_joined (m.joined x b) u ∙ l.assoc x b (fold_of m u)
        ∙ ap (m.joined x) (ap (λ y. m.joined y (fold_of m u)) (sym (l.left b)) ∙ sym (fold_joined (m.joined m.empty b) u))

    -- the fold of two texts one after the other is the two folds joined
    pub fold_append : (u v : List ℕ) → fold_of m (u ++ v) ≡ m.joined (fold_of m u) (fold_of m v)
    fold_append u v = fold_onto m.empty u v ∙ fold_joined (fold_of m u) v

    -- a front u of what is still to come, w, is joined to what is there
    pub further : (x y f whole : V) (u v w : List ℕ) → w ≡ u ++ v → f ≡ fold_of m u → y ≡ m.joined x f → m.joined x (fold_of m w) ≡ whole → m.joined y (fold_of m v) ≡ whole
    further x y f whole u v w split is join all =
        ap (λ z. m.joined z (fold_of m v)) (join ∙ ap (m.joined x) is) ∙ l.assoc x (fold_of m u) (fold_of m v)
        ∙ ap (m.joined x) (sym (fold_append u v) ∙ ap (fold_of m) (sym split)) ∙ all

    pub joined_folds : {x y r : V} (u v : List ℕ) → x ≡ fold_of m u → y ≡ fold_of m v → r ≡ m.joined x y → r ≡ fold_of m (u ++ v)
    joined_folds {x} {y} {r} u v ex ey er = er ∙ ap (λ z. m.joined z y) ex ∙ ap (m.joined (fold_of m u)) ey ∙ sym (fold_append u v)

pub all_bytes_append : (u v : List ℕ) → all_bytes u ≡ true → all_bytes v ≡ true → all_bytes (u ++ v) ≡ true
all_bytes_append [] v hu hv = hv
all_bytes_append (k ∷ u) v hu hv = grind (arith, nat_tests, all_bytes_append u v)

pub all_bytes_by_place : (text : List ℕ) → ((i : ℕ) → get_or text i 0 < 256) → all_bytes text ≡ true
all_bytes_by_place [] h = refl
all_bytes_by_place (k ∷ ks) h =
    let first = h 0 in
    let rest = all_bytes_by_place ks (λ i. h (suc i)) in
    grind (arith, nat_tests)

pub all_bytes_more : (text : List ℕ) (i : ℕ) → i < length text → get_or text i 0 < 256 → all_bytes (take i text) ≡ true
    → all_bytes (take (i + 1) text) ≡ true
all_bytes_more text i h low all =
    ap all_bytes (take_more text i 0 h) ∙ all_bytes_append (take i text) (get_or text i 0 ∷ []) all (grind (arith, nat_tests))

pub all_bytes_take : (n : ℕ) (text : List ℕ) → all_bytes text ≡ true → all_bytes (take n text) ≡ true
all_bytes_take zero text h = refl
all_bytes_take (suc n) [] h = refl
all_bytes_take (suc n) (k ∷ ks) h = let p = and_parts (ltb k 256) (all_bytes ks) h in and_from _ _ p.0 (all_bytes_take n ks p.1)

pub all_bytes_drop : (n : ℕ) (text : List ℕ) → all_bytes text ≡ true → all_bytes (drop n text) ≡ true
all_bytes_drop zero text h = h
all_bytes_drop (suc n) [] h = refl
all_bytes_drop (suc n) (k ∷ ks) h = all_bytes_drop n ks (and_parts (ltb k 256) (all_bytes ks) h).1
