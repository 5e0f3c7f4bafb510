-- The trees of more records, and of more text.
use Rattle.std.proofs.Common.{◌≡◌, ℕ, zero, suc, ◌-◌, ◌<◌, ◌≤◌, min, true, List, [], ◌∷◌, ◌++◌, map, length, get_or, take, drop, sym, refl, ap, ◌∙◌, inl, inr, append_assoc, append-nil, arith, length-drop, length-take}
use lib.ListN
use Rattle.std.proofs.lemmas.Bool.{and_parts, and_from, cases_lt}
use Rattle.std.proofs.lemmas.List.{drop-append-le, take-append-le, get_or-map}
use Rattle.rope.specs.Tree.{Tree, leaf, size, lawful, all_lawful}
use Rattle.rope.specs.Arena.{shaped, grown}
use Rattle.rope.specs.declared.record.Record.{Record}
use Rattle.rope.specs.declared.record.Shape.{Shape}
use Rattle.rope.specs.declared.record.Shape.TheVariants.{Leaf, Inner}
use Rattle.rope.specs.declared.record.Origin.TheVariants.{Build, Added}

module _ {R : Type 0} (build added : List ℕ) where
  pub grown_append : (before : List Tree) (rs more : List (Record R))
      → grown build added before (rs ++ more) ≡ grown build added before rs ++ grown build added (before ++ grown build added before rs) more
  grown_append before [] more = ap (λ b. grown build added b more) (sym (append-nil before))
  grown_append before (x ∷ xs) more =
      let t : Tree = shaped build added before x.length x.shape in
      let g : List Tree = grown build added (before ++ (t ∷ [])) xs in
      ap (λ (ts : List Tree). t ∷ ts) (grown_append (before ++ (t ∷ [])) xs more ∙ ap (λ (b : List Tree). g ++ grown build added b more) (append_assoc before (t ∷ []) g))

  pub length_grown : (before : List Tree) (rs : List (Record R)) → length (grown build added before rs) ≡ length rs
  length_grown before [] = refl
  length_grown before (x ∷ xs) = ap suc (length_grown (before ++ (shaped build added before x.length x.shape ∷ [])) xs)

  pub grown_at : (before : List Tree) (rs : List (Record R)) (i : ℕ) (d : Record R) (e : Tree) → i < length rs
      → get_or (grown build added before rs) i e ≡ shaped build added (before ++ take i (grown build added before rs)) (get_or rs i d).length (get_or rs i d).shape
  grown_at before [] i d e h = absurd (omega arith)
  grown_at before (x ∷ xs) zero d e h = ap (λ b. shaped build added b x.length x.shape) (sym (append-nil before))
  grown_at before (x ∷ xs) (suc i) d e h =
      let t : Tree = shaped build added before x.length x.shape in
      let ts : List Tree = grown build added (before ++ (t ∷ [])) xs in
      grown_at (before ++ (t ∷ [])) xs i d e (omega arith)
      ∙ ap (λ (b : List Tree). shaped build added b (get_or xs i d).length (get_or xs i d).shape) (append_assoc before (t ∷ []) (take i ts))

part_more : (xs ys : List ℕ) (start n : ℕ) → n ≡ length (take n (drop start xs)) → take n (drop start (xs ++ ys)) ≡ take n (drop start xs)
part_more xs ys start n e =
    let long : n ≡ min n (length xs - start) = e ∙ length-take n (drop start xs) ∙ ap (min n) (length-drop start xs) in
    elim (cases_lt start (length xs)) [
      | inl k ↦
          let inside : n ≤ length (drop start xs) = simp length-drop (omega arith) in
          ap (take n) (drop-append-le start xs ys (omega arith)) ∙ take-append-le n (drop start xs) ys inside
      | inr k ↦
          let none : n ≡ 0 = omega arith in
          ap (λ i. take i (drop start (xs ++ ys))) none ∙ ap (λ i. take i (drop start xs)) (sym none)
    ]

shaped_more : (build added more : List ℕ) (before : List Tree) (n : ℕ) (sh : Shape) → n ≡ size (shaped build added before n sh)
    → shaped build (added ++ more) before n sh ≡ shaped build added before n sh
shaped_more build added more before n (Leaf Build start) e = refl
shaped_more build added more before n (Leaf Added start) e = ap leaf (part_more added more start n e)
shaped_more build added more before n (Inner l r) e = refl

-- text that is added behind leaves every tree, where each record's length is its tree's
pub grown_more : {R : Type 0} (build added more : List ℕ) (before : List Tree) (rs : List (Record R))
    → map (λ r. r.length) rs ≡ map size (grown build added before rs) → grown build (added ++ more) before rs ≡ grown build added before rs
grown_more build added more before [] e = refl
grown_more build added more before (x ∷ xs) e =
    let t : Tree = shaped build added before x.length x.shape in
    let u : Tree = shaped build (added ++ more) before x.length x.shape in
    let same : u ≡ t = shaped_more build added more before x.length x.shape (ap (λ l. get_or l 0 0) e) in
    ap (λ (y : Tree). y ∷ grown build (added ++ more) (before ++ (y ∷ [])) xs) same
    ∙ ap (λ ys. t ∷ ys) (grown_more build added more (before ++ (t ∷ [])) xs (ap (λ l. drop 1 l) e))

pub all_lawful_push : (ts : List Tree) (t : Tree) → all_lawful ts ≡ true → lawful t ≡ true → all_lawful (ts ++ (t ∷ [])) ≡ true
all_lawful_push [] t h k = and_from (lawful t) true k refl
all_lawful_push (x ∷ xs) t h k =
    let p = and_parts (lawful x) (all_lawful xs) h in
    and_from (lawful x) (all_lawful (xs ++ (t ∷ []))) p.0 (all_lawful_push xs t p.1 k)

pub all_lawful_at : (ts : List Tree) (i : ℕ) (d : Tree) → all_lawful ts ≡ true → i < length ts → lawful (get_or ts i d) ≡ true
all_lawful_at [] i d h k = absurd (omega arith)
all_lawful_at (x ∷ xs) zero d h k = (and_parts (lawful x) (all_lawful xs) h).0
all_lawful_at (x ∷ xs) (suc i) d h k = all_lawful_at xs i d (and_parts (lawful x) (all_lawful xs) h).1 (omega arith)

pub map_at : {X Y A : Type 0} (f : X → A) (g : Y → A) (xs : List X) (ys : List Y) (i : ℕ) (d : X) (e : Y)
    → map f xs ≡ map g ys → i < length ys → f (get_or xs i d) ≡ g (get_or ys i e)
map_at f g xs ys i d e h k = sym (ListN.get_or-map f xs i d) ∙ ap (λ zs. get_or zs i (f d)) h ∙ get_or-map g ys i e (f d) k
