-- What two texts have in common at their ends is the same in both.
use Rattle.rope.specs.Edits.{spliced}
use Rattle.std.proofs.Common.{◌≡◌, ℕ, ◌+◌, ◌-◌, ◌≤◌, ◌==◌, cond, Bool, true, false, List, [], ◌∷◌, ◌++◌, reverse, length, take, drop, refl, sym, ap, ◌∙◌, subst, arith}
use Rattle.std.specs.List.{take_while, zip, between}
use Rattle.std.proofs.Math.Seq.{take-append_seam}
use Rattle.std.proofs.lemmas.Bool.{eqb-true}
use Rattle.std.proofs.lemmas.List.{take-append-drop, drop-drop, length-drop, length-reverse, reverse-append, reverse-reverse}
use Rattle.std.proofs.lemmas.List.Edits.{split_between}
use Rattle.std.proofs.lemmas.List.Sums.{take_while-cons}
use Rattle.compare.specs.Changes.{front_of, back_of}
use Rattle.compare.proofs.Runs.{back_le}

abbrev alike : ℕ × ℕ → Bool
alike p = p.0 == p.1

-- one byte more in front, by whether it is the same in both
one_more : (x y : ℕ) (a b : List ℕ) (rest : List (ℕ × ℕ)) (t : Bool) → (x == y) ≡ t → take (length rest) a ≡ take (length rest) b
    → take (length (cond t ((x, y) ∷ rest) [])) (x ∷ a) ≡ take (length (cond t ((x, y) ∷ rest) [])) (y ∷ b)
one_more x y a b rest true h e = λ i. eqb-true x y h i ∷ e i
one_more x y a b rest false h e = refl

pub front_same : (a b : List ℕ) → take (front_of a b) a ≡ take (front_of a b) b
front_same [] [] = refl
front_same [] (y ∷ b) = refl
front_same (x ∷ a) [] = refl
front_same (x ∷ a) (y ∷ b) =
    subst (λ z. take (length z) (x ∷ a) ≡ take (length z) (y ∷ b)) (sym (take_while-cons alike (x, y) (zip a b)))
    (one_more x y a b (take_while alike (zip a b)) (x == y) refl (front_same a b))

-- the last k of a text, turned
turned : (k : ℕ) (a : List ℕ) → k ≤ length a → take k (reverse a) ≡ reverse (drop (length a - k) a)
turned k a h =
    let n = length a - k in
    let parts : reverse a ≡ reverse (drop n a) ++ reverse (take n a) = ap reverse (sym (take-append-drop n a)) ∙ reverse-append (take n a) (drop n a) in
    let long : k ≡ length (reverse (drop n a)) = omega (arith, length-reverse (drop n a), length-drop n a, h) in
    (λ i. take (long i) (parts i)) ∙ take-append_seam (reverse (drop n a)) (reverse (take n a))

pub back_same : (a b : List ℕ) → drop (length a - back_of a b) a ≡ drop (length b - back_of a b) b
back_same a b =
    let k = back_of a b in
    let le = back_le a b in
    sym (reverse-reverse (drop (length a - k) a))
    ∙ ap reverse (sym (turned k a le.0) ∙ front_same (reverse a) (reverse b) ∙ turned k b le.1)
    ∙ reverse-reverse (drop (length b - k) b)

-- a text ends, from the place `to` on, as its rest behind `from` does
rest : (a : List ℕ) (from to k : ℕ) → to + k ≡ length a → from ≤ to → drop to a ≡ drop (length (drop from a) - k) (drop from a)
rest a from to k e h =
    let at : to ≡ from + (length (drop from a) - k) = omega (arith, length-drop from a, e, h) in
    ap (λ n. drop n a) at ∙ sym (drop-drop (length (drop from a) - k) from a)

-- with the part between in the place of the old one, the old text is the new one
pub replaced : (old new : List ℕ) (from to upto : ℕ) → from ≡ front_of old new
    → to + back_of (drop from old) (drop from new) ≡ length old → upto + back_of (drop from old) (drop from new) ≡ length new → from ≤ to → from ≤ upto
    → new ≡ spliced old from to (between from upto new)
replaced old new from to upto first o n h k =
    let back = back_of (drop from old) (drop from new) in
    let front : take from new ≡ take from old = ap (λ i. take i new) first ∙ sym (front_same old new) ∙ ap (λ i. take i old) (sym first) in
    let behind : drop upto new ≡ drop to old = rest new from upto back n k ∙ sym (back_same (drop from old) (drop from new)) ∙ sym (rest old from to back o h) in
    split_between new from upto k ∙ (λ i. front i ++ (between from upto new ++ behind i))
