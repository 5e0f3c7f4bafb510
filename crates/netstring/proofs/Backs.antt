-- A netstring that was written is read as its content again.
use Rattle.std.proofs.Common.{◌≡◌, ℕ, ◌^◌, ◌<◌, ◌≤◌, List, ◌∷◌, ◌++◌, length, take, drop, decimal, sym, refl, ap, ◌∙◌, arith, length-append}
use Rattle.std.proofs.lemmas.List.{drop_at, take_at, length-drop}
use Rattle.netstring.specs.Netstring.{netstring, NetstringAt, NoNetstringAt}
use Rattle.netstring.proofs.Runs.{only_length}
use Rattle.netstring.proofs.Fronts.{parts, colon_no}
use Rattle.netstring.proofs.Puts.{long}

-- two netstrings at one front are one
pub same : (c d t u : List ℕ) → length c < 2 ^ 64 → length d < 2 ^ 64 → netstring c ++ t ≡ netstring d ++ u → (d ≡ c) × (u ≡ t)
same c d t u p q e =
    let f : decimal (length c) ++ (58 ∷ (c ++ (44 ∷ t))) ≡ decimal (length d) ++ (58 ∷ (d ++ (44 ∷ u))) = sym (parts c t) ∙ e ∙ parts d u in
    let o = only_length (length c) (length d) (58 ∷ (c ++ (44 ∷ t))) (58 ∷ (d ++ (44 ∷ u))) p q (colon_no (c ++ (44 ∷ t))) (colon_no (d ++ (44 ∷ u))) f in
    let g : d ++ (44 ∷ u) ≡ c ++ (44 ∷ t) = sym (ap (drop 1) o.1) in
    let b : 44 ∷ u ≡ 44 ∷ t = sym (drop_at d (44 ∷ u) (length c) o.0) ∙ ap (drop (length c)) g ∙ drop_at c (44 ∷ t) (length c) refl in
    (sym (take_at d (44 ∷ u) (length c) o.0) ∙ ap (take (length c)) g ∙ take_at c (44 ∷ t) (length c) refl, ap (drop 1) b)

-- what a writer of netstrings leaves is the content's netstring and no other's
pub reads_back : (c was is : List ℕ) (k : ℕ) → length was < 2 ^ 64 → k ≤ length was → k ≡ length (netstring c) → is ≡ netstring c ++ drop k was → NetstringAt is 0 c k
reads_back c was is k small fits len e =
    let after : drop k is ≡ drop k was = ap (drop k) e ∙ drop_at (netstring c) (drop k was) k (sym len) in
    let a = ap length e in
    let b = length-append (netstring c) (drop k was) in
    let f = length-drop k was in
    let l = long c in
    let only' : (d t : List ℕ) → is ≡ netstring d ++ t → (d ≡ c) × (t ≡ drop k is) = λ d t x.
    let y = ap length x in
    let z = length-append (netstring d) t in
    let m = long d in
    let o = same c d (drop k was) t (omega (arith, l)) (omega (arith, a, b, f, y, z, m)) (sym e ∙ x) in
    (o.0, o.1 ∙ sym after) in
    record { within = omega (arith, a, b); stands = e ∙ ap (λ (t : List ℕ). netstring c ++ t) (sym after); only = only' }

-- so a reader finds it,
pub found : (s c : List ℕ) (i j : ℕ) → NetstringAt s i c j → NoNetstringAt s i → ⊥
found s c i j h no' = no' c (drop j s) h.stands

-- and finds that content and that place behind it
pub read_again : (s c d : List ℕ) (i j k : ℕ) → NetstringAt s i c j → NetstringAt s i d k → (d ≡ c) × (k ≡ j)
read_again s c d i j k h g =
    let o = h.only d (drop k s) g.stands in
    let a = ap length o.1 in
    let x = length-drop j s in
    let y = length-drop k s in
    (o.0, omega (arith, a, x, y, h.within, g.within))
