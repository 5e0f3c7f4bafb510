-- What a netstring at a place says of the text from there.
use Rattle.std.proofs.Common.{◌≡◌, ℕ, ◌+◌, ◌-◌, ◌<◌, ◌≤◌, List, ◌∷◌, ◌++◌, length, take, drop, decimal, sym, refl, ap, ◌∙◌, append_assoc, arith, length-append, take-append-drop}
use Rattle.std.proofs.lemmas.List.{drop-drop, drop_at, take_at, length-take-le, length-drop}
use Rattle.netstring.specs.Netstring.{netstring, Run, NoRun, NoDigit, NetstringAt}

pub parts : (c t : List ℕ) → netstring c ++ t ≡ decimal (length c) ++ (58 ∷ (c ++ (44 ∷ t)))
unfolding netstring
parts c t = simp append_assoc

pub colon_no : (z : List ℕ) → NoDigit (58 ∷ z)
colon_no z h = omega (arith, h.1)

-- a content and its comma are shorter than the text that they stand in
pub shorter : (s c t : List ℕ) → s ≡ netstring c ++ t → length c + 1 < length s
shorter s c t e = omega (arith, ap length (e ∙ parts c t), length-append (decimal (length c)) (58 ∷ (c ++ (44 ∷ t))), length-append c (44 ∷ t))

-- what stands before a netstring, if no number does, and behind the number
pub no_run : (s : List ℕ) → NoRun s (length s) → (c t : List ℕ) → s ≡ netstring c ++ t → ⊥
no_run s h c t e = h (length c) (58 ∷ (c ++ (44 ∷ t))) (omega (arith, shorter s c t e)) (colon_no (c ++ (44 ∷ t))) (e ∙ parts c t)

pub behind_run : (s rest : List ℕ) (n : ℕ) → Run s (length s) n rest → (c t : List ℕ) → s ≡ netstring c ++ t → (length c ≡ n) × (rest ≡ 58 ∷ (c ++ (44 ∷ t)))
behind_run s rest n h c t e = h.only (length c) (58 ∷ (c ++ (44 ∷ t))) (omega (arith, shorter s c t e)) (colon_no (c ++ (44 ∷ t))) (e ∙ parts c t)

-- what is cut from behind the colon
pub cut : (rest more c t : List ℕ) (n : ℕ) → more ≡ drop 1 rest → (length c ≡ n) × (rest ≡ 58 ∷ (c ++ (44 ∷ t))) → (take n more ≡ c) × (drop n more ≡ 44 ∷ t)
cut rest more c t n m o =
    let e = m ∙ ap (drop 1) o.1 in
    (ap (take n) e ∙ take_at c (44 ∷ t) n o.0, ap (drop n) e ∙ drop_at c (44 ∷ t) n o.0)

-- where a text ends with q, q is what stands at its place there
pub suffix : (s p q : List ℕ) (i : ℕ) → i ≤ length s → drop i s ≡ p ++ q → drop (length s - length q) s ≡ q
suffix s p q i h e =
    let j : length s - length q ≡ i + length p = omega (arith, ap length e, length-append p q, length-drop i s) in
    ap (λ (n : ℕ). drop n s) j ∙ sym (drop-drop (length p) i s) ∙ ap (drop (length p)) e ∙ drop_at p q (length p) refl

-- a number, a colon, as many bytes and a comma
pub stands_there : (s here rest more behind : List ℕ) (i n : ℕ) → i ≤ length s → here ≡ drop i s → Run here (length here) n rest → rest ≡ 58 ∷ more → more ≡ drop 1 rest → n ≤ length more → drop n more ≡ 44 ∷ behind → NetstringAt s i (take n more) (length s - length behind)
stands_there s here rest more behind i n at is run colon m fits comma =
    let len = length-take-le n more fits in
    let q : drop i s ≡ netstring (take n more) ++ behind = sym is ∙ run.begins ∙ ap (λ (l : List ℕ). decimal n ++ l) (colon ∙ ap (λ (l : List ℕ). 58 ∷ l) (sym (take-append-drop n more) ∙ ap (λ (l : List ℕ). take n more ++ l) comma)) ∙ sym (parts (take n more) behind ∙ ap (λ (x : ℕ). decimal x ++ (58 ∷ (take n more ++ (44 ∷ behind)))) len) in
    let after = suffix s (netstring (take n more)) behind i at q in
    record {
      within = omega arith;
      stands = q ∙ ap (λ (t : List ℕ). netstring (take n more) ++ t) (sym after);
      only = λ d t x. (let o = cut rest more d t n m (behind_run here rest n run d t (is ∙ x)) in
          (sym o.0, ap (drop 1) (sym o.1 ∙ comma) ∙ sym after));
    }
