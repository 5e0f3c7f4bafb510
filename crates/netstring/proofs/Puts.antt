-- The netstring that lies in a buffer after its digits, its colon, the lent part and its comma are written.
use Rattle.std.proofs.Common.{◌≡◌, ℕ, ◌+◌, ◌-◌, ◌<◌, ◌≤◌, List, [], ◌∷◌, ◌++◌, length, take, drop, set, decimal, sym, refl, ap, ◌∙◌, append_assoc, append-nil, arith, length-append}
use borrow.Rule.Slice.PartMut.{put_mid}
use Rattle.std.proofs.lemmas.List.{take_rest, drop_all, drop-drop, drop_at, take_at, set_at, length-drop}
use Rattle.netstring.specs.Netstring.{netstring}
use Rattle.netstring.proofs.Fronts.{parts}

pub long : (c : List ℕ) → length (netstring c) ≡ length (decimal (length c)) + length c + 2
unfolding netstring
long c = omega (arith, length-append (decimal (length c)) (58 ∷ (c ++ (44 ∷ []))), length-append c (44 ∷ []))

-- a byte written behind p
written : (p s : List ℕ) (i b : ℕ) → i ≡ length p → 0 < length s → set (p ++ s) i b ≡ p ++ (b ∷ drop 1 s)
written p [] i b at some = absurd (omega arith)
written p (x ∷ s) i b at some = set_at p x s b i (sym at)

-- a text copied to the part of a buffer behind p
lent : (p r text b out : List ℕ) (n : ℕ) → b ≡ p ++ r → length p ≡ n → out ≡ text ++ drop (length text) (take (length b - n) (drop n b)) → put_mid n (length b - n) b out ≡ p ++ (text ++ drop (length text) r)
lent p r text b out n e len copied =
    let f : take n b ≡ p = ap (take n) e ∙ take_at p r n len in
    let g : drop n b ≡ r = ap (drop n) e ∙ drop_at p r n len in
    let o : out ≡ text ++ drop (length text) r = copied ∙ ap (λ (l : List ℕ). text ++ drop (length text) l) (take_rest b n ∙ g) in
    let z : drop (length b - n) (drop n b) ≡ [] = drop_all (length b - n) (drop n b) (omega (arith, length-drop n b)) in
    rw (f, z, append-nil, o) refl

pub assembled : (text buf b out : List ℕ) (k whole : ℕ) → k ≡ length (decimal (length text)) → whole ≡ length text + (k + 2) → whole ≤ length buf → b ≡ decimal (length text) ++ drop k buf → out ≡ text ++ drop (length text) (take (length (set b k 58) - (k + 1)) (drop (k + 1) (set b k 58))) → set (put_mid (k + 1) (length (set b k 58) - (k + 1)) (set b k 58) out) (whole - 1) 44 ≡ netstring text ++ drop whole buf
assembled text buf b out k whole len sum room digits copied =
    let d = decimal (length text) in
    let r = drop (k + 1) buf in
    let p = d ++ (58 ∷ []) in
    let plen : length p ≡ k + 1 = omega (arith, length-append d (58 ∷ [])) in
    let colon : set b k 58 ≡ p ++ r = ap (λ (l : List ℕ). set l k 58) digits ∙ written d (drop k buf) k 58 len (omega (arith, length-drop k buf)) ∙ ap (λ (l : List ℕ). d ++ (58 ∷ l)) (drop-drop 1 k buf) ∙ sym (append_assoc d (58 ∷ []) r) in
    let l = lent p r text (set b k 58) out (k + 1) colon plen copied in
    let at : whole - 1 ≡ length (p ++ text) = omega (arith, length-append p text) in
    let w = written (p ++ text) (drop (length text) r) (whole - 1) 44 at (omega (arith, length-drop (length text) r, length-drop (k + 1) buf)) in
    let j : k + 1 + (length text + 1) ≡ whole = omega arith in
    let t : drop 1 (drop (length text) r) ≡ drop whole buf = drop-drop 1 (length text) r ∙ drop-drop (length text + 1) (k + 1) buf ∙ ap (λ (n : ℕ). drop n buf) j in
    ap (λ (s : List ℕ). set s (whole - 1) 44) (l ∙ sym (append_assoc p text (drop (length text) r))) ∙ w ∙ ap (λ (s : List ℕ). (p ++ text) ++ (44 ∷ s)) t ∙ rw parts (simp append_assoc)
