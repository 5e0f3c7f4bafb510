-- Parts of slices.
use Rattle.std.proofs.Common.{◌≡◌, ℕ, ◌+◌, ◌-◌, ◌≤◌, List, ltb, [], length, take, drop, None, sym, ap, ◌∙◌, arith}
use Rattle.std.proofs.lemmas.Bool.{ltb-false, or_parts}
use Rattle.std.proofs.lemmas.Bool.Decides.{nat_tests}
use Rattle.std.proofs.lemmas.List.{drop-drop, take-take}
use Rattle.std.proofs.lemmas.List.Edits.{length-between}
use Rattle.std.proofs.lemmas.Slice.{between_is}
use Rattle.std.specs.List.{between}
use Rattle.refusal.specs.declared.Refusal.TheVariants.{BadPart}
use Rattle.refusal.proofs.Firsts.{passed}
use Rattle.rope_read.specs.Texts.{bad_part, of_bounds}

-- a part of the part f to t
pub part_of_part : (xs : List ℕ) (f t a b : ℕ) → b ≤ t - f → between (f + a) (f + b) xs ≡ between a b (between f t xs)
part_of_part xs f t a b h =
    let rest = drop f xs in
    ap (λ n. take n (drop (f + a) xs)) (let e : f + b - (f + a) ≡ b - a = omega arith in e)
    ∙ ap (take (b - a)) (sym (drop-drop a f xs)) ∙ between_is rest a b
    ∙ ap (drop a) (sym (take-take b (t - f) rest h)) ∙ sym (between_is (take (t - f) rest) a b)

-- what stands before a place of the part f to t, and what stands behind it
pub before_of_part : (xs : List ℕ) (f t a : ℕ) → a ≤ t - f → between f (f + a) xs ≡ between 0 a (between f t xs)
before_of_part xs f t a h = ap (λ n. between n (f + a) xs) (let e : f ≡ f + 0 = omega arith in e) ∙ part_of_part xs f t 0 a h

pub behind_of_part : (xs : List ℕ) (f t b : ℕ) → f ≤ t → t ≤ length xs → b ≤ t - f → between (f + b) t xs ≡ between b (length (between f t xs)) (between f t xs)
behind_of_part xs f t b h k w =
    ap (λ n. between (f + b) n xs) (let e : t ≡ f + (t - f) = omega arith in e)
    ∙ part_of_part xs f t b (t - f) (omega arith) ∙ ap (λ n. between b n (between f t xs)) (sym (length-between xs f t k))

pub lawful_bounds : (text : List ℕ) (a b : ℕ) → a ≤ b → b ≤ length text → of_bounds text a b ≡ None
lawful_bounds text a b h k = grind (arith, nat_tests)

pub bounds_lawful : (text : List ℕ) (a b : ℕ) → of_bounds text a b ≡ None → (a ≤ b) × (b ≤ length text)
bounds_lawful text a b h =
    let p = passed (bad_part text a b) BadPart [] h in
    let q = or_parts (ltb b a) (ltb (length text) b) p.0 in
    (ltb-false _ _ q.0, ltb-false _ _ q.1)
