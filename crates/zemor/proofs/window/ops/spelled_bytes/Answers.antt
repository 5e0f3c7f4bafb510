use Rattle.std.proofs.Common.{◌≡◌, ℕ, ◌+◌, ◌-◌, ◌/◌, ◌%◌, ◌≤◌, List, [], ◌∷◌, get_or, drop, sym, ap, ◌∙◌, div-one, arith}
use Rattle.zemor.specs.Bits.{digits_in}
use Rattle.zemor.proofs.Digits.{digits_drop}
use Rattle.zemor.proofs.window.ops.spelled_bytes.Goals as goal

last_five : (x : ℕ) → (x / 4294967296 % 256 ∷ x / 16777216 % 256 ∷ x / 65536 % 256 ∷ x / 256 % 256 ∷ x % 256 ∷ []) ≡ digits_in 256 x 5
last_five x = ap (λ k. x / 4294967296 % 256 ∷ x / 16777216 % 256 ∷ x / 65536 % 256 ∷ x / 256 % 256 ∷ k % 256 ∷ []) (sym (div-one x))

dropped : (x n : ℕ) → n ≤ 5 → drop (5 - n) (digits_in 256 x 5) ≡ digits_in 256 x n
dropped x n h = ap (λ k. drop (5 - n) (digits_in 256 x k)) (let t : 5 ≡ 5 - n + n = omega arith in t) ∙ digits_drop 256 (omega arith) x (5 - n) n

pub returns : goal.returns
returns c =
    let x = c.args.bits.word in
    let n = c.args.bits.len / 8 in
    let five = λ (w : List ℕ). get_or w 3 0 ∷ get_or w 4 0 ∷ get_or w 5 0 ∷ get_or w 6 0 ∷ get_or w 7 0 ∷ [] in
    ap (drop (5 - n)) (ap five c.to_be_bytes.ensures ∙ last_five x) ∙ dropped x n (omega arith)
