-- Lengths of decimal numbers, and the digits of short ones.
use Rattle.std.proofs.Common.{◌≡◌, ℕ, zero, suc, ◌+◌, ◌*◌, ◌/◌, ◌%◌, ◌^◌, ◌<◌, ◌≤◌, List, Option, Some, None, MatchOption, Result, [], ◌∷◌, ◌++◌, length, decimal, sym, ap, ◌∙◌, subst, arith, length-append}
use Rattle.std.specs.Option.{IfNone, IfSome}
use Rattle.refusal.specs.Writing.{Writes, of_room}
use Rattle.refusal.specs.declared.Refusal.{Refusal}
use Rattle.std.proofs.lemmas.Fmt.{decimal_step, decimal_digit}

longer : (n : ℕ) → 10 ≤ n → n < 2 ^ 64 → length (decimal n) ≡ length (decimal (n / 10)) + 1
longer n h s = ap length (decimal_step n h s) ∙ length-append (decimal (n / 10)) ((48 + n % 10) ∷ [])

-- the number of digits, by the power of ten below the number
long : (k n : ℕ) → 10 ^ k ≤ n → n < 10 * 10 ^ k → n < 2 ^ 64 → length (decimal n) ≡ k + 1
long zero n h l s = ap length (decimal_digit n (omega arith))
long (suc k) n h l s = omega (arith, longer n (omega arith) s, long k (n / 10) (omega arith) (omega arith) (omega arith))

-- that power as the logarithm tells it, with none of 0
pub counted : {P : ℕ → Type 0} (n c : ℕ) (log : Option ℕ) → n < 2 ^ 64 → IfNone log (n ≡ 0) → IfSome log (λ k. 10 ^ k ≤ n) → IfSome log (λ k. n < 10 * 10 ^ k) → MatchOption log (c ≡ 1) P → ((k : ℕ) → P k → c ≡ k + 1) → c ≡ length (decimal n)
counted n c None s z h l e f = e ∙ sym (ap length (decimal_digit n (omega arith)))
counted n c (Some k) s z h l e f = f k e ∙ sym (long k n h l s)

-- the digits of short numbers, each the ones of the number without those behind it
pub one : (n : ℕ) → n < 10 → decimal n ≡ (48 + n % 10) ∷ []
one n h = let same : n ≡ n % 10 = omega arith in decimal_digit n h ∙ ap (λ k. (48 + k) ∷ []) same

more : (n : ℕ) (ds : List ℕ) → 10 ≤ n → n < 2 ^ 64 → decimal (n / 10) ≡ ds → decimal n ≡ ds ++ ((48 + n % 10) ∷ [])
more n ds h s is = decimal_step n h s ∙ ap (λ front. front ++ ((48 + n % 10) ∷ [])) is

pub two : (n : ℕ) → 10 ≤ n → n < 100 → decimal n ≡ (48 + n / 10 % 10) ∷ (48 + n % 10) ∷ []
two n l h = more n ((48 + n / 10 % 10) ∷ []) l (omega arith) (one (n / 10) (omega arith))

pub three : (n : ℕ) → 100 ≤ n → n < 1000 → decimal n ≡ (48 + n / 10 / 10 % 10) ∷ (48 + n / 10 % 10) ∷ (48 + n % 10) ∷ []
three n l h = more n ((48 + n / 10 / 10 % 10) ∷ (48 + n / 10 % 10) ∷ []) (omega arith) (omega arith) (two (n / 10) (omega arith) (omega arith))

pub four : (n : ℕ) → 1000 ≤ n → n < 10000 → decimal n ≡ (48 + n / 10 / 10 / 10 % 10) ∷ (48 + n / 10 / 10 % 10) ∷ (48 + n / 10 % 10) ∷ (48 + n % 10) ∷ []
four n l h = more n ((48 + n / 10 / 10 / 10 % 10) ∷ (48 + n / 10 / 10 % 10) ∷ (48 + n / 10 % 10) ∷ []) (omega arith) (omega arith) (three (n / 10) (omega arith) (omega arith))

pub five : (n : ℕ) → 10000 ≤ n → n < 100000
    → decimal n ≡ (48 + n / 10 / 10 / 10 / 10 % 10) ∷ (48 + n / 10 / 10 / 10 % 10) ∷ (48 + n / 10 / 10 % 10) ∷ (48 + n / 10 % 10) ∷ (48 + n % 10) ∷ []
five n l h =
    more n ((48 + n / 10 / 10 / 10 / 10 % 10) ∷ (48 + n / 10 / 10 / 10 % 10) ∷ (48 + n / 10 / 10 % 10) ∷ (48 + n / 10 % 10) ∷ []) (omega arith) (omega arith)
    (four (n / 10) (omega arith) (omega arith))

-- what is written of other digits than those of a number, where they are the same
pub written : (ds ws old new : List ℕ) (r : Result ℕ Refusal) → ws ≡ ds → Writes (of_room (length ws) (length old)) ws old new r → Writes (of_room (length ds) (length old)) ds old new r
written ds ws old new r is w = subst (λ xs. Writes (of_room (length xs) (length old)) xs old new r) is w
