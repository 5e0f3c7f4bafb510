-- Runs of decimal digits at the front of a text.
use Rattle.std.proofs.Common.{◌≡◌, ℕ, zero, suc, ◌+◌, ◌-◌, ◌*◌, ◌/◌, ◌%◌, ◌^◌, ◌<◌, ◌≤◌, Bool, true, false, MatchOption, List, [], ◌∷◌, ◌++◌, length, get_or, take, drop, decimal, sym, refl, ap, ◌∙◌, subst, append_assoc, append-nil, leb, arith}
use Rattle.std.specs.Bool.{then_some}
use Rattle.std.specs.Borrow.{Bor}
use Rattle.std.specs.Int.{IsInRange}
use Rattle.std.specs.Str.Parse.{AllDigits, digits_value}
use Rattle.std.proofs.lemmas.Bool.Decides.{leb_tells}
use Rattle.std.proofs.lemmas.Fmt.{decimal_is_IsNumeral_wide, decimal_step_wide, first_decimal, decimal_digit, decimal_nonempty}
use Rattle.std.proofs.lemmas.List.{append_cancel_left, get_or_append_left}
use Rattle.std.proofs.lemmas.Slice.{first_rest}
use Rattle.std.proofs.lemmas.Str.Parse.{tells_digits, digit_at, digits_value-take-le}
use Rattle.netstring.specs.declared.read.TheConstants.{MOST_NUMBER}
use Rattle.netstring.specs.Netstring.{Run, NoRun, NoDigit, NoNumber}

-- a run of digits before no digit begins with each run of digits at that front
begins_with : (ds es rest z : List ℕ) → AllDigits 10 ds → AllDigits 10 es → NoDigit z → ds ++ rest ≡ es ++ z → ds ≡ take (length ds) es
begins_with [] es rest z h k nz e = refl
begins_with (d ∷ ds) [] rest z h k nz e = absurd (nz (subst (λ (l : List ℕ). IsInRange 48 57 (get_or l 0 0)) e (tells_digits.parts d ds h).0))
begins_with (d ∷ ds) (x ∷ es) rest z h k nz e =
    let q : ds ++ rest ≡ es ++ z = cc in
    let r = begins_with ds es rest z h.1 k.1 nz q in
    cc

-- so a number before no digit is no less than any number at that front,
number_le : (n m : ℕ) (rest z : List ℕ) → n < 10 ^ 64 → m < 10 ^ 64 → NoDigit z → decimal n ++ rest ≡ decimal m ++ z → n ≤ m
number_le n m rest z p q nz e =
    let a = decimal_is_IsNumeral_wide n p in
    let b = decimal_is_IsNumeral_wide m q in
    let f = begins_with (decimal n) (decimal m) rest z a.0.1 b.0.1 nz e in
    omega (arith, a.1, b.1, ap (digits_value 10) f, digits_value-take-le 10 (decimal m) (length (decimal n)) (omega arith))

-- and two numbers before no digit are one, with what lies behind
pub only_length : (n m : ℕ) (rest z : List ℕ) → n < 2 ^ 64 → m < 2 ^ 64 → NoDigit rest → NoDigit z → decimal n ++ rest ≡ decimal m ++ z → (m ≡ n) × (rest ≡ z)
only_length n m rest z p q no' nz e =
    let a : m ≡ n = omega (arith, number_le n m rest z (omega arith) (omega arith) nz e, number_le m n z rest (omega arith) (omega arith) no' (sym e)) in
    (a, append_cancel_left (decimal n) rest z (e ∙ ap (λ (x : ℕ). decimal x ++ z) a))

-- a number above the limit begins no number up to it
pub above : (s rest : List ℕ) (n limit : ℕ) → s ≡ decimal n ++ rest → n < 10 ^ 64 → limit < n → NoRun s limit
above s rest n limit e p big m z le nz is = omega (arith, number_le n m rest z p (omega arith) nz (sym e ∙ is))

-- no number: the front is no digit
pub no_length : (s : List ℕ) (limit : ℕ) → limit < 2 ^ 64 → NoDigit s → NoRun s limit
no_length s limit small no' m z le nz e =
    let a = (decimal_is_IsNumeral_wide m (omega arith)).0 in
    no' (subst (IsInRange 48 57) (sym (ap (λ (l : List ℕ). get_or l 0 0) e ∙ get_or_append_left (decimal m) z 0 0 a.0)) (digit_at (decimal m) 0 a.1 a.0))

-- a byte of 48 or more at the front is there
pub some_from : (xs : List ℕ) → 48 ≤ get_or xs 0 0 → 0 < length xs
some_from [] h = absurd (omega arith)
some_from (x ∷ xs) h = omega arith

-- the digit at the front of s, and what lies behind it
pub starts : (s : List ℕ) → 48 ≤ get_or s 0 0 → get_or s 0 0 ≤ 57 → s ≡ decimal (get_or s 0 0 - 48) ++ take (length s - 1) (drop 1 s)
starts s lo hi =
    let k : get_or s 0 0 ≡ 48 + (get_or s 0 0 - 48) = omega arith in
    rw (decimal_digit (get_or s 0 0 - 48) (omega arith)) (first_rest s 0 (some_from s lo) ∙ ap (λ (x : ℕ). x ∷ take (length s - 1) (drop 1 s)) k)

-- the number that begins with 0 is 0
pub zero_is : (s : List ℕ) (limit : ℕ) → limit < 2 ^ 64 → get_or s 0 0 ≡ 48 → Run s limit 0 (take (length s - 1) (drop 1 s))
zero_is s limit small z =
    let t = take (length s - 1) (drop 1 s) in
    let d : get_or s 0 0 - 48 ≡ 0 = omega arith in
    let f : s ≡ decimal 0 ++ t = starts s (omega arith) (omega arith) ∙ ap (λ (x : ℕ). decimal x ++ t) d in
    record { begins = f; within = omega arith; only = λ m y le nz e. only' m y (omega arith) e (sym f ∙ e) }
  where
    only' : (m : ℕ) (y : List ℕ) → m < 2 ^ 64 → s ≡ decimal m ++ y → decimal 0 ++ take (length s - 1) (drop 1 s) ≡ decimal m ++ y → (m ≡ 0) × (take (length s - 1) (drop 1 s) ≡ y)
    only' zero y q e g = (refl, append_cancel_left (decimal 0) (take (length s - 1) (drop 1 s)) y g)
    only' (suc m) y q e g = absurd (omega (arith, z, ap (λ (l : List ℕ). get_or l 0 0) e, get_or_append_left (decimal (suc m)) y 0 0 (decimal_nonempty (suc m) q), first_decimal (suc m) (omega arith) q))

-- one digit more
pub steps : (s rest : List ℕ) (n : ℕ) → s ≡ decimal n ++ rest → 0 < n → n < 2 ^ 64 → 48 ≤ get_or rest 0 0 → get_or rest 0 0 ≤ 57 → s ≡ decimal (n * 10 + (get_or rest 0 0 - 48)) ++ take (length rest - 1) (drop 1 rest)
steps s rest n e some small lo hi =
    let N = n * 10 + (get_or rest 0 0 - 48) in
    let t = take (length rest - 1) (drop 1 rest) in
    let q : N / 10 ≡ n = omega arith in
    let r : 48 + N % 10 ≡ get_or rest 0 0 = omega arith in
    let f = first_rest rest 0 (some_from rest lo) in
    rw (decimal_step_wide N (omega arith) (omega arith), q, r, append_assoc) (e ∙ ap (λ (l : List ℕ). decimal n ++ l) f)

-- where the digits end, the number is told if it is within the limit
pub ends : (s : List ℕ) (rest : Bor (List ℕ)) (n limit : ℕ) → s ≡ decimal n ++ rest.now → n < 2 ^ 64 → limit < 2 ^ 64 → NoDigit rest.now → MatchOption {T = ℕ × Bor (List ℕ)} (then_some (leb n limit) (n, rest)) (NoRun s limit) (λ p. Run s limit p.0 p.1.now)
ends s rest n limit e p q no' = by (leb n limit) refl
  where
    by : (b : Bool) → leb n limit ≡ b → MatchOption {T = ℕ × Bor (List ℕ)} (then_some b (n, rest)) (NoRun s limit) (λ p. Run s limit p.0 p.1.now)
    by true h = record { begins = e; within = grind (arith, leb_tells n limit); only = λ m z le nz g. only_length n m rest.now z p (omega arith) no' nz (sym e ∙ g) }
    by false h = above s rest.now n limit e (omega arith) (grind (arith, leb_tells n limit))

nil_no : NoDigit []
nil_no h = omega (arith, h.0)

-- what no run, or a run with more behind it, says of the whole text
pub number_none : (s : List ℕ) → NoRun s MOST_NUMBER → NoNumber s
number_none s r n k = r n [] k.0 nil_no (k.1 ∙ sym (append-nil (decimal n)))

pub number_more : (s rest : List ℕ) (n : ℕ) → Run s MOST_NUMBER n rest → 0 < length rest → NoNumber s
number_more s rest n r h m k =
    let o = r.only m [] k.0 nil_no (k.1 ∙ sym (append-nil (decimal m))) in
    omega (arith, ap length o.1)
