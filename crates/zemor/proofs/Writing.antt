-- The written forms, read and written.
use Rattle.std.proofs.Common.{◌≡◌, ℕ, zero, suc, ◌+◌, ◌*◌, ◌/◌, ◌%◌, ◌<◌, ◌≤◌, Bool, true, false, cond, ◌&&◌, eqb, ltb, inl, inr, List, [], ◌∷◌, ◌++◌, length, get_or, take, drop, Some, None, Option, Result, Ok, Err, sym, refl, ap, ◌∙◌, mod-eq_of_lt, arith}
use Rattle.std.specs.Prelude.{slice_index}
use Rattle.std.specs.Char.{is_ascii_uppercase}
use Rattle.std.specs.List.{list_any, AllPass}
use Rattle.std.specs.Result.{result_ok}
use Rattle.std.specs.Option.{ok_or}
use Rattle.refusal.specs.declared.Refusal.{Refusal}
use Rattle.refusal.specs.declared.Refusal.TheVariants.{BadFingerprint}
use Rattle.std.specs.Int.Digits.{number_from_digits, AllBelowBase}
use Rattle.std.proofs.lemmas.List.{take_all, take-append-drop, drop-drop, length-take-le, length-drop}
use Rattle.std.proofs.lemmas.List.Elements.{All-head, All-tail}
use Rattle.std.proofs.lemmas.Bool.{and_parts, and_from, cases_lt, eqb-true}
use Rattle.std.proofs.lemmas.Bool.Decides.{nat_tests as by_tests}
use Rattle.std.specs.Simd.{first_chunks}
use Rattle.std.specs.Str.{IsAscii, IsUtf8}
use Rattle.std.proofs.lemmas.Str.{IsUtf8-from_ascii}
use Rattle.std.proofs.lemmas.Str.Ascii.{IsAscii-nil, IsAscii-cons}
use Rattle.hex.specs.Hex.{lower_digits, encode_with, encode_lower, decode_pairs, decode_sized, hex_digit_value, is_hex_digit, digit_or_error, value_at, pair_value}
use Rattle.hex.specs.declared.error.FromHexError.{FromHexError}
use Rattle.hex.proofs.Pairs.{cons_byte, decode_pairs-ok_pair}
use Rattle.hex.proofs.HexLemmas.{decode_of-even, decode_sized-twice, IsOk-decode_sized}
use Rattle.residue.specs.Residue.{prime}
use Rattle.monoid.specs.Monoid.{all_bytes}
use Rattle.monoid.proofs.Folds.{all_bytes_append, all_bytes_take, all_bytes_drop}
use Rattle.zemor.specs.Bits.{digits_in}
use Rattle.zemor.specs.Values.{sl2, row}
use Rattle.zemor.specs.Written.{bytes_of, entries_of, hex_digit, hex_value, is_hex, all_hex, hex, unhex, read_bytes, read_hex, WellFormed, ReadBytes, ReadHex, Decoded}
use Rattle.zemor.specs.declared.matrix.Entries.{Entries}
use Rattle.zemor.specs.declared.matrix.Sl2.{Sl2}
use Rattle.zemor.proofs.Digits.{number_digits, digits_number}
use Rattle.zemor.specs.Laws.{four, like, back, exact, none_invalid}
use Rattle.zemor.proofs.Windowing.{all_bytes_in}

-- four bytes of a number below p write it
number_back : (n : ℕ) → n < prime → number_from_digits 256 (digits_in 256 n 4) ≡ n
number_back n h = number_digits 256 (omega arith) n 4 ∙ mod-eq_of_lt (omega arith)

pub entries_back : (x : Sl2) → entries_of (bytes_of (row x)) ≡ row x
entries_back x =
    four (entries_of (bytes_of (row x))) (row x)
    (number_back x.a.n x.a.low) (number_back x.b.n x.b.low) (number_back x.c.n x.c.low) (number_back x.d.n x.d.low)

under_bytes : (bs : List ℕ) → all_bytes bs ≡ true → AllBelowBase 256 bs
under_bytes [] h = tt
under_bytes (k ∷ ks) h = let low : k < 256 = grind (arith, by_tests) in (low, under_bytes ks (and_parts (ltb k 256) (all_bytes ks) h).1)

-- numbers that are all bytes, by their places
pub bytes_by_place : (bs : List ℕ) → ((i : ℕ) → get_or bs i 0 < 256) → all_bytes bs ≡ true
bytes_by_place [] h = refl
bytes_by_place (k ∷ ks) h = and_from (ltb k 256) (all_bytes ks) (let low = h 0 in grind (arith, by_tests)) (bytes_by_place ks (λ i. h (suc i)))

-- four bytes again from the number that they write
chunk_back : (bs : List ℕ) (n : ℕ) → n + 4 ≤ length bs → all_bytes bs ≡ true → digits_in 256 (number_from_digits 256 (take 4 (drop n bs))) 4 ≡ take 4 (drop n bs)
chunk_back bs n h all =
    let ds = take 4 (drop n bs) in
    let four_long : length ds ≡ 4 = length-take-le 4 (drop n bs) (simp length-drop (omega arith)) in
    ap (digits_in 256 (number_from_digits 256 ds)) (sym four_long) ∙ digits_number 256 (omega arith) ds (under_bytes ds (all_bytes_take 4 (drop n bs) (all_bytes_drop n bs all)))

-- a list of sixteen is its four quarters
quarters : (bs : List ℕ) → length bs ≡ 16 → take 4 bs ++ (take 4 (drop 4 bs) ++ (take 4 (drop 8 bs) ++ take 4 (drop 12 bs))) ≡ bs
quarters bs h =
    let next : (n : ℕ) → take 4 (drop n bs) ++ drop (n + 4) bs ≡ drop n bs =
    λ n. ap (λ t. take 4 (drop n bs) ++ t) (sym (drop-drop 4 n bs)) ∙ take-append-drop 4 (drop n bs) in
    ap (λ t. take 4 bs ++ (take 4 (drop 4 bs) ++ (take 4 (drop 8 bs) ++ t))) (take_all 4 (drop 12 bs) (simp length-drop (omega arith)))
    ∙ ap (λ t. take 4 bs ++ (take 4 (drop 4 bs) ++ t)) (next 8) ∙ ap (λ t. take 4 bs ++ t) (next 4) ∙ take-append-drop 4 bs

-- sixteen bytes again from the entries that they write
pub bytes_back : (bs : List ℕ) → length bs ≡ 16 → all_bytes bs ≡ true → bytes_of (entries_of bs) ≡ bs
bytes_back bs h all =
    let q : (n : ℕ) → n + 4 ≤ length bs → digits_in 256 (number_from_digits 256 (take 4 (drop n bs))) 4 ≡ take 4 (drop n bs) = λ n k. chunk_back bs n k all in
    let q0 = q 0 (omega arith) in
    let q4 = q 4 (omega arith) in
    let q8 = q 8 (omega arith) in
    let q12 = q 12 (omega arith) in
    (λ i. q0 i ++ (q4 i ++ (q8 i ++ q12 i))) ∙ quarters bs h

-- the numbers that sixteen bytes write, read four bytes at a time
abbrev number_of : List ℕ → ℕ
number_of xs = slice_index xs 0 * 16777216 + slice_index xs 1 * 65536 + slice_index xs 2 * 256 + slice_index xs 3

number_is : (xs : List ℕ) → length xs ≡ 4 → number_of xs ≡ number_from_digits 256 xs
number_is [] h = absurd (omega arith)
number_is (a ∷ []) h = absurd (omega arith)
number_is (a ∷ b ∷ []) h = absurd (omega arith)
number_is (a ∷ b ∷ c ∷ []) h = absurd (omega arith)
number_is (a ∷ b ∷ c ∷ d ∷ []) h = omega arith
number_is (a ∷ b ∷ c ∷ d ∷ e ∷ xs) h = absurd (omega arith)

pub entries_read : (bs : List ℕ) (chunks : List (List ℕ)) (e : Entries) → length bs ≡ 16 → chunks ≡ first_chunks 4 (length bs / 4) bs
    → e.a ≡ number_of (get_or chunks 0 []) → e.b ≡ number_of (get_or chunks 1 []) → e.c ≡ number_of (get_or chunks 2 []) → e.d ≡ number_of (get_or chunks 3 [])
    → e ≡ entries_of bs
entries_read bs chunks e h is ea eb ec ed =
    let d8 : drop 4 (drop 4 bs) ≡ drop 8 bs = drop-drop 4 4 bs in
    let d12 : drop 4 (drop 4 (drop 4 bs)) ≡ drop 12 bs = drop-drop 4 4 (drop 4 bs) ∙ drop-drop 8 4 bs in
    let four_of : chunks ≡ (take 4 bs ∷ take 4 (drop 4 bs) ∷ take 4 (drop 8 bs) ∷ take 4 (drop 12 bs) ∷ []) =
    is ∙ ap (λ k. first_chunks 4 (k / 4) bs) h ∙ (λ i. take 4 bs ∷ take 4 (drop 4 bs) ∷ take 4 (d8 i) ∷ take 4 (d12 i) ∷ []) in
    let number : (n : ℕ) → n + 4 ≤ length bs → number_of (take 4 (drop n bs)) ≡ number_from_digits 256 (take 4 (drop n bs)) =
    λ n l. number_is (take 4 (drop n bs)) (length-take-le 4 (drop n bs) (simp length-drop (omega arith))) in
    four e (entries_of bs)
    (ea ∙ ap (λ xs. number_of (get_or xs 0 [])) four_of ∙ number 0 (omega arith))
    (eb ∙ ap (λ xs. number_of (get_or xs 1 [])) four_of ∙ number 4 (omega arith))
    (ec ∙ ap (λ xs. number_of (get_or xs 2 [])) four_of ∙ number 8 (omega arith))
    (ed ∙ ap (λ xs. number_of (get_or xs 3 [])) four_of ∙ number 12 (omega arith))

pub all_bytes_of : (e : Entries) → all_bytes (bytes_of e) ≡ true
all_bytes_of e =
    let q = λ (x : ℕ). digits_in 256 x 4 in
    let all = λ (x : ℕ). all_bytes_in x 4 in
    all_bytes_append (q e.a) (q e.b ++ (q e.c ++ q e.d)) (all e.a)
    (all_bytes_append (q e.b) (q e.c ++ q e.d) (all e.b) (all_bytes_append (q e.c) (q e.d) (all e.c) (all e.d)))

-- a value's bytes are read as it
pub bytes_read : (x : Sl2) (bs : List ℕ) → bs ≡ bytes_of (row x) → read_bytes bs ≡ Some x
bytes_read x bs e = ap read_bytes e ∙ ap sl2.check_row (entries_back x) ∙ back x

-- what is read of sixteen bytes writes them again
pub bytes_again : (bs : List ℕ) (o : Option Sl2) → length bs ≡ 16 → all_bytes bs ≡ true → o ≡ read_bytes bs → ReadBytes bs (ok_or o BadFingerprint)
bytes_again bs (Some x) h all is = let r = exact (entries_of bs) x (sym is) in (r, ap bytes_of r ∙ bytes_back bs h all)
bytes_again bs None h all is = (refl, none_invalid (entries_of bs) (sym is))

digit_back : (k : ℕ) → k < 16 → hex_value (hex_digit k) ≡ k
digit_back k h = grind (arith, by_tests)

digit_is : (k : ℕ) → k < 16 → is_hex (hex_digit k) ≡ true
digit_is k h = grind (arith, by_tests)

value_back : (c : ℕ) → is_hex c ≡ true → hex_digit (hex_value c) ≡ c
value_back c h = grind (arith, by_tests)

value_low : (c : ℕ) → is_hex c ≡ true → hex_value c < 16
value_low c h = grind (arith, by_tests)

pub unhex_hex : (bs : List ℕ) → all_bytes bs ≡ true → unhex (hex bs) ≡ bs
unhex_hex [] h = refl
unhex_hex (k ∷ ks) h =
    let low : k < 256 = grind (arith, by_tests) in
    ap (λ n. n ∷ unhex (hex ks))
    (ap (λ m. 16 * m + hex_value (hex_digit (k % 16))) (digit_back (k / 16) (omega arith)) ∙ ap (λ m. 16 * (k / 16) + m) (digit_back (k % 16) (omega arith)) ∙ omega arith)
    ∙ ap (λ t. k ∷ t) (unhex_hex ks (and_parts (ltb k 256) (all_bytes ks) h).1)

pub hex_all : (bs : List ℕ) → all_bytes bs ≡ true → all_hex (hex bs) ≡ true
hex_all [] h = refl
hex_all (k ∷ ks) h =
    let low : k < 256 = grind (arith, by_tests) in
    and_from _ _ (digit_is (k / 16) (omega arith)) (and_from _ _ (digit_is (k % 16) (omega arith)) (hex_all ks (and_parts (ltb k 256) (all_bytes ks) h).1))

pub length_hex : (bs : List ℕ) → length (hex bs) ≡ 2 * length bs
length_hex [] = refl
length_hex (k ∷ ks) = let h = length_hex ks in omega arith

pub hex_unhex : (n : ℕ) (text : List ℕ) → length text ≡ 2 * n → all_hex text ≡ true → hex (unhex text) ≡ text
hex_unhex zero [] h all = refl
hex_unhex zero (c ∷ cs) h all = absurd (omega arith)
hex_unhex (suc n) [] h all = absurd (omega arith)
hex_unhex (suc n) (c ∷ []) h all = absurd (omega arith)
hex_unhex (suc n) (c ∷ (d ∷ cs)) h all =
    let hc = (and_parts (is_hex c) (is_hex d && all_hex cs) all).0 in
    let rest = (and_parts (is_hex c) (is_hex d && all_hex cs) all).1 in
    let hd = (and_parts (is_hex d) (all_hex cs) rest).0 in
    let lc = value_low c hc in
    let ld = value_low d hd in
    let high : (16 * hex_value c + hex_value d) / 16 ≡ hex_value c = omega arith in
    let low : (16 * hex_value c + hex_value d) % 16 ≡ hex_value d = omega arith in
    ap (λ k. hex_digit k ∷ hex_digit ((16 * hex_value c + hex_value d) % 16) ∷ hex (unhex cs)) high
    ∙ ap (λ k. hex_digit (hex_value c) ∷ hex_digit k ∷ hex (unhex cs)) low
    ∙ ap (λ k. k ∷ hex_digit (hex_value d) ∷ hex (unhex cs)) (value_back c hc)
    ∙ ap (λ k. c ∷ k ∷ hex (unhex cs)) (value_back d hd)
    ∙ ap (λ t. c ∷ d ∷ t) (hex_unhex n cs (omega arith) (and_parts (is_hex d) (all_hex cs) rest).1)

-- the digits that the library writes
same_digits : ℕ → Bool
same_digits zero = true
same_digits (suc n) = eqb (slice_index lower_digits n) (hex_digit n) && same_digits n

same_below : (n k : ℕ) → same_digits n ≡ true → k < n → slice_index lower_digits k ≡ hex_digit k
unfolding same_digits
same_below zero k h low = absurd (omega arith)
same_below (suc n) k h low =
    let parts = and_parts (eqb (slice_index lower_digits n) (hex_digit n)) (same_digits n) h in
    elim (cases_lt k n) [
      | inl below ↦ same_below n k parts.1 below
      | inr top ↦ let e : k ≡ n = omega arith in rw e (eqb-true _ _ parts.0)
    ]

lower_digit : (k : ℕ) → k < 16 → slice_index lower_digits k ≡ hex_digit k
unfolding same_digits
lower_digit k h = same_below 16 k refl h

pub encoded : (bs : List ℕ) → all_bytes bs ≡ true → encode_lower bs ≡ hex bs
unfolding encode_with
encoded [] h = refl
encoded (k ∷ ks) h =
    let low : k < 256 = grind (arith, by_tests) in
    let x = lower_digit (k / 16) (omega arith) in
    let y = lower_digit (k % 16) (omega arith) in
    let rest = encoded ks (and_parts (ltb k 256) (all_bytes ks) h).1 in
    λ i. x i ∷ y i ∷ rest i

-- what the library reads
digit_read : (c : ℕ) → is_hex c ≡ true → hex_digit_value c ≡ Some (hex_value c)
digit_read c h = grind (arith, by_tests)

pairs_read : (i n : ℕ) (text : List ℕ) → length text ≡ 2 * n → all_hex text ≡ true → decode_pairs i text ≡ Ok (unhex text)
unfolding decode_pairs
pairs_read i zero [] h all = refl
pairs_read i zero (c ∷ cs) h all = absurd (omega arith)
pairs_read i (suc n) [] h all = absurd (omega arith)
pairs_read i (suc n) (c ∷ []) h all = absurd (omega arith)
pairs_read i (suc n) (c ∷ (d ∷ cs)) h all =
    let first = and_parts (is_hex c) (is_hex d && all_hex cs) all in
    let second = and_parts (is_hex d) (all_hex cs) first.1 in
    let high : value_at c i ≡ Ok (hex_value c) = ap (digit_or_error c i) (digit_read c first.0) in
    let low : value_at d (i + 1) ≡ Ok (hex_value d) = ap (digit_or_error d (i + 1)) (digit_read d second.0) in
    let pair : pair_value c d i ≡ Ok (hex_value c * 16 + hex_value d) = rw (high, low) refl in
    let byte : hex_value c * 16 + hex_value d ≡ 16 * hex_value c + hex_value d = omega arith in
    decode_pairs-ok_pair i c d _ cs pair ∙ ap (cons_byte (hex_value c * 16 + hex_value d)) (pairs_read (i + 2) n cs (omega arith) second.1)
    ∙ ap (λ (v : ℕ). Ok (v ∷ unhex cs)) byte

lower_or_upper : (c : ℕ) → is_hex_digit c ≡ true → is_ascii_uppercase c ≡ false → is_hex c ≡ true
lower_or_upper c h none = grind (arith, by_tests)

all_lower : (text : List ℕ) → AllPass is_hex_digit text → list_any is_ascii_uppercase text ≡ false → all_hex text ≡ true
all_lower [] all none = refl
all_lower (c ∷ cs) all none =
    let first : is_ascii_uppercase c ≡ false = grind (arith, by_tests) in
    let rest : list_any is_ascii_uppercase cs ≡ false = grind (arith, by_tests) in
    and_from (is_hex c) (all_hex cs) (lower_or_upper c (All-head (λ d. is_hex_digit d ≡ true) c cs all) first)
    (all_lower cs (All-tail (λ d. is_hex_digit d ≡ true) c cs all) rest)

pub no_upper : (text : List ℕ) → all_hex text ≡ true → list_any is_ascii_uppercase text ≡ false
no_upper [] all = refl
no_upper (c ∷ cs) all =
    let parts = and_parts (is_hex c) (all_hex cs) all in
    let digit = parts.0 in
    let first : is_ascii_uppercase c ≡ false = grind (arith, by_tests) in
    rw first (no_upper cs parts.1)

text_read : (text : List ℕ) → length text ≡ 32 → all_hex text ≡ true → decode_sized text 16 ≡ Ok (unhex text)
text_read text h all = decode_sized-twice text 16 h ∙ decode_of-even text (omega arith) ∙ pairs_read 0 16 text h all

pub decoded : (text : List ℕ) (r : Result (List ℕ) FromHexError) → r ≡ decode_sized text 16 → list_any is_ascii_uppercase text ≡ false → Decoded text (ok_or (result_ok r) BadFingerprint)
decoded text (Ok bs) is none =
    let found = (IsOk-decode_sized text 16).0 (rw (sym is) refl) in
    let all = all_lower text found.1 none in
    let same : ◌≡◌ {A = Result (List ℕ) FromHexError} (Ok bs) (Ok (unhex text)) = is ∙ text_read text found.0 all in
    (found.0, all, cc same)
decoded text (Err e) is none = (refl, λ h. let same = is ∙ text_read text h.0 h.1 in cc same)

-- 32 digits are read by their bytes, and no other text is
digits_read : (text : List ℕ) → length text ≡ 32 → all_hex text ≡ true → read_hex text ≡ read_bytes (unhex text)
digits_read text h all = rw (h, all) refl

none_where : (b : Bool) (o : Option Sl2) → ¬ (b ≡ true) → None ≡ cond b o None
none_where true o n = absurd (n refl)
none_where false o n = refl

pub others_unread : (text : List ℕ) → ¬ ((length text ≡ 32) × (all_hex text ≡ true)) → None ≡ read_hex text
others_unread text n =
    none_where (eqb (length text) 32 && all_hex text) (read_bytes (unhex text))
    (λ e. let p = and_parts (eqb (length text) 32) (all_hex text) e in n (eqb-true _ _ p.0, p.1))

pub hex_read : (text bs : List ℕ) → Decoded text (Ok bs) → read_bytes bs ≡ read_hex text
hex_read text bs d = ap read_bytes d.2 ∙ sym (digits_read text d.0 d.1)

-- a value's digits are well formed, and are read as it
pub hex_back : (x : Sl2) → WellFormed (hex (bytes_of (row x))) × (read_hex (hex (bytes_of (row x))) ≡ Some x)
hex_back x =
    let bs = bytes_of (row x) in
    let all = all_bytes_of (row x) in
    let same : unhex (hex bs) ≡ bs = unhex_hex bs all in (
      (length_hex bs, (hex_all bs all, like x (entries_of (unhex (hex bs))) (ap entries_of same ∙ entries_back x))),
      digits_read (hex bs) (length_hex bs) (hex_all bs all) ∙ bytes_read x (unhex (hex bs)) same,
    )

-- what is read of a text writes it again
pub hex_again : (text bs : List ℕ) (o : Result Sl2 Refusal) → Decoded text (Ok bs) → ReadBytes bs o → ReadHex text o
hex_again text bs (Ok x) d r =
    let is : row x ≡ entries_of (unhex text) = r.0 ∙ ap entries_of d.2 in (
      (d.0, (d.1, like x (entries_of (unhex text)) (sym is))),
      is,
      ap hex (r.1 ∙ d.2) ∙ hex_unhex 16 text d.0 d.1,
    )
hex_again text bs (Err e) d r = (r.0, λ w. r.1 (rw d.2 w.1.1))

digit_ascii : (k : ℕ) → k < 16 → hex_digit k < 128
digit_ascii k h = grind (arith, by_tests)

hex_ascii : (bs : List ℕ) → all_bytes bs ≡ true → IsAscii (hex bs)
hex_ascii [] h = IsAscii-nil
hex_ascii (k ∷ ks) h =
    let low : k < 256 = grind (arith, by_tests) in
    IsAscii-cons _ (hex_digit (k % 16) ∷ hex ks) (digit_ascii (k / 16) (omega arith)) (IsAscii-cons _ (hex ks) (digit_ascii (k % 16) (omega arith)) (hex_ascii ks (and_parts (ltb k 256) (all_bytes ks) h).1))

pub hex_text : (x : Sl2) → IsUtf8 (hex (bytes_of (row x)))
hex_text x = IsUtf8-from_ascii _ (hex_ascii (bytes_of (row x)) (all_bytes_of (row x)))
