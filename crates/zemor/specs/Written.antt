-- The written forms of a fingerprint.
use Rattle.std.specs.Prelude.{◌≡◌, ℕ, ◌+◌, ◌-◌, ◌*◌, ◌/◌, ◌%◌, Bool, true, cond, ◌&&◌, ◌||◌, ◌==◌, List, [], ◌∷◌, ◌++◌, length, take, drop, None, Ok, Err, Option, Result, nat_le, nat_lt}
use Rattle.std.specs.Int.Digits.{number_from_digits}
use Rattle.refusal.specs.declared.Refusal.{Refusal}
use Rattle.refusal.specs.declared.Refusal.TheVariants.{BadFingerprint}
use Rattle.zemor.specs.Matrix.{matrix}
use Rattle.zemor.specs.Bits.{digits_in}
use Rattle.zemor.specs.Values.{sl2, row, Valid}
use Rattle.zemor.specs.declared.matrix.Entries.{Entries}
use Rattle.zemor.specs.declared.matrix.Sl2.{Sl2}

-- a, b, c and d, each as four bytes, the highest first
abbrev pub bytes_of : Entries → List ℕ
bytes_of e = digits_in 256 e.a 4 ++ (digits_in 256 e.b 4 ++ (digits_in 256 e.c 4 ++ digits_in 256 e.d 4))

-- the four numbers that sixteen bytes write
abbrev pub entries_of : List ℕ → Entries
entries_of bs =
    matrix (number_from_digits 256 (take 4 bs)) (number_from_digits 256 (take 4 (drop 4 bs)))
    (number_from_digits 256 (take 4 (drop 8 bs))) (number_from_digits 256 (take 4 (drop 12 bs)))

-- the digits 0 to 9 and a to f
abbrev pub hex_digit : ℕ → ℕ
hex_digit k = cond (nat_lt k 10) (48 + k) (87 + k)

abbrev pub is_hex : ℕ → Bool
is_hex c = (nat_le 48 c && nat_le c 57) || (nat_le 97 c && nat_le c 102)

abbrev pub hex_value : ℕ → ℕ
hex_value c = cond (nat_lt c 58) (c - 48) (c - 87)

abbrev pub all_hex : List ℕ → Bool
all_hex [] = true
all_hex (c ∷ cs) = is_hex c && all_hex cs

-- two digits for each byte
abbrev pub hex : List ℕ → List ℕ
hex [] = []
hex (k ∷ ks) = hex_digit (k / 16) ∷ hex_digit (k % 16) ∷ hex ks

-- a byte for each two digits
abbrev pub unhex : List ℕ → List ℕ
unhex [] = []
unhex (c ∷ []) = []
unhex (c ∷ (d ∷ cs)) = (16 * hex_value c + hex_value d) ∷ unhex cs

-- the value that sixteen bytes write, if they write one
abbrev pub read_bytes : List ℕ → Option Sl2
read_bytes bs = sl2.check_row (entries_of bs)

-- the value that 32 lower-case hexadecimal digits write, if the text is such digits and they write one
abbrev pub read_hex : List ℕ → Option Sl2
read_hex text = cond (length text == 32 && all_hex text) (read_bytes (unhex text)) None

-- 32 lower-case hexadecimal digits, of entries below p with a × d - b × c equal to 1 modulo p
abbrev pub WellFormed : List ℕ → Type 0
WellFormed text = (length text ≡ 32) × ((all_hex text ≡ true) × Valid (entries_of (unhex text)))

-- the value that the bytes write, which writes them again; or they write no value
abbrev pub ReadBytes : List ℕ → Result Sl2 Refusal → Type 0
ReadBytes bs (Ok x) = (row x ≡ entries_of bs) × (bytes_of (row x) ≡ bs)
ReadBytes bs (Err e) = (e ≡ BadFingerprint) × ¬ (Valid (entries_of bs))

-- the value that a well-formed text writes, which writes it again; or the text is not well formed
abbrev pub ReadHex : List ℕ → Result Sl2 Refusal → Type 0
ReadHex text (Ok x) = WellFormed text × (row x ≡ entries_of (unhex text)) × (hex (bytes_of (row x)) ≡ text)
ReadHex text (Err e) = (e ≡ BadFingerprint) × ¬ (WellFormed text)

-- the bytes that 32 digits write, if they are digits
abbrev pub Decoded : List ℕ → Result (List ℕ) Refusal → Type 0
Decoded text (Ok bs) = (length text ≡ 32) × (all_hex text ≡ true) × (bs ≡ unhex text)
Decoded text (Err e) = (e ≡ BadFingerprint) × ¬ ((length text ≡ 32) × (all_hex text ≡ true))
