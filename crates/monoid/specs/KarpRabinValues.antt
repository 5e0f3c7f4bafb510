-- The values of Karp and Rabin's fingerprint are the rows with each number below p, and w × v equal to 1 modulo p.
use Rattle.std.proofs.Common.{ap, ◌∙◌, mul_comm, lit<}
use Rattle.std.proofs.Math.Logic.Dec.{and}
use Rattle.std.specs.Prelude.{◌≡◌, ◌*◌, ◌%◌, ◌<◌, refl}
use Rattle.std.proofs.Math.Decide.{dec_lt, ℕ_discrete}
use Rattle.residue.specs.Residue.{prime}
use Rattle.residue.specs.Values.{residue}
use Rattle.residue.proofs.Modulo.{inverse_times}
use Rattle.residue.proofs.Bounds.{below_prime}
use Rattle.monoid.specs.Monoid.{Model, if_valid}
use Rattle.monoid.specs.KarpRabin as rows
use Rattle.monoid.specs.declared.karp_rabin.KarpRabin.{KarpRabin}
use Rattle.monoid.specs.declared.karp_rabin.KarpRabinRow.{KarpRabinRow}

abbrev pub row : KarpRabin → KarpRabinRow
row x = rows.hwv x.h.n x.w.n x.v.n

abbrev pub Valid : KarpRabinRow → Type 0
Valid r = ((r.h < prime) × (r.w < prime)) × ((r.v < prime) × ((r.w * r.v) % prime ≡ 1))

abbrev pub value : (r : KarpRabinRow) → Valid r → KarpRabin
value r valid = record {
  h = residue r.h valid.0.0;
  w = residue r.w valid.0.1;
  v = residue r.v valid.1.0;
  valid = valid.1.1;
}

-- a value's row meets the conditions
abbrev pub row_valid : (x : KarpRabin) → Valid (row x)
row_valid x = ((x.h.low, x.w.low), (x.v.low, x.valid))

pub valid_dec : (r : KarpRabinRow) → Dec (Valid r)
valid_dec r =
    and (and (dec_lt r.h prime) (dec_lt r.w prime))
    (and (dec_lt r.v prime) (ℕ_discrete ((r.w * r.v) % prime) 1))

pub joined_valid : (x y : KarpRabin) → Valid (rows.joined (row x) (row y))
joined_valid x y = (
  (below_prime _, below_prime _),
  (below_prime _, inverse_times prime x.w.n x.v.n y.w.n y.v.n x.valid y.valid),
)

pub inverse_valid : (x : KarpRabin) → Valid (rows.inverse (row x))
inverse_valid x = ((below_prime _, x.v.low), (x.w.low, ap (λ n. n % prime) (mul_comm x.v.n x.w.n) ∙ x.valid))

abbrev pub empty : KarpRabin
empty = value rows.empty ((lit< tt, lit< tt), (lit< tt, refl))

abbrev pub karp_rabin_model : Model KarpRabin KarpRabinRow
karp_rabin_model = record {
  empty = empty;
  of_byte = λ k. value (rows.of_byte k) ((below_prime _, lit< tt), (lit< tt, refl));
  joined = λ x y. value (rows.joined (row x) (row y)) (joined_valid x y);
  row = row;
  check_row = λ r. if_valid value r (valid_dec r);
  joined_rows = rows.joined;
}

abbrev pub inverse_of : KarpRabin → KarpRabin
inverse_of x = value (rows.inverse (row x)) (inverse_valid x)
