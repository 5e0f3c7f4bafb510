use Rattle.std.proofs.Common.{[], ◌∷◌, decimal, sym, ◌∙◌, arith}
use Rattle.decimal.proofs.Steps.{one, two, three, four, five, written}
use Rattle.decimal.proofs.write.Goals as goal

pub returns-in-0-to-9 : goal.returns-in-0-to-9
returns-in-0-to-9 c =
    written (decimal c.args.n) (c.ones.result ∷ []) c.args.out.now c.write_start.new.out c.write_start.result
    ((λ i. c.ones.ensures i ∷ []) ∙ sym (one c.args.n (omega arith))) c.write_start.ensures

pub returns-in-10-to-99 : goal.returns-in-10-to-99
returns-in-10-to-99 c =
    written (decimal c.args.n) (c.ones-in-10-to-99.result ∷ c.ones-in-10-to-99-2.result ∷ []) c.args.out.now c.write_start-in-10-to-99.new.out c.write_start-in-10-to-99.result
    ((λ i. c.ones-in-10-to-99.ensures i ∷ c.ones-in-10-to-99-2.ensures i ∷ []) ∙ sym (two c.args.n (omega arith) (omega arith))) c.write_start-in-10-to-99.ensures

pub returns-in-100-to-999 : goal.returns-in-100-to-999
returns-in-100-to-999 c =
    written (decimal c.args.n) (c.ones-in-100-to-999.result ∷ c.ones-in-100-to-999-2.result ∷ c.ones-in-100-to-999-3.result ∷ []) c.args.out.now c.write_start-in-100-to-999.new.out c.write_start-in-100-to-999.result
    ((λ i. c.ones-in-100-to-999.ensures i ∷ c.ones-in-100-to-999-2.ensures i ∷ c.ones-in-100-to-999-3.ensures i ∷ []) ∙ sym (three c.args.n (omega arith) (omega arith))) c.write_start-in-100-to-999.ensures

pub returns-in-1000-to-9999 : goal.returns-in-1000-to-9999
returns-in-1000-to-9999 c =
    written (decimal c.args.n) (c.ones-in-1000-to-9999.result ∷ c.ones-in-1000-to-9999-2.result ∷ c.ones-in-1000-to-9999-3.result ∷ c.ones-in-1000-to-9999-4.result ∷ []) c.args.out.now c.write_start-in-1000-to-9999.new.out c.write_start-in-1000-to-9999.result
    ((λ i. c.ones-in-1000-to-9999.ensures i ∷ c.ones-in-1000-to-9999-2.ensures i ∷ c.ones-in-1000-to-9999-3.ensures i ∷ c.ones-in-1000-to-9999-4.ensures i ∷ []) ∙ sym (four c.args.n (omega arith) (omega arith))) c.write_start-in-1000-to-9999.ensures

pub returns-in-10000-to-99999 : goal.returns-in-10000-to-99999
returns-in-10000-to-99999 c =
    written (decimal c.args.n) (c.ones-in-10000-to-99999.result ∷ c.ones-in-10000-to-99999-2.result ∷ c.ones-in-10000-to-99999-3.result ∷ c.ones-in-10000-to-99999-4.result ∷ c.ones-in-10000-to-99999-5.result ∷ []) c.args.out.now
    c.write_start-in-10000-to-99999.new.out c.write_start-in-10000-to-99999.result ((λ i. c.ones-in-10000-to-99999.ensures i ∷ c.ones-in-10000-to-99999-2.ensures i ∷ c.ones-in-10000-to-99999-3.ensures i ∷ c.ones-in-10000-to-99999-4.ensures i ∷ c.ones-in-10000-to-99999-5.ensures i ∷ []) ∙ sym (five c.args.n (omega arith) (omega arith)))
    c.write_start-in-10000-to-99999.ensures
