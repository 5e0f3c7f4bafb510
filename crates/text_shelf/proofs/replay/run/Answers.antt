use Rattle.std.proofs.Common.{◌≡◌, ℕ, [], get_or, take, refl, subst, arith}
use Rattle.std.proofs.lemmas.List.{drop-set-lt}
use Rattle.text_shelf.specs.Calls.{every_shelf}
use Rattle.text_shelf.specs.Shelves.{parts}
use Rattle.text_shelf.specs.Reaches.{Went, start}
use Rattle.text_shelf.specs.declared.call.Call.TheVariants.{Put}
use Rattle.text_shelf.proofs.Reaching.{more, went_next, spares_step}
use Rattle.text_shelf.proofs.Staying.{spares_none}
use Rattle.text_shelf.proofs.replay.run.Goals as goal

pub loop-i-init : goal.loop-i-init
loop-i-init g c = (start, refl, spares_none (parts c.args.shelf.now))

pub loop-i-preserved : goal.loop-i-preserved
loop-i-preserved g c =
    let calls = c.args.calls.now in
    let xs = c.loop-i.answers in
    let i = c.loop-i.i in
    let none = Put (record { ref_ptr = (0, 0); now = [] }) in (
      went_next every_shelf calls xs i none c.apply.result c.args.shelf.now c.loop-i.shelf c.apply.new.self (omega arith) (omega arith) c.loop-i.invariant.0 c.apply.ensures,
      rw (drop-set-lt c.min-n.result xs i c.apply.result c.loop-i-test.true) c.loop-i.invariant.1,
      spares_step every_shelf (parts c.args.shelf.now) c.loop-i.shelf c.apply.new.self (get_or calls i none) c.apply.result c.apply.ensures c.loop-i.invariant.2,
    )

pub returns : goal.returns
returns g c =
    let calls = c.args.calls.now in
    let xs = c.loop-i.answers in
    let n = c.min-n.result in
    let is : c.loop-i.i ≡ n = omega arith in
    let went : Went every_shelf c.args.shelf.now (take n calls) (take n xs) c.loop-i.shelf =
    subst (λ (k : ℕ). Went every_shelf c.args.shelf.now (take k calls) (take k xs) c.loop-i.shelf) is c.loop-i.invariant.0 in
    record {
      count = c.min-n.ensures;
      went = went;
      reaches = more went;
      behind = c.loop-i.invariant.1;
      spares = c.loop-i.invariant.2;
    }
