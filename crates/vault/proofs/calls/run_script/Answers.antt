use Rattle.std.proofs.Common.{refl, arith}
use Rattle.vault.proofs.Running.{runs}
use Rattle.vault.proofs.calls.run_script.Goals as goal

pub returns : goal.returns
returns c =
    runs c.args.script.now c.args.out.now c.run_into.new.out (record { shelf = c.new.result }) (record { shelf = c.run_into.new.shelf }) c.run_into.result (omega arith)
    (record { added = _; records = _; places = _; fresh = c.new.ensures; added_bytes = refl; free_records = refl; free_places = refl }) c.run_into.ensures
