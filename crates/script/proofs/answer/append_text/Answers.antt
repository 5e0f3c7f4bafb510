use Rattle.std.proofs.Common.{◌-◌, ◌≤◌, length, take, drop, arith}
use Rattle.std.proofs.lemmas.List.{length-drop, length-take-le}
use Rattle.refusal.proofs.Room.{long_enough}
use Rattle.rope_read.specs.Texts.{bytes_in}
use Rattle.script.proofs.Writing.{lent, accepted}
use Rattle.script.proofs.answer.append_text.Goals as goal

pub unwrap-requires : goal.unwrap-requires
unwrap-requires g c =
    let out = c.args.out.now in
    let left = length out - c.args.at in
    let n = length (bytes_in c.args.text) in
    let room : n ≤ length (take left (drop c.args.at out)) =
    omega (arith, c.requires, length-drop c.args.at out, length-take-le left (drop c.args.at out) (omega (arith, length-drop c.args.at out))) in
    accepted _ _ _ _ _ c.copy.ensures (long_enough n (length (take left (drop c.args.at out))) room)

pub returns-clause-after : goal.returns-clause-after
returns-clause-after g c was front w =
    let out = c.args.out.now in
    let h = rw c.unwrap.ensures at c.copy.ensures in
    lent front was out c.copy.new.out (bytes_in c.args.text) c.args.at c.unwrap.result w (omega (arith, c.requires, h.1.0)) h.1
