-- The words of commands.
use Rattle.std.specs.Prelude.{ℕ, List, codes}
use Rattle.script.specs.declared.command.Word.{Word}
use Rattle.script.specs.declared.command.Word.TheVariants.{Put, Cut, Splice, Mark, Text}

abbrev pub spelling : Word → List ℕ
spelling Put = codes "put"
spelling Cut = codes "cut"
spelling Splice = codes "splice"
spelling Mark = codes "mark"
spelling Text = codes "text"
