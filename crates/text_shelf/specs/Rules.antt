-- The rules of an alphabet of calls that change a shelf. What is said of lists of calls is said of any alphabet.
use Rattle.std.specs.Prelude.{ℕ, Bool, true, false, List, Option}
use Rattle.refusal.specs.Refusals.{Reasons, first}
use Rattle.shelf_view.specs.State.{State}
use Rattle.refusal.specs.declared.Refusal.{Refusal}
use Rattle.text_shelf.specs.Shelves.{Brought, Measures}
use Rattle.text_shelf.specs.declared.call.Answer.{Answer}

pub record Rules (C : Type 0) : Type 1 where
  -- the reasons to refuse a call, in the order in which they are tested
  pub reasons : Brought → Measures → State → C → Reasons
  -- what an accepted call makes of the list of strings, over this build text, and what it answers on a shelf of this mark
  pub accepted : List ℕ → C → State → State
  pub answer : ℕ → State → C → Answer
  -- the records that it may take, and the text that it writes behind the added text
  pub need : Measures → C → ℕ
  pub brings : C → List ℕ
  -- what is told before it and after it of the heights of the open draft and of a document that it makes
  pub height_rule : C → Measures → Measures → Type 0

-- the first of them that holds, which is the refusal that the call answers; or none
abbrev pub reason : {C : Type 0} → Rules C → Brought → Measures → State → C → Option Refusal
reason r b t s call = first (r.reasons b t s call)

-- one step of the list of strings: a refused call leaves it as it is
abbrev pub next : {C : Type 0} → Rules C → List ℕ → C → Bool → State → State
next r build call true s = r.accepted build call s
next r build call false s = s
