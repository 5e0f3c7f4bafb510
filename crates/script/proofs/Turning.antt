-- Turns of a script.
use Rattle.std.proofs.Common.{◌≡◌, ℕ, ◌<◌, ◌≤◌, List, ◌++◌, length, take, drop, Ok, Err, Result, sym, ap, ◌∙◌, subst, arith}
use Rattle.std.proofs.lemmas.List.{take_at}
use Rattle.refusal.specs.Writing.{Stands}
use Rattle.netstring.proofs.Puts.{long}
use Rattle.refusal.specs.declared.Refusal.{Refusal}
use Rattle.text_shelf.specs.declared.shelf.Shelf.{Shelf}
use Rattle.script.specs.Commands.{content, ReadAt, Misread}
use Rattle.script.specs.Commands.Misread.{no_netstring, no_command}
use Rattle.script.specs.Answers.{Says, WritesSaid, Turn, Turns, TurnsIn, answer_text}
use Rattle.script.specs.Answers.Turn.{over, answered}
use Rattle.script.specs.Answers.Turns.{more}
use Rattle.script.specs.Answers.TurnsIn.{last}
use Rattle.script.specs.declared.command.Command.{Command}
use Rattle.script.proofs.Parts.{spans}

module _ {V R : Type 0} {kind : _} (script : List ℕ) (i : ℕ) (s t : Shelf V R kind) (command : Result Command Refusal) (j : ℕ) where
  -- a command that is answered,
  pub turned : (said : Result (List ℕ) Refusal) (n : ℕ) (was is : List ℕ) → i < length script → ReadAt script i command j → Says s command said t → WritesSaid said was (Ok n) is
      → (a : List ℕ) × (Turn script i s a j t × Stands a was n is)
  turned (Ok text) n was is h r y w = (answer_text i (Ok text), (answered command (Ok text) h r y, w))
  turned (Err e) n was is h r y w = absurd w

  -- and one that is refused
  pub turned_away : (said : Result (List ℕ) Refusal) (why : Refusal) (was is : List ℕ) (n : ℕ) (new : List ℕ) → i < length script → ReadAt script i command j → Says s command said t
      → WritesSaid said was (Err why) is → Stands (answer_text i (Err why)) is n new → (a : List ℕ) × (Turn script i s a j t × Stands a was n new)
  turned_away (Ok text) why was is n new h r y w z = absurd w
  turned_away (Err e) why was is n new h r y w z =
      (answer_text i (Err e), (answered command (Err e) h r y, subst (λ x. Stands (answer_text i (Err x)) was n new) w.0 (subst (λ x. Stands (answer_text i (Err why)) x n new) w.1 z)))

-- each turn goes on behind its place
pub goes_on : {V R : Type 0} {kind : _} (script : List ℕ) (i : ℕ) (s : Shelf V R kind) (a : List ℕ) (j : ℕ) (t : Shelf V R kind) → i < length script → Turn script i s a j t → i < j
goes_on script i s a j t h (over k) = absurd (omega arith)
goes_on script i s a j t h (answered (Ok k) said l r y) = omega (arith, spans script (content k) i j r.stands, long (content k))
goes_on script i s a j t h (answered (Err e) said l r y) = misses e j r
  where
    misses : (e : Refusal) (j : ℕ) → Misread script i e j → i < j
    misses e j (no_netstring x) = h
    misses e j (no_command {c} r x) = omega (arith, spans script c i j r, long c)

-- and none beyond the script's end
pub ends_within : {V R : Type 0} {kind : _} (script : List ℕ) (i : ℕ) (s : Shelf V R kind) (a : List ℕ) (j : ℕ) (t : Shelf V R kind) → Turn script i s a j t → j ≤ length script
ends_within script i s a j t (over k) = omega arith
ends_within script i s a j t (answered (Ok k) said l r y) = r.stands.within
ends_within script i s a j t (answered (Err e) said l r y) = misread e j r
  where
    misread : (e : Refusal) (j : ℕ) → Misread script i e j → j ≤ length script
    misread e j (no_netstring x) = omega arith
    misread e j (no_command r x) = r.within

-- turns that end before the script does were all answered
all_but_one : {V R : Type 0} {kind : _} {script : List ℕ} {i j k : ℕ} {s t u : Shelf V R kind} {before a : List ℕ} → Turns script i s before j t → Turn script j t a k u → k < length script → Turns script i s (before ++ a) k u
all_but_one before (over beyond) h = absurd (omega arith)
all_but_one before (answered command said l r y) h = more before l (answered command said l r y)

pub all_turns : {V R : Type 0} {kind : _} {n : ℕ} {script : List ℕ} {i : ℕ} {s : Shelf V R kind} {a : List ℕ} {k : ℕ} {t : Shelf V R kind} → TurnsIn n script i s a k t → k < length script → Turns script i s a k t
all_turns (last before room turn) h = all_but_one before turn h

-- what was written, of the buffer that it lies in
pub written_part : (a was is : List ℕ) (n : ℕ) → Stands a was n is → take n is ≡ a
written_part a was is n w = ap (take n) w.2 ∙ take_at a (drop n was) n (sym w.0)
