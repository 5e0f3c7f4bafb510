-- What is promised of lists of calls, by the list of strings.
use Rattle.std.specs.Prelude.{◌≡◌, ℕ, ◌+◌, ◌<◌, ◌≤◌, true, false, Bool, List, [], ◌∷◌, length, Some, None, Ok, Err, Option, Result, is_ok, slice_index, slice_index_or}
use Rattle.monoid.specs.Monoid.{Model, fold_of}
use Rattle.shelf_view.specs.State.{State, text_at, kept_values}
use Rattle.refusal.specs.declared.Refusal.{Refusal}
use Rattle.text_shelf.specs.Shelves.{Brought, Measures, parts, shelved, brought, measures, strings}
use Rattle.text_shelf.specs.Rules.{Rules, reason, next}
use Rattle.text_shelf.specs.Reaches.{Reached, fresh, called}
use Rattle.text_shelf.specs.declared.call.Answer.{Answer}
use Rattle.text_shelf.specs.declared.shelf.Shelf.{Shelf}

-- on a fresh shelf: the empty text alone, no draft, none opened, no added byte used
abbrev pub nothing : State
nothing = record { texts = [] ∷ []; draft = None; opened = 0; added = 0 }

-- the list of strings after these calls, fed only the calls, the build text and which of them were accepted
abbrev pub after : {C : Type 0} → Rules C → List ℕ → State → List C → List (Result Answer Refusal) → State
after r build s [] xs = s
after r build s (c ∷ cs) [] = s
after r build s (c ∷ cs) (x ∷ xs) = after r build (next r build c (is_ok x) s) cs xs

-- what is answered, by the reason to refuse: the refusal, or where there is none the answer
abbrev pub answered : Option Refusal → Answer → Result Answer Refusal
answered (Some e) a = Err e
answered None a = Ok a

-- how heights and records used go on from t to u over a call: a refused one changes nothing; after an accepted one no record
-- is given back, at most those of its need are taken, every document that was there keeps its height, and those of the draft
-- and of a new document are as the rules say
pub record Grown {C : Type 0} (r : Rules C) (c : C) (s : State) (t u : Measures) : Type 0 where
  pub more : t.used ≤ u.used
  pub cost : u.used ≤ t.used + r.need t c
  pub heights : (d : ℕ) → d < length s.texts → slice_index u.heights d ≡ slice_index t.heights d
  pub height_rule : r.height_rule c t u

abbrev pub Goes : {C : Type 0} → Rules C → Bool → C → State → Measures → Measures → Type 0
Goes r true c s t u = Grown r c s t u
Goes r false c s t u = u ≡ t

-- the call c, made where the list of strings is z and the shelf tells t: it is refused exactly where a numbered reason holds,
-- with the first that does, and otherwise answers what the list of strings says
pub record OneCall {C : Type 0} (r : Rules C) (b : Brought)
    (z : State) (t : Measures) (c : C) (a : Result Answer Refusal) (u : Measures) : Type 0 where
  pub answer : a ≡ answered (reason r b t z c) (r.answer b.mark z c)
  pub goes : Goes r (is_ok a) c z t u

-- so it is of each call of the list by which a shelf was reached, by the very shelves that it went through
abbrev pub Each : {C : Type 0} {r : Rules C} {V R : Type 0} {kind : _} {b : Brought}
    {calls : List C} {answers : List (Result Answer Refusal)} {s : Shelf V R kind} → Reached r b calls answers s → Type 0
Each (fresh f is) = Unit {0}
Each {r = r} {b = b} {s = s} (called {cs = cs} {xs = xs} {s = t} before c a step) =
    Each before × OneCall r b (after r b.build nothing cs xs) (measures (parts t)) c a (measures (parts s))

-- what is promised of the list by which a shelf was reached
pub record Kept {C : Type 0} {r : Rules C} {V R : Type 0} {kind : _} (m : Model V R) {b : Brought}
    {calls : List C} {answers : List (Result Answer Refusal)} {s : Shelf V R kind} (h : Reached r b calls answers s) : Type 0 where
  -- build text, mark, and how much memory there is, are as they were brought
  pub memory : brought (parts s) ≡ b
  pub each : Each h
  -- documents, draft, drafts opened and added bytes used are what the list of strings makes of these calls
  pub state : strings (parts s) ≡ after r b.build nothing calls answers
  -- the value kept at the top of a document, which is the summary told of it, is the fold of its bytes
  pub folds : (d : ℕ) → d < length (strings (parts s)).texts
      → slice_index_or (kept_values m (shelved (parts s))) d m.empty ≡ fold_of m (text_at (after r b.build nothing calls answers) d)
