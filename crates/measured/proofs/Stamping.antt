-- Calls that each make a document.
use Rattle.std.proofs.Common.{◌≡◌, ℕ, ◌+◌, ◌≤◌, ltb, min, List, [], ◌∷◌, ◌++◌, length, get_or, take, drop, codes, Some, None, Ok, Err, Option, Result, sym, refl, ap, ◌∙◌, arith, length-append, Bor}
use Rattle.std.specs.List.{between}
use Rattle.std.proofs.Math.Seq.{get_or-append_seam, take-length}
use Rattle.std.proofs.lemmas.Slice.{between_from_start}
use Rattle.std.proofs.lemmas.Bool.{ltb-false, or_parts}
use Rattle.std.proofs.lemmas.List.{get_or_append_left, length-take, take_all}
use Rattle.rope.specs.Edits.{spliced}
use Rattle.refusal.specs.declared.limits.TheConstants.{MOST_BYTES, MOST_TEXT}
use Rattle.refusal.proofs.Firsts.{first_none}
use Rattle.shelf_view.specs.State.{text_at}
use Rattle.refusal.specs.declared.Refusal.{Refusal}
use Rattle.text_shelf.specs.Shelves.{parts, brought, measures, strings}
use Rattle.text_shelf.specs.Calls.{appended, accepted, answer, reasons, every_shelf}
use Rattle.text_shelf.specs.Steps.{Stepped, Steps, made}
use Rattle.text_shelf.specs.Steps.{reason_on}
use Rattle.text_shelf.specs.declared.call.Call.{Call}
use Rattle.text_shelf.specs.declared.call.Call.TheVariants.{Put, Take, Splice}
use Rattle.text_shelf.specs.declared.call.Answer.{Answer}
use Rattle.text_shelf.specs.declared.call.Answer.TheVariants.{Made}
use Rattle.text_shelf.specs.declared.shelf.Shelf.{Shelf}
use Rattle.measured.specs.Stamps.{stamped, HasText}

-- one place more
pub stamped_more : (text places : List ℕ) (a : ℕ) → stamped text (places ++ (a ∷ [])) ≡ spliced (stamped text places) a (a + 8) (codes "gatsomev")
stamped_more text [] a = refl
stamped_more text (b ∷ places) a = stamped_more (spliced text b (b + 8) (codes "gatsomev")) places a

-- an accepted call that appends this text
pub record Adds {V R : Type 0} {kind : _} (s t : Shelf V R kind) (call : Call) (n : ℕ) (text : List ℕ) : Type 0 where
  pub none : reason_on every_shelf s call ≡ None
  pub number : n ≡ length (strings (parts s)).texts
  pub texts : (strings (parts t)).texts ≡ (strings (parts s)).texts ++ (text ∷ [])
  pub build : t.store.build.now ≡ s.store.build.now

number_in : Answer → ℕ
number_in (Made n) = n
number_in x = 0

pub adds : {V R : Type 0} {kind : _} (s t : Shelf V R kind) (call : Call) (n k : ℕ) (text : List ℕ)
    → accepted s.store.build.now call (strings (parts s)) ≡ appended (strings (parts s)) text k → answer s.mark (strings (parts s)) call ≡ Made (length (strings (parts s)).texts)
    → Steps s call (made (Ok n)) t → Adds s t call n text
unfolding number_in
adds s t call n k text makes answers step = by (reason_on every_shelf s call) refl step
  where
    by : (w : Option Refusal) → reason_on every_shelf s call ≡ w → Stepped every_shelf w s call (made (Ok n)) t → Adds s t call n text
    by (Some e) h p = absurd (let z : ◌≡◌ {A = Result Answer Refusal} (Ok (Made n)) (Err e) = p.0 in cc)
    by None h p = record {
      none = h;
      number = let z : ◌≡◌ {A = Result Answer Refusal} (Ok (Made n)) (Ok (Made (length (strings (parts s)).texts))) = p.0 ∙ ap Ok answers in cc;
      texts = ap (λ z. z.texts) (p.1 ∙ makes);
      build = ap (λ z. z.build) p.2.0.same_brought;
    }

pub puts : {V R : Type 0} {kind : _} (s t : Shelf V R kind) (n : ℕ) {text : Bor (List ℕ)} → Steps s (Put text) (made (Ok n)) t → Adds s t (Put text) n text.now
puts s t n {text} step = adds s t (Put text) n (length text.now) text.now refl refl step

module _ {V R : Type 0} {kind : _} {s t : Shelf V R kind} {call : Call} {n : ℕ} {text : List ℕ} (a : Adds s t call n text) where
  long : length (strings (parts t)).texts ≡ length (strings (parts s)).texts + 1
  long = ap length a.texts ∙ length-append (strings (parts s)).texts (text ∷ [])

  -- the new document is there,
  pub new_there : HasText t n text
  new_there = (
    omega (arith, long, a.number),
    ap (λ ts. get_or ts n []) a.texts ∙ ap (λ k. get_or ((strings (parts s)).texts ++ (text ∷ [])) k []) a.number ∙ get_or-append_seam (strings (parts s)).texts text [] [],
  )

  -- and each that was there
  pub old_there : (d : ℕ) (old : List ℕ) → HasText s d old → HasText t d old
  old_there d old h = (
    omega (arith, long, h.0),
    ap (λ ts. get_or ts d []) a.texts ∙ get_or_append_left (strings (parts s)).texts (text ∷ []) [] d h.0 ∙ h.1,
  )

-- what is taken lies within the build text
pub within : {V R : Type 0} {kind : _} (s : Shelf V R kind) (a b : ℕ) → reason_on every_shelf s (Take a b) ≡ None → b ≤ length s.store.build.now
within s a b none =
    let pass = first_none (reasons (brought (parts s)) (measures (parts s)) (strings (parts s)) (Take a b)) none in
    ltb-false _ _ (or_parts (ltb b a) (ltb (length s.store.build.now) b) pass.0).1

-- the end of eight bytes that a splice took is no sum that was cut off
pub eight : {V R : Type 0} {kind : _} (s : Shelf V R kind) (d a b e : ℕ) → reason_on every_shelf s (Splice d a b e) ≡ None → b ≡ min (a + 8) 18446744073709551615 → b ≡ a + 8
eight s d a b e none cut =
    let z = strings (parts s) in
    let text = text_at z d in
    let pass = first_none (reasons (brought (parts s)) (measures (parts s)) z (Splice d a b e)) none in
    let part = or_parts (ltb b a) (ltb (length text) b) pass.1.0 in
    let short : length (spliced text a b (text_at z e)) ≤ MOST_TEXT = ltb-false _ _ pass.1.1.0 in
    omega (arith, cut, short, ltb-false _ _ part.0, ltb-false _ _ part.1, length-append (take a text) (text_at z e ++ drop b text), length-take a text)

-- the newest document with the stamp at one place more
pub stamps : {V R : Type 0} {kind : _} (s t : Shelf V R kind) (newest a b stamp n : ℕ) (text places : List ℕ) → HasText s newest (stamped text places) → HasText s stamp (codes "gatsomev")
    → b ≡ min (a + 8) 18446744073709551615 → Steps s (Splice newest a b stamp) (made (Ok n)) t
    → HasText t n (stamped text (places ++ (a ∷ []))) × HasText t stamp (codes "gatsomev")
stamps s t newest a b stamp n text places new old cut step =
    let z = strings (parts s) in
    let added = adds s t (Splice newest a b stamp) n 0 (spliced (text_at z newest) a b (text_at z stamp)) refl refl step in
    let there = new_there added in
    let same : spliced (text_at z newest) a b (text_at z stamp) ≡ stamped text (places ++ (a ∷ [])) =
    (λ i. spliced (new.1 i) a (eight s newest a b stamp added.none cut i) (old.1 i)) ∙ sym (stamped_more text places a) in
    ((there.0, there.1 ∙ same), old_there added stamp (codes "gatsomev") old)

-- a build text that is kept whole
pub whole : (build kept : List ℕ) → kept ≡ take MOST_BYTES build → length build ≤ length kept → between 0 (length build) kept ≡ build
whole build kept is fits =
    let all : take MOST_BYTES build ≡ build = take_all MOST_BYTES build (omega (arith, fits, ap length is, length-take MOST_BYTES build)) in
    between_from_start kept (length build) ∙ ap (take (length build)) (is ∙ all) ∙ take-length build
