-- Cut and splice, from what the trees tell.
use Rattle.std.proofs.Common.{◌≡◌, ℕ, ◌+◌, ◌-◌, ◌≤◌, max, [], ◌∷◌, ◌++◌, length, get_or, take, drop, None, Option, Ok, sym, refl, ap, ◌∙◌, subst, arith}
use Rattle.std.specs.List.{between}
use Rattle.refusal.specs.declared.limits.TheConstants.{MOST_PLACES, MOST_TEXT}
use Rattle.monoid.specs.Monoid.{Model}
use Rattle.rope.specs.Memory.{arena_of, seen}
use Rattle.rope.specs.Arena.{Root, height_of}
use Rattle.rope.specs.declared.store.Store.{Store}
use Rattle.rope.proofs.Keeping.{takes_within}
use Rattle.rope.specs.Edits.{spliced}
use Rattle.rope_cut.specs.Parts.{CutRoot, SplicedRoot, splice_cost, edit_need, text_in, height_in, higher}
use Rattle.shelf_view.specs.State.{Shelved, state_of, heights_of, text_at}
use Rattle.shelf_view.specs.Questions.{of_document, of_part}
use Rattle.std.proofs.lemmas.List.Edits.{length-between}
use Rattle.refusal.specs.declared.Refusal.{Refusal}
use Rattle.rope_read.specs.Texts.{bytes_in, whole_bytes, of_bounds, IsSlice}
use Rattle.rope_read.specs.declared.text.Span.{Span}
use Rattle.rope_read.specs.declared.text.Text.{Text}
use Rattle.rope_read.specs.declared.whole.Whole.{Whole}
use Rattle.rope_read.proofs.Slices.{bounds_lawful}
use Rattle.shelf_view.specs.Places.{Lies, IsDocument}
use Rattle.shelf_view.proofs.Placing.{short_of, document_text, document_high}
use Rattle.shelf_view.proofs.Reading.{part_is}
use Rattle.text_shelf.specs.Shelves.{Parts, parts, shelved, brought, measures, strings}
use Rattle.text_shelf.specs.Spans.{Spans}
use Rattle.text_shelf.specs.Calls.{every_shelf, memory, new_document, need}
use Rattle.text_shelf.specs.Whys.{why}
use Rattle.text_shelf.specs.Steps.{Does, reason_on}
use Rattle.text_shelf.specs.declared.call.Answer.TheVariants.{Made}
use Rattle.text_shelf.specs.declared.call.Call.TheVariants.{Cut, Splice}
use Rattle.rope.specs.Held.{Gains}
use Rattle.rope.specs.declared.lent.Lent.{Lent}
use Rattle.text_shelf.specs.declared.shelf.Shelf.{Shelf}
use Rattle.text_shelf.proofs.Reasoning.{cut_decided, splice_decided, told_spliced}
use Rattle.text_shelf.proofs.Appending.{Appends, Fits, append, appended_does, takes_grows, cut_fits, splice_fits}

-- the height of document d, as its door tells it
pub high_told : {V R : Type 0} {kind : _} {m : Model V R} (v s : Shelved R) → v ≡ s → (d : ℕ) {w : Whole V R kind} → IsDocument m v d w
    → (h : ℕ) → h ≡ height_of (seen w.view) w.root → h ≡ get_or (heights_of s) d 0
high_told v s same d is h told = told ∙ document_high is ∙ ap (λ z. get_or (heights_of z) d 0) same

-- whether x to y is a part of document d, as its text tells it
pub part_told : {V R : Type 0} {kind : _} {m : Model V R} (v : Shelved R) (d : ℕ) {w : Whole V R kind} → IsDocument m v d w → of_document (state_of v) d ≡ None
    → (text : Text V R kind) → bytes_in text ≡ whole_bytes w → (x y : ℕ) {o : Option Refusal} → of_bounds (bytes_in text) x y ≡ o → of_part (state_of v) d x y ≡ o
part_told v d is known text value x y h = part_is (state_of v) d x y (bytes_in text) (value ∙ document_text is) known ∙ h

-- the part x to y of document d, as its door and its slice tell it
module _ {V R : Type 0} {kind : _} {m : Model V R} (v : Shelved R) (d : ℕ) {w : Whole V R kind} (is : IsDocument m v d w) (text part : Text V R kind)
    (place : (text.view ≡ w.view) × (text.root ≡ w.root)) (bounds : (text.from ≡ 0) × (text.to ≡ length (whole_bytes w))) (value : bytes_in text ≡ whole_bytes w)
    (x y : ℕ) (slice : IsSlice text x y part) (lawful : of_bounds (bytes_in text) x y ≡ None) where
  pub spans : (p : Span) → p ≡ record { root = part.root; from = part.from; to = part.to } → Spans m v d x y p
  spans p at =
      let both = bounds_lawful (bytes_in text) x y lawful in
      rw at (record {
        lies = subst (Lies m v d) (sym (slice.root ∙ place.1)) is.lies;
        from_is = omega (arith, slice.from, bounds.0);
        to_is = omega (arith, slice.to, bounds.0);
        ordered = both.0;
        within = omega (arith, both.1, ap length (value ∙ document_text is));
      })

  -- why a cut of it is refused
  pub cut_told : (z : Shelf V R kind) → v ≡ shelved (parts z) → of_document (state_of v) d ≡ None → (h : ℕ) → h ≡ height_of (seen w.view) w.root
      → (m : ℕ) → m ≡ edit_need h → (o : Option Refusal) → why (memory m) z ≡ o → reason_on every_shelf z (Cut d x y) ≡ o
  cut_told z same one h high m need o decided =
      cut_decided (brought (parts z)) (measures (parts z)) v (shelved (parts z)) same d x y h o (part_told v d is one text value x y lawful)
      (high_told v (shelved (parts z)) same d is h high) (sym (ap (λ q. why (memory q) z) need) ∙ decided)

  -- and the length of the document with document e in its place
  pub spliced_told : (s : Shelved R) → v ≡ s → (e : ℕ) {u : Whole V R kind} → IsDocument m v e u → (n l k : ℕ)
      → n ≡ length (whole_bytes w) → l ≡ length (bytes_in part) → k ≡ length (whole_bytes u) → n - l + k ≡ length (spliced (text_at (state_of s) d) x y (text_at (state_of s) e))
  spliced_told s same e other n l k len-d len-part len-e =
      let both = bounds_lawful (bytes_in text) x y lawful in
      ap (λ z. n - z + k) (len-part ∙ ap length slice.bytes ∙ length-between (bytes_in text) x y both.1)
      ∙ told_spliced v s same d e x y n k (len-d ∙ ap length (document_text is)) (len-e ∙ ap length (document_text other)) both.0 (omega (arith, both.1, ap length (value ∙ document_text is)))

  -- and why the splice is refused
  pub splice_told : (z : Shelf V R kind) → v ≡ shelved (parts z) → (e : ℕ) {u : Whole V R kind} → IsDocument m v e u
      → of_document (state_of v) d ≡ None → of_document (state_of v) e ≡ None
      → (n l k : ℕ) → n ≡ length (whole_bytes w) → l ≡ length (bytes_in part) → k ≡ length (whole_bytes u)
      → (h i j : ℕ) → h ≡ max i j → i ≡ height_of (seen w.view) w.root → j ≡ height_of (seen u.view) u.root
      → (m : ℕ) → m ≡ edit_need h → (o : Option Refusal) → why (new_document (n - l + k) m) z ≡ o → reason_on every_shelf z (Splice d x y e) ≡ o
  splice_told z same e other one two n l k len-d len-part len-e h i j high high-d high-e m need o decided =
      let s = shelved (parts z) in
      splice_decided (brought (parts z)) (measures (parts z)) v s same d x y e one two (part_told v d is one text value x y lawful) _ h i j o
      (spliced_told s same e other n l k len-d len-part len-e) high (high_told v s same d is i high-d) (high_told v s same e other j high-e)
      (sym (ap (λ q. why (new_document (n - l + k) q) z) need) ∙ decided)

-- the part of a document is not too long, and there is a place for it
pub part_fits : {V R : Type 0} {kind : _} {m : Model V R} (s : Shelf V R kind) (d x y : ℕ) (p : Span) → Spans m (shelved (parts s)) d x y p
    → reason_on every_shelf s (Cut d x y) ≡ None → Fits (brought (parts s)) (strings (parts s)) (between x y (text_at (strings (parts s)) d))
part_fits s d x y p span none =
    let short : length (text_at (strings (parts s)) d) ≤ MOST_TEXT = omega (arith, ap length span.lies.text_is, short_of (arena_of s.store) p.root span.lies.fine_root) in
    cut_fits (brought (parts s)) (measures (parts s)) (strings (parts s)) d x y short none

module _ {V R : Type 0} {kind : _} (m : Model V R) (s : Shelf V R kind) (store : Store V R kind) (places : Lent Root MOST_PLACES) (root : Root) (pushes : Gains s.places places (root ∷ [])) where
  abbrev pub after : Parts V R kind
  after = record { store = store; places = places; draft = s.draft; mark = s.mark; opened = s.opened }

  module _ (d x y : ℕ) (p : Span) (span : Spans m (shelved (parts s)) d x y p) where
    pub cut_appends : reason_on every_shelf s (Cut d x y) ≡ None
        → CutRoot s.store store root p.root p.from p.to
        → Appends (parts s) after (between x y (text_at (strings (parts s)) d)) [] (need (measures (parts s)) (Cut d x y)) (height_of (arena_of store) root)
    cut_appends none made =
        let takes = takes_within (need (measures (parts s)) (Cut d x y)) (omega (arith, span.lies.high)) made.takes in
        append s store [] (need (measures (parts s)) (Cut d x y)) (takes_grows s.store store _ takes) places root (between x y (text_at (strings (parts s)) d)) pushes made.root
        (made.text_is ∙ (λ i. between (span.from_is i) (span.to_is i) (sym span.lies.text_is i))) (part_fits s d x y p span none)

    pub cut_does : reason_on every_shelf s (Cut d x y) ≡ None → CutRoot s.store store root p.root p.from p.to → (k : ℕ) → k ≡ s.places.used + 1
        → Does every_shelf s (Cut d x y) (Ok (Made k)) after
    cut_does none made k n =
        let a = cut_appends none made in
        appended_does s (Cut d x y) k _ n refl refl a (a.draft, omega (arith, a.newest, made.low, span.lies.high))

    pub splice_appends : (e : ℕ) (q : Root) → Lies m (shelved (parts s)) e q → reason_on every_shelf s (Splice d x y e) ≡ None
        → SplicedRoot s.store store root p.root p.from p.to q (splice_cost (higher s.store p.root q) (height_in store root))
        → Appends (parts s) after (spliced (text_at (strings (parts s)) d) x y (text_at (strings (parts s)) e)) [] (need (measures (parts s)) (Splice d x y e))
        (height_of (arena_of store) root)
    splice_appends e q lies none made =
        let high : higher s.store p.root q ≡ max (get_or (measures (parts s)).heights d 0) (get_or (measures (parts s)).heights e 0) = λ i. max (sym span.lies.high i) (sym lies.high i) in
        let takes = takes_within (need (measures (parts s)) (Splice d x y e)) (omega (arith, high, made.low)) made.takes in
        let front : take p.from (text_in s.store p.root) ≡ take x (text_at (strings (parts s)) d) = λ i. take (span.from_is i) (sym span.lies.text_is i) in
        let back : drop p.to (text_in s.store p.root) ≡ drop y (text_at (strings (parts s)) d) = λ i. drop (span.to_is i) (sym span.lies.text_is i) in
        append s store [] (need (measures (parts s)) (Splice d x y e)) (takes_grows s.store store _ takes) places root (spliced (text_at (strings (parts s)) d) x y (text_at (strings (parts s)) e)) pushes made.root
        (made.text_is ∙ (λ i. front i ++ (sym lies.text_is i ++ back i))) (splice_fits (brought (parts s)) (measures (parts s)) (strings (parts s)) d x y e none)

    pub splice_does : (e : ℕ) (q : Root) → Lies m (shelved (parts s)) e q → reason_on every_shelf s (Splice d x y e) ≡ None
        → SplicedRoot s.store store root p.root p.from p.to q (splice_cost (higher s.store p.root q) (height_in store root)) → (k : ℕ) → k ≡ s.places.used + 1
        → Does every_shelf s (Splice d x y e) (Ok (Made k)) after
    splice_does e q lies none made k n =
        let a = splice_appends e q lies none made in
        appended_does s (Splice d x y e) k _ n refl refl a (a.draft, omega (arith, a.newest, made.low, span.lies.high, lies.high))
