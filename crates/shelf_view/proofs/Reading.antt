-- Reading a window back.
use Rattle.std.proofs.Common.{◌≡◌, ℕ, ◌<◌, ◌≤◌, List, [], ◌∷◌, ◌++◌, length, take, drop, Some, None, Ok, Err, Option, Result, IfErr, nat_lt, unwrap_or, sym, refl, ap, ◌∙◌, subst, arith}
use Rattle.std.proofs.lemmas.Bool.Decides.{nat_tests}
use Rattle.std.proofs.lemmas.Grind.{common_steps}
use Rattle.monoid.specs.Monoid.{Model, fold_of}
use Rattle.monoid.specs.declared.line_column.LineColumn.{LineColumn}
use Rattle.monoid.specs.declared.pair.Pair.{Pair}
use Rattle.monoid.proofs.Folds.{fold_append}
use Rattle.zemor.specs.Values.{sl2}
use Rattle.zemor.specs.Windows as window
use Rattle.zemor.specs.Windows.{ReadBack, window_text}
use Rattle.zemor.specs.Written.{read_hex, ReadHex}
use Rattle.zemor.specs.declared.matrix.Entries.{Entries}
use Rattle.zemor.specs.declared.matrix.Sl2.{Sl2}
use Rattle.zemor.specs.declared.window.Window.{Window}
use Rattle.zemor.specs.Laws.{lawful}
use Rattle.zemor.proofs.Writing.{hex_back}
use Rattle.refusal.specs.Writing.{Writes, of_room}
use Rattle.refusal.proofs.Room.{long_enough}
use Rattle.rope_read.specs.Texts.{bytes_in, whole_bytes, bad_part, of_bounds, IsSlice}
use Rattle.std.specs.List.{between}
use Rattle.rope.specs.Memory.{seen}
use Rattle.refusal.specs.Refusals.{Answers, Reasons}
use Rattle.rope_read.specs.declared.text.Text.{Text}
use Rattle.rope_read.specs.declared.whole.Whole.{Whole}
use Rattle.shelf_view.specs.Places.{Lies, IsDocument, IsPart}
use Rattle.shelf_view.proofs.Placing.{document_text}
use Rattle.refusal.proofs.Firsts.{passed, first_not, first_then}
use Rattle.shelf_view.specs.Questions.{of_document, of_part, of_copy}
use Rattle.shelf_view.specs.State.{State, Shelved, state_of, text_at, unknown}
use Rattle.shelf_view.specs.Marked.{marked, fingerprint, written, in_part, in_between, GivesDigits, earlier, misshapen, none_gives, Unread, ReadsBack}
use Rattle.refusal.specs.declared.Refusal.{Refusal}
use Rattle.refusal.specs.declared.Refusal.TheVariants.{NoDocument, BadPart, SmallBuffer}
use Rattle.shelf_view.proofs.Marking.{first_half}

-- a fingerprint is told by its digits
written_back : (x y : Sl2) → written x ≡ written y → x ≡ y
written_back x y e = ap (λ o. unwrap_or o x) (sym (hex_back x).1 ∙ ap read_hex e ∙ (hex_back y).1)

three : (u w v : List ℕ) → fingerprint (u ++ (w ++ v)) ≡ sl2.joined (fingerprint u) (sl2.joined (fingerprint w) (fingerprint v))
three u w v = fold_append sl2 lawful u (w ++ v) ∙ ap (sl2.joined (fingerprint u)) (fold_append sl2 lawful w v)

-- between the fingerprints of what stands before and behind a part, a window gives what it gives in the part's place
pub part_between : (text : List ℕ) (a b : ℕ) (front back : Sl2) → front ≡ fingerprint (take a text) → back ≡ fingerprint (drop b text) → in_between front back ≡ in_part text a b
part_between text a b front back ef eb =
    λ i w. (ap (λ f. in_between f back w) ef ∙ ap (λ v. in_between (fingerprint (take a text)) v w) eb ∙ sym (three (take a text) w (drop b text))) i

module _ (digits : List ℕ) (x front back : Sl2) (is : written x ≡ digits) where
  by_value : (w : List ℕ) → GivesDigits (in_between front back) digits w → window.Gives front back x w
  by_value w g = record { short = g.short; whole = written_back _ x (g.same ∙ sym is) }

  by_digits : (w : List ℕ) → window.Gives front back x w → GivesDigits (in_between front back) digits w
  by_digits w g = record { short = g.short; same = ap written g.whole ∙ is }

enough : (n : ℕ) → 5 ≤ n → of_room 5 n ≡ None
enough n k = grind (arith, common_steps, nat_tests)

-- what is refused before a window is looked for
pub unread_room : (n : ℕ) (digits : List ℕ) (whole : List ℕ → Sl2) → n < 5 → Unread (of_room 5 n) whole digits SmallBuffer
unread_room n digits whole k = earlier (grind (arith, common_steps, nat_tests))

pub unread_form : (n : ℕ) (digits : List ℕ) (r : Result Sl2 Refusal) → 5 ≤ n → ReadHex digits r → IfErr r (λ e. (whole : List ℕ → Sl2) → Unread (of_room 5 n) whole digits e)
unread_form n digits (Ok x) k h = tt
unread_form n digits (Err e) k h = λ whole. subst (Unread (of_room 5 n) whole digits) (sym h.0) (misshapen (enough n k) h.1)

pub unread_as : {why other : Option Refusal} {whole : List ℕ → Sl2} {digits : List ℕ} {e : Refusal} → why ≡ other → Unread why whole digits e → Unread other whole digits e
unread_as {whole} {digits} {e} is u = subst (λ y. Unread y whole digits e) is u

-- how read-back between fingerprints ends: for want of room, for digits that are not well formed, with no window and with one
module _ (old digits : List ℕ) (front back : Sl2) where
  pub refused_buffer : length old < 5 → ReadsBack (of_room 5 (length old)) (in_between front back) digits old old (Err SmallBuffer)
  refused_buffer k = (unread_room (length old) digits (in_between front back) k, refl)

  module _ (k : 5 ≤ length old) where
    pub refused_form : (e : Refusal) → ReadHex digits (Err e) → ReadsBack (of_room 5 (length old)) (in_between front back) digits old old (Err e)
    refused_form e r = (unread_form (length old) digits (Err e) k r (in_between front back), refl)

    module _ (x : Sl2) (r : ReadHex digits (Ok x)) where
      pub refused_window : (e : Refusal) → ReadBack front back x (Err e) → ReadsBack (of_room 5 (length old)) (in_between front back) digits old old (Err e)
      refused_window e none =
          subst (λ z. ReadsBack (of_room 5 (length old)) (in_between front back) digits old old (Err z)) (sym none.0)
          (none_gives (enough (length old) k) r.0 (λ w g. none.1 w (by_value digits x front back r.2 w g)), refl)

      pub told : (w : Window) (text new : List ℕ) (o : Result ℕ Refusal) → ReadBack front back x (Ok w) → text ≡ window_text w
          → Writes (of_room (length text) (length old)) text old new o → ReadsBack (of_room 5 (length old)) (in_between front back) digits old new o
      told w text new (Ok m) some is h = (
        enough (length old) k,
        r.0,
        (
          window_text w,
          (
            by_digits digits x front back r.2 (window_text w) some.0,
            λ v g. some.1 v (by_value digits x front back r.2 v g),
            h.1.0 ∙ ap length is,
            h.1.2 ∙ ap (λ t. t ++ drop m old) is,
          ),
        ),
      )
      told w text new (Err e) some is h =
          let none = long_enough (length text) (length old) (omega (arith, ap length is, some.0.short.few)) in
          let clash : ◌≡◌ {A = Option Refusal} None (Some e) = sym none ∙ h.0 in
          absurd (let z : ◌≡◌ {A = ℕ} 0 1 = cc in omega arith)

-- what a marked shelf's document is read back from
module _ {R : Type 0} {kind : _} (s : Shelved R) (d a b : ℕ) (text : List ℕ) (is : text ≡ text_at (state_of s) d)
    (before behind : Text (Pair Sl2 LineColumn) (Pair Entries LineColumn) kind) (v w : Pair Sl2 LineColumn)
    (ev : v ≡ fold_of marked (bytes_in before)) (ew : w ≡ fold_of marked (bytes_in behind))
    (eb : bytes_in before ≡ take a text) (ec : bytes_in behind ≡ drop b text) where
  pub around_part : in_between v.first w.first ≡ in_part (text_at (state_of s) d) a b
  around_part =
      part_between (text_at (state_of s) d) a b v.first w.first
      (first_half (bytes_in before) v ev ∙ ap fingerprint (eb ∙ ap (take a) is))
      (first_half (bytes_in behind) w ew ∙ ap fingerprint (ec ∙ ap (drop b) is))

-- where the document is there, its text decides on the part
pub part_is : (s : State) (d a b : ℕ) (text : List ℕ) → text ≡ text_at s d → of_document s d ≡ None → of_part s d a b ≡ of_bounds text a b
part_is s d a b text is h =
    let p = passed (unknown s d) NoDocument [] h in
    first_not NoDocument ((bad_part (text_at s d) a b, BadPart) ∷ []) p.0 ∙ ap (λ t. of_bounds t a b) (sym is)

-- and where the part is there too, the room of a window decides
pub room_is : (s : State) (d a b n : ℕ) (text : List ℕ) → text ≡ text_at s d → of_document s d ≡ None → of_bounds text a b ≡ None → of_room 5 n ≡ of_copy s d a b 5 n
room_is s d a b n text is there lies =
    let part : Reasons = (unknown s d, NoDocument) ∷ (bad_part (text_at s d) a b, BadPart) ∷ [] in
    sym (first_then part ((nat_lt n 5, SmallBuffer) ∷ []) (part_is s d a b text is there ∙ lies))

-- a part of a document, from its slice
pub part_told : {V R : Type 0} {kind : _} {m : Model V R} (s : Shelved R) (d a b : ℕ) (w : Whole V R kind) (text : Text V R kind) (r : Result (Text V R kind) Refusal)
    → of_document (state_of s) d ≡ None → IsDocument m s d w → (text.view ≡ w.view) × (text.root ≡ w.root) → (text.from ≡ 0) × (text.to ≡ length (whole_bytes w)) → bytes_in text ≡ whole_bytes w
    → Answers (of_bounds (bytes_in text) a b) (IsSlice text a b) r → Answers (of_part (state_of s) d a b) (IsPart m s d a b) r
part_told {m = m} s d a b w text (Ok t) none is place bounds value h =
    let slice = h.1 in (
      part_is (state_of s) d a b (bytes_in text) (value ∙ document_text is) none ∙ h.0,
      record {
        memory = ap seen (slice.view ∙ place.0) ∙ is.memory;
        lies = subst (Lies m s d) (sym (slice.root ∙ place.1)) is.lies;
        from_is = omega (arith, slice.from, bounds.0);
        to_is = omega (arith, slice.to, bounds.0);
        text_is = slice.bytes ∙ ap (between a b) (value ∙ document_text is);
      },
    )
part_told s d a b w text (Err e) none is place bounds value h = part_is (state_of s) d a b (bytes_in text) (value ∙ document_text is) none ∙ h
