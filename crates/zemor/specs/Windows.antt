-- Windows of at most five bytes, and reading them back.
use Rattle.std.specs.Prelude.{◌≡◌, ℕ, ◌-◌, ◌≤◌, true, List, length, drop, Some, None, Ok, Err, Option, Result, ◌≢◌}
use Rattle.refusal.specs.declared.Refusal.{Refusal}
use Rattle.refusal.specs.declared.Refusal.TheVariants.{NoWindow}
use Rattle.monoid.specs.Monoid.{fold_of, all_bytes}
use Rattle.zemor.specs.Values.{sl2}
use Rattle.zemor.specs.declared.matrix.Sl2.{Sl2}
use Rattle.zemor.specs.declared.window.Window.{Window}

-- the bytes of a window are the last of its five
abbrev pub window_text : Window → List ℕ
window_text s = drop (5 - s.len) s.bytes

-- a text of at most five bytes
pub record AtMostFive (w : List ℕ) : Type 0 where
  pub bytes : all_bytes w ≡ true
  pub few : length w ≤ 5

-- the window w, between what has the fingerprints front and back, gives the fingerprint x
pub record Gives (front back x : Sl2) (w : List ℕ) : Type 0 where
  pub short : AtMostFive w
  pub whole : sl2.joined front (sl2.joined (fold_of sl2 w) back) ≡ x

-- the answer is the one window that gives x, and every other gives another fingerprint; or no window gives x
abbrev pub ReadBack : Sl2 → Sl2 → Sl2 → Result Window Refusal → Type 0
ReadBack front back x (Ok s) = Gives front back x (window_text s) × ((w : List ℕ) → Gives front back x w → w ≡ window_text s)
ReadBack front back x (Err e) = (e ≡ NoWindow) × ((w : List ℕ) → Gives front back x w → ⊥)

-- the answer is the one text of at most five bytes that has the fingerprint x; or there is none
abbrev pub Windowed : Sl2 → Option Window → Type 0
Windowed x (Some s) =
    AtMostFive (window_text s) × (fold_of sl2 (window_text s) ≡ x)
    × ((w : List ℕ) → AtMostFive w → fold_of sl2 w ≡ x → w ≡ window_text s)
Windowed x None = (w : List ℕ) → AtMostFive w → fold_of sl2 w ≢ x
