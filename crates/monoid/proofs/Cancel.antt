-- Cancelling in a group.
use Rattle.std.proofs.Common.{◌≡◌, sym, refl, ap, ◌∙◌}
use Rattle.monoid.specs.Monoid.{Model, Lawful, Inverse}

module _ {V R : Type 0} (m : Model V R) (inv : V → V) (l : Lawful m) (n : Inverse m inv) where
  op : V → V → V
  op = m.joined

  -- the one x for which f, x and b, joined in order, are w
  pub solved : (f w b : V) → m.joined f (m.joined (m.joined (m.joined (inv f) w) (inv b)) b) ≡ w
  unfolding op
  solved f w b =
      ap (op f) (l.assoc (op (inv f) w) (inv b) b ∙ ap (op (op (inv f) w)) (n.before b) ∙ l.right (op (inv f) w))
      ∙ sym (l.assoc f (inv f) w) ∙ ap (λ t. op t w) (n.after f) ∙ l.left w

  pub only : (f w b x : V) → m.joined f (m.joined x b) ≡ w → x ≡ m.joined (m.joined (inv f) w) (inv b)
  unfolding op
  only f w b x e =
      sym (ap (λ t. op (op (inv f) t) (inv b)) (sym e)
      ∙ ap (λ t. op t (inv b)) (sym (l.assoc (inv f) f (op x b)) ∙ ap (λ t. op t (op x b)) (n.before f) ∙ l.left (op x b))
      ∙ l.assoc x b (inv b) ∙ ap (op x) (n.after b) ∙ l.right x)

  -- a factor is cancelled on either side
  pub cancel : (f b x y : V) → m.joined f (m.joined x b) ≡ m.joined f (m.joined y b) → x ≡ y
  cancel f b x y e = let w = m.joined f (m.joined y b) in only f w b x e ∙ sym (only f w b y refl)
