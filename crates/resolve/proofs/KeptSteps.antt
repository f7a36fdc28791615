-- One more symbol that is kept of those of an object, or isn't.
use Rattle.std.proofs.Common.{◌≡◌, Bool, true, false, cond, List, [], ◌∷◌, ◌++◌, append-nil, sym, ◌∙◌, ap}
use Rattle.std.specs.Prelude.{filter}

module _ {X Y : Type 0} (g : List X → List Y) (kept : X → Bool) (x : X) (now new : List Y) where
  -- it is kept, and what is gathered of it is added
  pub added : (t : X) → t ≡ x → kept x ≡ true → new ≡ now ++ g (t ∷ []) → new ≡ now ++ g (filter kept (x ∷ []))
  added t same is more =
      more
      ∙ (ap (λ (y : X). now ++ g (y ∷ [])) same
      ∙ ap (λ (b : Bool). now ++ g (cond b (x ∷ []) [])) (sym is))

  -- it isn't, and nothing is
  pub skipped : g [] ≡ [] → kept x ≡ false → new ≡ now → new ≡ now ++ g (filter kept (x ∷ []))
  skipped nothing is same =
      same
      ∙ (sym (append-nil now)
      ∙ (ap (λ (ys : List Y). now ++ ys) (sym nothing)
      ∙ ap (λ (b : Bool). now ++ g (cond b (x ∷ []) [])) (sym is)))
